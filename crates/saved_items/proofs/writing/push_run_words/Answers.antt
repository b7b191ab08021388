use Rattle.std.proofs.Common.{◌∷◌, ◌++◌, sym, ap, ◌∙◌, codes}
use Rattle.std.proofs.lemmas.Result.{on_ok_weaker}
use Rattle.saved_items.specs.SavedBooks.{day_word}
use Rattle.saved_items.specs.private.SavedBooks.{values_text}
use Rattle.saved_items.proofs.PieceLemmas.{five_pieces, join_values}
use Rattle.saved_items.proofs.writing.push_run_words.Goals as goal

pub returns : goal.returns
returns c =
    let run = c.args.run.now in
    let old = c.args.out.now.items in
    on_ok_weaker c.push_values.result
    (λ written. five_pieces old (codes "run ") run.employee (codes " ") (day_word run.day) (values_text run.values)
    c.in_ok-push.ensures (c.in_ok-push-2.ensures ∙ ap (λ e. c.push.new.out.items ++ e) c.bytes.ensures.bytes)
    c.in_ok-push-3.ensures c.in_ok-push_day.ensures written
    ∙ ap (λ t. old ++ (codes "run " ++ (run.employee ++ (32 ∷ t)))) (sym (join_values (day_word run.day) run.values)))
    c.push_values.ensures
