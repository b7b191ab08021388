use Rattle.std.proofs.Common.{◌≡◌, ap, sym, ◌∙◌}
use Rattle.std.specs.List.{join_with_byte}
use Rattle.saved_items.specs.private.LineViews.{texts}
use Rattle.saved_items.specs.SavedBooks.{run_words}
use Rattle.saved_items.proofs.WordListLemmas.{text_words, some_once}
use Rattle.saved_items.proofs.run_words.read_run.Goals as goal

pub returns-in_default : goal.returns-in_default
returns-in_default c = λ r h e.
    let read = c.in_ok-run.ensures r h (text_words c.args.text.now (texts c.args.words.now) r c.requires h e) in
    let clash = sym c.in_default.is ∙ read in
    cc

pub returns-then-not-branch : goal.returns-then-not-branch
returns-then-not-branch c = λ r h e.
    let read = c.in_ok-run.ensures r h (text_words c.args.text.now (texts c.args.words.now) r c.requires h e) in
    let same : c.in-Some.run' ≡ r = some_once (sym c.in-Some.is ∙ read) in
    let other = rw c.if-not-branch.true at c.in_ok-is_written.ensures.text in
    other (e ∙ ap (λ x. join_with_byte 32 (run_words x)) (sym same))
