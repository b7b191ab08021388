use Rattle.std.proofs.Common.{◌∙◌, ◌++◌, sym, ap, ap₂}
use Rattle.std.specs.Prelude.{codes, string_bytes}
use Rattle.std.proofs.lemmas.Result.{on_ok_weaker}
use Rattle.plan_answers.specs.Lines.{line as ended, spaced}
use Rattle.saved_items.specs.SavedBooks.{day_word}
use Rattle.script_steps.specs.LineTexts.{trial_line}
use Rattle.script_steps.proofs.DoneLemmas.{ended_due, ended_value}
use Rattle.script_steps.proofs.trial.write_row.Goals as goal

pub returns-in-Changed : goal.returns-in-Changed
returns-in-Changed c =
    let s = c.in-Changed in
    let day = day_word s.key.day in
    let same = ended_due (codes "changed") s.key.employee day c.shown_word-old.result.now c.shown_word-new.result.now
    ∙ ap₂ (λ x y. ended (codes "changed " ++ spaced s.key.employee (spaced day (spaced x y))))
    c.shown_word-old.ensures c.shown_word-new.ensures
    ∙ sym (ap trial_line s.is) in
    on_ok_weaker c.write.result (λ e. e ∙ ap (λ t. string_bytes c.args.text.now ++ t) same) c.write.ensures.bytes

pub returns-in_ok-new-in-Value : goal.returns-in_ok-new-in-Value
returns-in_ok-new-in-Value c =
    let s = c.in-Value in
    let day = day_word s.key.day in
    let same = ended_value (codes "value") s.key.employee day s.name (string_bytes c.in_ok-old-in-Value.old)
    (string_bytes c.in_ok-new-in-Value.new)
    ∙ ap₂ (λ x y. ended (codes "value " ++ spaced s.key.employee (spaced day (spaced s.name (spaced x y)))))
    c.in_ok-old-in-Value.ensures c.in_ok-new-in-Value.ensures
    ∙ sym (ap trial_line s.is) in
    on_ok_weaker c.write-in-Value.result (λ e. e ∙ ap (λ t. string_bytes c.args.text.now ++ t) same)
    c.write-in-Value.ensures.bytes
