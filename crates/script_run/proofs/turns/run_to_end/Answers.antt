use Rattle.std.proofs.Common.{◌∙◌, ap}
use Rattle.std.specs.Prelude.{is_some}
use Rattle.script_run.proofs.TurnLaws.{told_same, meets_shown}
use Rattle.script_run.proofs.turns.run_to_end.Goals as goal

pub returns-in-Ok-clause-script : goal.returns-in-Ok-clause-script
returns-in-Ok-clause-script g c = λ script is.
    let first = ap (λ v. is_some v) c.new-reading.ensures.kept in
    meets_shown (told_same _ _ _ first) (told_same _ _ _ (c.read_to_end.ensures.mode ∙ first))
    (c.in-Ok.ensures.script script is)

pub returns-in-Err-clause-script : goal.returns-in-Err-clause-script
returns-in-Err-clause-script g c = λ script is.
    let first = ap (λ v. is_some v) c.new-reading.ensures.kept in
    meets_shown (told_same _ _ _ first) (told_same _ _ _ (c.read_to_end.ensures.mode ∙ first))
    (c.in-Err.ensures.script script is)
