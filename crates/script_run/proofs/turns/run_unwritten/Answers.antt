use Rattle.std.proofs.Common.{◌≡◌, subst}
use Rattle.std.specs.Prelude.{Some}
use Rattle.script_run.specs.private.RunClauses.{EndsAt}
use Rattle.script_run.proofs.MemoryLaws.{ends_unwritten}
use Rattle.script_run.proofs.turns.run_unwritten.Goals as goal

pub returns-clause-standing : goal.returns-clause-standing
returns-clause-standing g c = λ script left files told.
    let made = c.in_ok-ended.field-0 in
    let kept : made.refusals ≡ Some c.in-Some.refusals = cc c.in-Some.is in
    ends_unwritten files script made.ended.counts made.ended.script c.in-Some.refusals
    (c.in_ok-ended.ensures.script script left)
    (subst (λ v. EndsAt files script made.ended.script v made.ended.counts) kept
    (c.in_ok-ended.ensures.standing script left files told)) told
