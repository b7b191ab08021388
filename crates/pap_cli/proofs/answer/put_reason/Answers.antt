use Rattle.std.proofs.Common.{subst}
use Rattle.script_run.specs.Notes.{AreNoted, notes_shown}
use Rattle.script_run.proofs.Laws.{noted_by}
use Rattle.pap_cli.proofs.answer.put_reason.Goals as goal

pub returns-in-Some-clause-put : goal.returns-in-Some-clause-put
returns-in-Some-clause-put g c =
    let before = notes_shown g.N.Sink c.args.notes.now in
    let after = notes_shown g.N.Sink c.put_all.new.sink in
    rw c.in-Some.is
    (subst (λ t. AreNoted before after t) c.as_bytes.ensures.value
    (noted_by c.put_all.result before after c.as_bytes.result.now c.put_all.ensures.ok c.put_all.ensures.cause))
