use Rattle.std.proofs.Common.{subst}
use Rattle.script_run.specs.Notes.{AreNoted, notes_shown}
use Rattle.script_run.proofs.Laws.{noted_by}
use Rattle.script_run.proofs.ToldLaws.{note_some}
use Rattle.script_run.proofs.line_counts.LineCounts.note.Goals as goal

pub returns : goal.returns
returns g c =
    let before = notes_shown g.N.Sink c.args.notes.now in
    let after = notes_shown g.N.Sink c.put_all.new.sink in
    rw c.in-Some.is
    (note_some c.args.self.now
    (record { answered = c.saturating_add-self.result; refused = c.saturating_add-self-2.result }) before after _
    c.saturating_add-self.ensures c.saturating_add-self-2.ensures c.in_ok-line.ensures
    (subst (λ t. AreNoted before after t) c.as_bytes.ensures.value
    (noted_by c.put_all.result before after c.as_bytes.result.now c.put_all.ensures.ok c.put_all.ensures.cause)))
