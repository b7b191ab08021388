use Rattle.plan_notes.proofs.AttributeLemmas.{Lifts}
use Rattle.plan_notes.proofs.attributes.behind_bytes.Given as goal

abbrev pub invariant-loop-read : goal.invariant-loop-read
invariant-loop-read l = Lifts l.attribute.quote l.attribute.text.now l._read l.left
