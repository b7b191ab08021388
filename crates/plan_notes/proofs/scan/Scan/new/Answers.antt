use Rattle.std.proofs.Common.{refl}
use Rattle.plan_notes.proofs.NoteLemmas.{holds_none}
use Rattle.plan_notes.proofs.scan.Scan.new.Goals as goal

pub returns : goal.returns
returns c = holds_none _ c.new.ensures.items c.new-2.ensures.items refl (record { name = refl; version = refl })
