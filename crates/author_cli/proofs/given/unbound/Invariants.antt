use Rattle.std.proofs.Common.{◌≡◌, map, take}
use Rattle.author_cli.specs.private.GivenViews.{unbound_slot}
use Rattle.author_cli.proofs.given.unbound.Given as goal

abbrev pub invariant-loop-slot : goal.invariant-loop-slot
invariant-loop-slot l = l.slots.items ≡ map unbound_slot (take l.slot-index l.bound)
