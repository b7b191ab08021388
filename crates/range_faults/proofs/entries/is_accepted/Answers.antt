use Rattle.std.proofs.Common.{inr}
use Rattle.toml.specs.View.{view}
use Rattle.range_faults.proofs.AddLemmas.{room_left}
use Rattle.range_faults.proofs.entries.is_accepted.Goals as goal

pub returns-in-Some : goal.returns-in-Some
returns-in-Some c = room_left c.has_room.result c.args.room c.args.name.now (view c.args.value.now) c.in-Some._limit c.has_room.ensures c.in-Some.ensures

pub returns-in-None : goal.returns-in-None
returns-in-None c = inr c.in-None.ensures
