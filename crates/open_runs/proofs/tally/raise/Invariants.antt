use Rattle.std.proofs.Common.{◌≡◌, ◌++◌, map, take, drop}
use Rattle.std.specs.List.{list_any}
use Rattle.open_runs.specs.private.Tallies.{is_of, raised_by}
use Rattle.open_runs.proofs.tally.raise.Given as goal

abbrev pub invariant-loop-i : goal.invariant-loop-i
invariant-loop-i l = record {
  causes : l.causes ≡ map (raised_by l.cause) (take l.i l.initial.causes) ++ drop l.i l.initial.causes;
  stands : l.stands ≡ list_any (is_of l.cause) (take l.i l.initial.causes);
}
