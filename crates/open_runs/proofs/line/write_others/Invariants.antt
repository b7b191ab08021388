use Rattle.std.proofs.Common.{◌≡◌, ◌++◌, take, string_bytes}
use Rattle.std.specs.List.{flat_map}
use Rattle.open_runs.specs.OpenRuns.{other_part}
use Rattle.open_runs.proofs.line.write_others.Given as goal

abbrev pub invariant-loop-other : goal.invariant-loop-other
invariant-loop-other l =
    string_bytes l.line ≡ string_bytes l.initial.line ++ flat_map (other_part l.book) (take l.other-index l.others)
