use Rattle.std.proofs.Common.{◌≡◌, length, map, take}
use Rattle.limits_file.specs.Labels.{label_byte}
use Rattle.limits_file.proofs.label.Label.of.Given as goal

abbrev pub invariant-loop-i : goal.invariant-loop-i
invariant-loop-i l = record { long : length l.label ≡ 32; shown : take l.i l.label ≡ map label_byte (take l.i l.front) }
