use Rattle.std.proofs.Common.{◌≤◌, length}
use Rattle.pap_reader.specs.Tags.{attributes_of}
use Rattle.pap_reader.proofs.Lexing.{Attributes}
use Rattle.pap_reader.proofs.tags.read_ending.Given as goal

abbrev pub invariant-loop-attributes : goal.invariant-loop-attributes
invariant-loop-attributes l = record { reads : Attributes l.bytes (attributes_of l.attributes.items) l.left; shorter : length l.left ≤ length l.bytes }

abbrev pub decreases-loop-attributes : goal.decreases-loop-attributes
decreases-loop-attributes l = length l.left
