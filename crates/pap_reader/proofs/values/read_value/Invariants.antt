use Rattle.std.proofs.Common.{◌≤◌, length}
use Rattle.pap_reader.proofs.Lexing.{Reads}
use Rattle.pap_reader.proofs.values.read_value.Given as goal

abbrev pub invariant-loop-byte : goal.invariant-loop-byte
invariant-loop-byte l = record { reads : Reads l.quote l.bytes l.value.items l.left; shorter : length l.left ≤ length l.bytes }

abbrev pub decreases-loop-byte : goal.decreases-loop-byte
decreases-loop-byte l = length l.left
