use Rattle.std.proofs.Common.{length}
use Rattle.pap_tree.proofs.printing.+begins_point.Given as goal

abbrev pub decreases-begins_point : goal.decreases-begins_point
decreases-begins_point l = length l.text.now
