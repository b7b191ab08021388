use Rattle.std.proofs.Common.{◌≡◌, ◌+◌, ◌*◌, max, drop}
use Rattle.pap_tree.specs.Flowchart.{body_of, stmt_then, done}
use Rattle.pap_compiler.specs.CodeDecisions.{body_length}
use Rattle.pap_compiler.specs.Heights.{body_height}
use Rattle.pap_compiler.proofs.sizes.+size.Given as goal

abbrev pub decreases-body_size : goal.decreases-body_size
decreases-body_size l = 4 * body_length (body_of l.body.now) + 1

abbrev pub decreases-stmt_size : goal.decreases-stmt_size
decreases-stmt_size l = 4 * body_length (stmt_then l.s.now done)

abbrev pub decreases-choice_size : goal.decreases-choice_size
decreases-choice_size l = 4 * (body_length (body_of l.yes.now) + body_length (body_of l.no.now)) + 2

abbrev pub invariant-body_size-loop-s : goal.invariant-body_size-loop-s
invariant-body_size-loop-s l =
    let left = body_of (drop l.s-index l.body) in
    record {
      length : l.size.length + body_length left ≡ body_length (body_of l.body);
      height : max l.size.height (body_height left) ≡ body_height (body_of l.body);
    }
