use Rattle.std.proofs.Common.{◌≡◌, ◌≤◌, true, List, ◌++◌, length}
use Rattle.pap_tree.specs.Grammar.{Line}
use Rattle.pap_tree.specs.Stopping.{has_limits}
use Rattle.expr_tokens.specs.Spots.{spots_of}
use Rattle.expr_grammar.specs.Machine.{Want, level_of}
use Rattle.expr_grammar.specs.Run.{run}
use Rattle.pap_expr.specs.NodeBytes.{PlacedToken, placed_tokens}
use Rattle.pap_expr.specs.private.Stacks.{stack_of}
use Rattle.pap_expr.specs.private.Views.{refusal_of}
use Rattle.pap_expr.specs.private.States.{state_of}
use Rattle.pap_expr.specs.private.Answers.{base_of}
use Rattle.pap_expr.specs.private.Traces.{IsBefore}
use Rattle.pap_expr.proofs.TrailLemmas.{Traced}
use Rattle.pap_expr.proofs.reading.read.Given as goal

abbrev pub invariant-loop-found : goal.invariant-loop-found
invariant-loop-found l = record {
  room : level_of (state_of l.state (stack_of l.reader.stack)) ≤ 64;
  runs : (line : Line) → has_limits line ≡ true
      → run line (refusal_of l.fn.end) (Want (base_of l.fn.target)) (spots_of l.fn.tokens)
      ≡ run line (refusal_of l.fn.end) (state_of l.state (stack_of l.reader.stack)) (spots_of l.left);
  text : l.trail.text ≡ l.fn.trail.text;
  kept : l.trail.is_kept ≡ l.fn.trail.is_kept;
  traced : (before : List PlacedToken) → IsBefore l.fn.target before
      → Traced l.fn.trail (before ++ placed_tokens l.fn.trail.text.now (spots_of l.fn.tokens)) (state_of l.state (stack_of l.reader.stack)) l.trail (spots_of l.left);
}

abbrev pub decreases-loop-found : goal.decreases-loop-found
decreases-loop-found l = length l.left
