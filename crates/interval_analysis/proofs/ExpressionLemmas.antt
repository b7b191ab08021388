-- Steps of the walk of expressions.
use Rattle.std.proofs.Common.{◌≡◌, ℕ, ◌+◌, List, [], ◌∷◌, Result, Ok, Err, refl, ◌∙◌, arith}
use Rattle.pap_tree.specs.declared.expression.Binary.{Binary}
use Rattle.pap_tree.specs.declared.expression.Binary.TheVariants as binaries
use Rattle.pap_tree.specs.Term.{Term, two, operator}
use Rattle.pap_tree.specs.Numbering.{nodes}
use Rattle.interval_num.specs.Intervals.{Interval}
use Rattle.pap_types.specs.Kinds.{int_literal}
use Rattle.interval_walk.specs.Ranges.{Ranges}
use Rattle.interval_walk.specs.Failures.{and_then, at_node}
use Rattle.interval_walk.specs.NodeRanges.{comparison_range}
use Rattle.interval_walk.specs.Branches as meant
use Rattle.interval_walk.specs.Ranged.{tested, are_whole, compare_sides}
use Rattle.interval_analysis.specs.declared.expressions.Stop.{Stop}
use Rattle.interval_analysis.specs.declared.expressions.Stop.TheVariants.{At, AtOne, AtTwo, Memory}
use Rattle.interval_analysis.specs.declared.conditions.Tested.{Tested}
use Rattle.interval_analysis.specs.declared.expressions.Walk.{Walk}
use Rattle.pap_types.specs.private.ScopeViews.{scope_in}
use Rattle.interval_analysis.specs.private.PlanViews.{ranges_in}
use Rattle.interval_analysis.specs.private.ExpressionViews.{StopsAs, ranged_in, second_in}
use Rattle.interval_analysis.specs.private.TestViews.{ComparisonAnswer, TestAnswer, comparison, comparison_in}
use Rattle.interval_analysis.proofs.NodeLemmas.{stops_two}

-- an operator that is no connective is walked as a comparison
pub plain_operator : (w : Walk) (op : Binary) (e f : Term) (at : ℕ) (env : Ranges) → (op ≡ binaries.And → ⊥) → (op ≡ binaries.Or → ⊥) → tested (scope_in w.plan.now) (two (operator op) e f) at env ≡ comparison_in w (comparison op e f) at env
plain_operator w binaries.And e f at env a o = absurd (a refl)
plain_operator w binaries.Or e f at env a o = absurd (o refl)
plain_operator w binaries.Mul e f at env a o = refl
plain_operator w binaries.Div e f at env a o = refl
plain_operator w binaries.Rem e f at env a o = refl
plain_operator w binaries.Plus e f at env a o = refl
plain_operator w binaries.Sub e f at env a o = refl
plain_operator w binaries.Less e f at env a o = refl
plain_operator w binaries.LessEq e f at env a o = refl
plain_operator w binaries.More e f at env a o = refl
plain_operator w binaries.MoreEq e f at env a o = refl
plain_operator w binaries.Same e f at env a o = refl
plain_operator w binaries.Differs e f at env a o = refl

pub plain_answer : (w : Walk) (op : Binary) (e f : Term) (at : ℕ) (rs : List Interval) (r : Result Tested Stop) → (op ≡ binaries.And → ⊥) → (op ≡ binaries.Or → ⊥) → ComparisonAnswer w (comparison op e f) at rs r → TestAnswer w (two (operator op) e f) at rs r
plain_answer w op e f at rs (Ok r) a o h = record {
  branches = plain_operator w op e f at (ranges_in w.plan.now rs) a o ∙ h.branches;
  next = h.next ∙ omega arith;
}
plain_answer w op e f at rs (Err (At n c)) a o h = plain_operator w op e f at (ranges_in w.plan.now rs) a o ∙ h
plain_answer w op e f at rs (Err (AtOne n c x)) a o h = plain_operator w op e f at (ranges_in w.plan.now rs) a o ∙ h
plain_answer w op e f at rs (Err (AtTwo n c x y)) a o h = plain_operator w op e f at (ranges_in w.plan.now rs) a o ∙ h
plain_answer w op e f at rs (Err Memory) a o h = tt

-- a comparison stops where one of its sides does
pub comparison_stops : (w : Walk) (op : Binary) (e f : Term) (at : ℕ) (rs : List Interval) (stop : Stop) → StopsAs (second_in w e f at rs) stop → StopsAs (comparison_in w (comparison op e f) at (ranges_in w.plan.now rs)) stop
comparison_stops w op e f at rs stop h =
    let scope = scope_in w.plan.now in
    let env = ranges_in w.plan.now rs in
    stops_two (ranged_in w e at rs) (ranged_in w f (at + nodes e) rs)
    (λ a b. and_then (at_node (at + nodes e + nodes f) (a ∷ b ∷ []) (comparison_range op a b)) (λ r. Ok (meant.compared op (are_whole scope e f) (meant.sides e f a b) (compare_sides scope e at env) (int_literal f) env))) stop h
