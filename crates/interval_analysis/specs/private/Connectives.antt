-- What private contracts say of connectives, whose parts are tested in turn.
use Rattle.std.specs.Prelude.{◌≡◌, ◌≢◌, ℕ, ◌+◌, ◌||◌, Bool, true, false, List, Option, Some, None, is_some, if◌then◌else◌, Result, Ok, Err, ⊤}
use Rattle.pap_tree.specs.declared.expression.Expr.{Expr}
use Rattle.pap_tree.specs.declared.expression.Binary.{Binary}
use Rattle.pap_tree.specs.declared.expression.Binary.TheVariants as binaries
use Rattle.pap_tree.specs.Term.{Term, operator}
use Rattle.pap_tree.specs.Numbering.{nodes}
use Rattle.interval_num.specs.declared.sign_set.SignSet.{SignSet}
use Rattle.interval_num.specs.Intervals.{Interval}
use Rattle.interval_walk.specs.Ranges.{Ranges}
use Rattle.interval_walk.specs.Failures.{NodeFault}
use Rattle.interval_walk.specs.Branches as meant
use Rattle.interval_walk.specs.Branches.{others}
use Rattle.interval_walk.specs.Ranged.{tested}
use Rattle.interval_analysis.specs.declared.branches.Connective.{Connective}
use Rattle.interval_analysis.specs.declared.branches.Connective.TheVariants.{And, Or}
use Rattle.interval_analysis.specs.declared.comparisons.Compared as comparisons
use Rattle.interval_analysis.specs.declared.conditions.Comparison as declared
use Rattle.interval_analysis.specs.declared.conditions.Connected.{Connected}
use Rattle.interval_analysis.specs.declared.conditions.Directions.{Directions}
use Rattle.interval_analysis.specs.declared.conditions.Followed.{Followed}
use Rattle.interval_analysis.specs.declared.conditions.Role.{Role}
use Rattle.interval_analysis.specs.declared.conditions.Role.TheVariants.{Same, Compared, Other}
use Rattle.interval_analysis.specs.declared.expressions.Stop.{Stop}
use Rattle.interval_analysis.specs.declared.expressions.Walk.{Walk}
use Rattle.pap_types.specs.private.ScopeViews.{scope_in}
use Rattle.interval_analysis.specs.private.PlanViews.{ranges_in}
use Rattle.pap_tree.specs.private.TreeViews.{two_of}
use Rattle.interval_analysis.specs.private.ExpressionViews.{StopsAs}
use Rattle.interval_analysis.specs.private.ComparisonViews.{branch_by}
use Rattle.interval_analysis.specs.private.TestViews.{Comparison, comparison_in, tested_in}

abbrev pub operator_of : Connective → Binary
operator_of And = binaries.And
operator_of Or = binaries.Or

-- two tests with a connective between them
abbrev pub connected : Connective → Expr → Expr → Term
connected c e f = two_of (operator (operator_of c)) e f

pub record IsConnected (c : Connective) (t : Term) (s : Connected) : Type 0 where
  pub is : t ≡ connected c s.left.now s.right.now

-- an operator that is no connective
pub record IsOperator (t : Term) (s : declared.Comparison) : Type 0 where
  pub is : t ≡ two_of (operator s.op) s.left.now s.right.now
  pub not_and : s.op ≢ binaries.And
  pub not_or : s.op ≢ binaries.Or

abbrev pub IsRole : Connective → Term → Role → Type 0
IsRole c t (Same s) = IsConnected c t s
IsRole c t (Compared s) = IsOperator t s
IsRole c t Other = ⊤

-- branches as a connective goes on: where a part of && holds, and where one of || fails
abbrev pub turned : Connective → meant.Branches → meant.Branches
turned And br = br
turned Or br = meant.opposite br

-- these ranges, where a value leads there
abbrev pub there_if : Walk → Bool → List Interval → Option Ranges
there_if w true rs = Some (ranges_in w.plan.now rs)
there_if w false rs = None

-- what is known of a test's branches, where the variables have the ranges with which a connective goes on
pub record IsFollowed (w : Walk) (c : Connective) (r : Result meant.Branches NodeFault) (now : List Interval) (f : Followed) : Type 0 where
  pub branches : meant.Branches
  pub tested : r ≡ Ok branches
  pub through : (turned c branches).holds ≡ there_if w f.is_through now
  pub leaves : is_some (turned c branches).fails ≡ f.can_leave

pub record IsFollowedTo (w : Walk) (c : Connective) (r : Result meant.Branches NodeFault) (end : ℕ) (now : List Interval) (f : Followed) : Type 0 where
  pub follows : IsFollowed w c r now f
  pub next : f.next ≡ end

-- what is known behind two parts, the second of which was tested behind the first
abbrev pub behind_both : Followed → Followed → Followed
behind_both f g = record {
  is_through = g.is_through;
  can_leave = f.can_leave || g.can_leave;
  next = g.next + 1;
}

abbrev pub FollowsAnswer : Walk → Connective → Result meant.Branches NodeFault → ℕ → List Interval → Result Followed Stop → Type 0
FollowsAnswer w c r end now (Ok f) = IsFollowedTo w c r end now f
FollowsAnswer w c r end now (Err stop) = StopsAs r stop

-- a test from some ranges
abbrev pub FollowAnswer : Walk → Connective → Term → ℕ → List Interval → List Interval → Result Followed Stop → Type 0
FollowAnswer w c t at rs now r = FollowsAnswer w c (tested_in w t at rs) (at + nodes t) now r

-- a right side, where the left one leads there
abbrev pub reached_in : Walk → Term → ℕ → Option Ranges → Result meant.Branches NodeFault
reached_in w t at o = meant.reached o (tested (scope_in w.plan.now) t at)

abbrev pub BehindAnswer : Walk → Connective → Term → Followed → List Interval → List Interval → Result Followed Stop → Type 0
BehindAnswer w c t first rs now r =
    FollowsAnswer w c (reached_in w t first.next (there_if w first.is_through rs)) (first.next + nodes t) now r

-- ---- comparisons

-- && goes on where a comparison holds, and || where it fails
abbrev pub directions_of : Connective → SignSet → Directions
directions_of And s = record { onward = s; outward = others s }
directions_of Or s = record { onward = others s; outward = s }

-- what is known of a comparison, where the variables have the ranges with which a connective goes on
pub record IsFollowedBy (to : Directions) (d : comparisons.Compared) (rs now : List Interval) (f : Followed) : Type 0 where
  pub through : branch_by d.sides to.onward rs ≡ (if f.is_through then Some now else None)
  pub leaves : is_some (branch_by d.sides to.outward rs) ≡ f.can_leave
  pub next : f.next ≡ d.next

abbrev pub ComparisonFollowed : Walk → Connective → Comparison → ℕ → List Interval → List Interval → Result Followed Stop → Type 0
ComparisonFollowed w c t at rs now r =
    FollowsAnswer w c (comparison_in w t at (ranges_in w.plan.now rs)) (at + nodes t.left + nodes t.right + 1) now r
