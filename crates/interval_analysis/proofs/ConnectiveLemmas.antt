-- Steps of the walk of connectives.
use Rattle.std.proofs.Common.{◌≡◌, ℕ, ◌+◌, Bool, true, false, ◌||◌, List, [], Option, Some, None, Result, Ok, Err, Vec, Global, refl, sym, ap, ap₂, ◌∙◌, subst, arith}
use Rattle.std.specs.Prelude.{is_some, if◌then◌else◌}
use Rattle.std.specs.Bool.{then_some}
use Rattle.std.specs.Option.{option_map}
use Rattle.pap_tree.specs.declared.expression.Expr.{Expr}
use Rattle.pap_tree.specs.declared.plan.PlanText.{PlanText}
use Rattle.pap_tree.specs.Term.{Term, term_of, two, operator}
use Rattle.pap_tree.specs.Numbering.{nodes}
use Rattle.interval_num.specs.Intervals.{Interval}
use Rattle.interval_walk.specs.Ranges.{Ranges}
use Rattle.interval_walk.specs.Failures.{NodeFault, and_then}
use Rattle.interval_walk.specs.Branches as meant
use Rattle.interval_analysis.specs.declared.branches.Branches.{Branches}
use Rattle.interval_analysis.specs.declared.branches.Change.{Change}
use Rattle.interval_analysis.specs.declared.branches.Connective.{Connective}
use Rattle.interval_analysis.specs.declared.branches.Connective.TheVariants.{And, Or}
use Rattle.interval_analysis.specs.declared.comparisons.Compared.{Compared}
use Rattle.interval_analysis.specs.declared.conditions.Comparison as declared
use Rattle.interval_analysis.specs.declared.conditions.Followed.{Followed}
use Rattle.interval_analysis.specs.declared.expressions.Stop.{Stop}
use Rattle.interval_analysis.specs.declared.expressions.Walk.{Walk}
use Rattle.interval_analysis.specs.private.Changes.{changed, turned_changes}
use Rattle.interval_analysis.specs.private.Connectives.{ComparisonFollowed, FollowAnswer, FollowsAnswer, IsFollowedBy, IsFollowedTo, IsOperator, behind_both, connected, directions_of, reached_in, there_if, turned}
use Rattle.interval_analysis.specs.private.ComparisonViews.{branch_by, branches_by}
use Rattle.interval_analysis.specs.private.TestViews.{Comparison, IsCompared, IsTestedAs, comparison, comparison_in, comparison_of, named_ways, tested_in}
use Rattle.interval_analysis.specs.private.PlanViews.{ranges_in, ranges_after, branches_in}
use Rattle.interval_analysis.proofs.ExpressionLemmas.{plain_operator}

turned_twice : (c : Connective) (br : meant.Branches) → turned c (turned c br) ≡ br
turned_twice And br = refl
turned_twice Or br = refl

turned_in : (w : Walk) (c : Connective) (rs : List Interval) (b : Branches) → branches_in w.plan.now rs (turned_changes c b) ≡ turned c (branches_in w.plan.now rs b)
turned_in w And rs b = refl
turned_in w Or rs b = refl

is_some_before : (env : Ranges) (o p : Option Ranges) → is_some (meant.before env o p) ≡ (is_some o || is_some p)
is_some_before env None None = refl
is_some_before env None (Some b) = refl
is_some_before env (Some a) p = refl

before_env : (env : Ranges) (o p : Option Ranges) → meant.before env o p ≡ (if is_some (meant.before env o p) then Some env else None)
before_env env None None = refl
before_env env None (Some b) = refl
before_env env (Some a) p = refl

module _ (w : Walk) (c : Connective) (e f : Expr) (at : ℕ) (rs : List Interval) where
  abbrev env : Ranges
  env = ranges_in w.plan.now rs

  abbrev both : meant.Branches → meant.Branches → meant.Branches
  both l r = turned c (meant.both_hold env (turned c l) (turned c r))

  abbrev right_of : meant.Branches → Result meant.Branches NodeFault
  right_of l = reached_in w (term_of f) (at + nodes (term_of e)) (turned c l).holds

  connected_is : tested_in w (connected c e f) at rs ≡ and_then (tested_in w (term_of e) at rs) (λ l. and_then (right_of l) (λ r. Ok (both l r)))
  connected_is = by c
    where
      by : (c : Connective) → tested_in w (connected c e f) at rs ≡ and_then (tested_in w (term_of e) at rs) (λ l. and_then (reached_in w (term_of f) (at + nodes (term_of e)) (turned c l).holds) (λ r. Ok (turned c (meant.both_hold env (turned c l) (turned c r)))))
      by And = refl
      by Or = refl

  -- the left side, and then the right one
  module _ (mid : List Interval) (first : Followed) (left : IsFollowedTo w c (tested_in w (term_of e) at rs) (at + nodes (term_of e)) mid first) where
    right_is : right_of left.follows.branches ≡ reached_in w (term_of f) first.next (there_if w first.is_through mid)
    right_is =
        ap (reached_in w (term_of f) (at + nodes (term_of e))) left.follows.through
        ∙ ap (λ n. reached_in w (term_of f) n (there_if w first.is_through mid)) (sym left.next)

    connected_then : tested_in w (connected c e f) at rs ≡ and_then (reached_in w (term_of f) first.next (there_if w first.is_through mid)) (λ r. Ok (both left.follows.branches r))
    connected_then =
        connected_is
        ∙ ap (λ q. and_then q (λ l. and_then (right_of l) (λ r. Ok (both l r)))) left.follows.tested
        ∙ ap (λ q. and_then q (λ r. Ok (both left.follows.branches r))) right_is

    pub both_followed : (now : List Interval) (second : Followed) → IsFollowedTo w c (reached_in w (term_of f) first.next (there_if w first.is_through mid)) (first.next + nodes (term_of f)) now second
        → IsFollowedTo w c (tested_in w (connected c e f) at rs) (at + nodes (connected c e f)) now (behind_both first second)
    both_followed now second right =
        let l = turned c left.follows.branches in
        let r = turned c right.follows.branches in
        record {
          follows = record {
            branches = both left.follows.branches right.follows.branches;
            tested = connected_then ∙ ap (λ q. and_then q (λ r. Ok (both left.follows.branches r))) right.follows.tested;
            through = ap (λ x. x.holds) (turned_twice c (meant.both_hold env l r)) ∙ right.follows.through;
            leaves =
                ap (λ x. is_some x.fails) (turned_twice c (meant.both_hold env l r))
                ∙ is_some_before env l.fails r.fails
                ∙ ap₂ (λ x y. x || y) left.follows.leaves right.follows.leaves;
          };
          next = omega (arith, left.next, right.next);
        }

  -- where a side decides nothing is known of the variables
  decided : (br : meant.Branches) → tested_in w (connected c e f) at rs ≡ Ok br → (turned c br).fails ≡ (if is_some (turned c br).fails then Some env else None)
  decided br h = by_left (tested_in w (term_of e) at rs) (sym connected_is ∙ h)
    where
      by_right : (l : meant.Branches) (q : Result meant.Branches NodeFault) → and_then q (λ r. Ok (both l r)) ≡ Ok br → (turned c br).fails ≡ (if is_some (turned c br).fails then Some env else None)
      by_right l (Err x) h = absurd (cc)
      by_right l (Ok r) h =
          let same : both l r ≡ br = cc in
          subst (λ b. b.fails ≡ (if is_some b.fails then Some env else None))
          (sym (turned_twice c (meant.both_hold env (turned c l) (turned c r))) ∙ ap (turned c) same)
          (before_env env (turned c l).fails (turned c r).fails)

      by_left : (q : Result meant.Branches NodeFault) → and_then q (λ l. and_then (right_of l) (λ r. Ok (both l r))) ≡ Ok br → (turned c br).fails ≡ (if is_some (turned c br).fails then Some env else None)
      by_left (Err x) h = absurd (cc)
      by_left (Ok l) h = by_right l (right_of l) h

  told_there : (told : Vec Change Global) (now : List Interval) → changed rs told.items ≡ now → (b : Bool) → ranges_after w.plan.now rs (then_some b told) ≡ there_if w b now
  told_there told now e true = ap (λ ds. Some (ranges_in w.plan.now ds)) e
  told_there told now e false = refl

  unchanged_there : (o : Option (Vec Change Global)) (b : Bool) → option_map (λ v. v.items) o ≡ (if b then Some [] else None) → ranges_after w.plan.now rs o ≡ (if b then Some env else None)
  unchanged_there None true e = absurd (cc)
  unchanged_there None false e = refl
  unchanged_there (Some v) true e =
      let none : v.items ≡ [] = cc in
      ap (λ cs. Some (ranges_in w.plan.now (changed rs cs))) none
  unchanged_there (Some v) false e = absurd (cc)

  -- a connective, from what was noted while its parts were tested
  pub sequence_tested : (now : List Interval) (followed : Followed) (told : Vec Change Global) (holds fails : Option (Vec Change Global)) (b : Branches) → IsFollowedTo w c (tested_in w (connected c e f) at rs) (at + nodes (connected c e f)) now followed
      → changed rs told.items ≡ now → holds ≡ then_some followed.is_through told → option_map (λ v. v.items) fails ≡ (if followed.can_leave then Some [] else None) → b ≡ turned_changes c (record { holds = holds; fails = fails })
      → IsTestedAs w (tested_in w (connected c e f) at rs) (at + nodes (connected c e f)) rs (record { branches = b; next = followed.next })
  sequence_tested now followed told holds fails b h is on off turns =
      let p = w.plan.now in
      let br = h.follows.branches in
      let make : Option Ranges → Option Ranges → meant.Branches = λ x y. record { holds = x; fails = y } in
      let through : ranges_after p rs holds ≡ (turned c br).holds =
      ap (ranges_after p rs) on ∙ told_there told now is followed.is_through ∙ sym h.follows.through in
      let leaves : ranges_after p rs fails ≡ (turned c br).fails =
      unchanged_there fails followed.can_leave off
      ∙ ap (λ b. if b then Some env else None) (sym h.follows.leaves)
      ∙ sym (decided br h.follows.tested) in
      record {
        branches =
            h.follows.tested
            ∙ ap Ok (sym (ap (branches_in p rs) turns
            ∙ turned_in w c rs (record { holds = holds; fails = fails })
            ∙ ap (turned c) (ap₂ make through leaves)
            ∙ turned_twice c br));
        next = h.next;
      }

-- ---- a comparison

-- a comparison goes on as it is tested
pub comparison_followed : (w : Walk) (c : Connective) (t : Comparison) (at : ℕ) (rs now : List Interval) (d : Compared) (f : Followed) → IsCompared w t at rs d → IsFollowedBy (directions_of c d.allowed) d rs now f
    → IsFollowedTo w c (comparison_in w t at (ranges_in w.plan.now rs)) (at + nodes t.left + nodes t.right + 1) now f
comparison_followed w c t at rs now d f h k = record {
  follows = record {
    branches = branches;
    tested = h.branches;
    through = onward_is c ∙ ap (option_map (ranges_in p)) k.through ∙ there f.is_through;
    leaves = ap is_some (outward_is c) ∙ named_some (branch_by d.sides (directions_of c d.allowed).outward rs) ∙ k.leaves;
  };
  next = k.next ∙ h.next;
}
  where
    p : PlanText
    p = w.plan.now

    branches : meant.Branches
    branches = named_ways p (branches_by d.sides d.allowed rs)

    onward_is : (c : Connective) → (turned c branches).holds ≡ option_map (ranges_in p) (branch_by d.sides (directions_of c d.allowed).onward rs)
    onward_is And = refl
    onward_is Or = refl

    outward_is : (c : Connective) → (turned c branches).fails ≡ option_map (ranges_in p) (branch_by d.sides (directions_of c d.allowed).outward rs)
    outward_is And = refl
    outward_is Or = refl

    there : (b : Bool) → option_map (ranges_in p) (if b then Some now else None) ≡ there_if w b now
    there true = refl
    there false = refl

    named_some : (o : Option (List Interval)) → is_some (option_map (ranges_in p) o) ≡ is_some o
    named_some None = refl
    named_some (Some rs) = refl

-- so does an operator that is no connective
pub operator_followed : (w : Walk) (c : Connective) (t : Term) (s : declared.Comparison) (at : ℕ) (rs now : List Interval) (res : Result Followed Stop) → IsOperator t s
    → ComparisonFollowed w c (comparison_of s.op s.left.now s.right.now) at rs now res → FollowAnswer w c t at rs now res
operator_followed w c t s at rs now res h follows =
    let e = term_of s.left.now in
    let f = term_of s.right.now in
    let r = comparison_in w (comparison s.op e f) at (ranges_in w.plan.now rs) in
    let end : at + nodes (two (operator s.op) e f) ≡ at + nodes e + nodes f + 1 = omega arith in
    subst (λ t. FollowAnswer w c t at rs now res) (sym h.is)
    (subst (λ n. FollowsAnswer w c (tested_in w (two (operator s.op) e f) at rs) n now res) (sym end)
    (subst (λ q. FollowsAnswer w c q (at + nodes e + nodes f + 1) now res) (sym (plain_operator w s.op e f at (ranges_in w.plan.now rs) h.not_and h.not_or)) follows))
