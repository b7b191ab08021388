-- Tests and conditionals: each of their parts is safe, and the branch that the value takes can be reached.
use Rattle.std.proofs.Common.{◌≡◌, ℕ, ℤ, pos, ◌*ℤ◌, [], ◌∷◌, Bool, true, false, ◌||◌, if◌then◌else◌, Option, Some, None, Result, Ok, refl, sym, ap, ap₂, ◌∙◌, subst, arith}
use Rattle.std.specs.Prelude.{is_some}
use Rattle.std.specs.Ordering.{int_cmp}
use Rattle.std.proofs.lemmas.Int.{ints}
use Rattle.scaled_decimal.specs.Decimals.{Decimal, decimal, numerator_of, ten_to, value_order, order_number, comparison}
use Rattle.scaled_decimal.specs.WholeNumbers.{whole_decimal, truth}
use Rattle.scaled_decimal.specs.WorkingNumbers.{ComparisonFits}
use Rattle.pap_tree.specs.declared.expression.Unary.TheVariants.{Not}
use Rattle.pap_tree.specs.declared.expression.Binary.{Binary}
use Rattle.pap_tree.specs.declared.expression.Binary.TheVariants as binaries
use Rattle.pap_tree.specs.declared.expression.Binary.TheVariants.{And, Or}
use Rattle.pap_tree.specs.Term.{whole, long, point, text, known, named, Term, leaf, item, one, two, choice, unary, Two, operator}
use Rattle.interval_num.specs.Intervals.{Interval, Contains}
use Rattle.interval_num.specs.Rows.{comparison_row, join_row}
use Rattle.interval_num.proofs.Laws.{comparison_sound, join_sound}
use Rattle.pap_types.specs.declared.kinds.NodeKind.{NodeKind}
use Rattle.pap_types.specs.Scopes.{Scope}
use Rattle.pap_types.specs.Kinds.{kind_of, int_literal}
use Rattle.pap_types.specs.Operations.{holds_of, is_zero, of_operator, of_two}
use Rattle.pap_types.specs.Values.{Env, value, goes_right}
use Rattle.pap_types.specs.Safety.{IsSafe, OperatorFits, TwoFits}
use Rattle.interval_walk.specs.Ranges.{Ranges}
use Rattle.interval_walk.specs.Failures.{NodeFault, and_then, at_node}
use Rattle.interval_walk.specs.NodeRanges.{comparison_range}
use Rattle.interval_walk.specs.Branches.{Branches, Sides, sides, signs_where, compared, opposite, reached, before, both_hold, one_holds, either_way}
use Rattle.interval_walk.specs.Ranged.{are_whole}
use Rattle.interval_walk.specs.Soundness.{AreWithin, AreReachedWithin, TermHolds, TestHolds}
use Rattle.interval_walk.proofs.NodeShapes.{stepped, passed_node}
use Rattle.interval_walk.proofs.ScopeLemmas.{int_literal_is}
use Rattle.interval_walk.proofs.BranchSound.{sign_holds, sign_fails, order_of_number, FoundWhole, SidesHold, SidesWhole, branches_hold}

-- ---- two operands

module _ (scope : Scope) (op : Two) (e f : Term) (env : Env) (x y : Decimal) where
  -- an operation on two operands is safe where they are and its working numbers fit
  pub two_safe : IsSafe scope e env → value scope e env ≡ Some x → IsSafe scope f env → value scope f env ≡ Some y → TwoFits op (kind_of scope (two op e f)) x y → IsSafe scope (two op e f) env
  two_safe se ve sf vf fits = (se, λ a p g. (sf, λ b q. same_fits a b p q))
    where
      same_fits : (a b : Decimal) → value scope e env ≡ Some a → value scope f env ≡ Some b → TwoFits op (kind_of scope (two op e f)) a b
      same_fits a b p q =
          let left : x ≡ a = cc in
          let right : y ≡ b = cc in
          subst (λ a. TwoFits op (kind_of scope (two op e f)) a b) left (subst (λ b. TwoFits op (kind_of scope (two op e f)) x b) right fits)

  pub two_value : (z : Decimal) → value scope e env ≡ Some x → value scope f env ≡ Some y → goes_right op x ≡ true → of_two op x y ≡ Some z → value scope (two op e f) env ≡ Some z
  two_value z ve vf goes is = rw (ve, goes, vf) is

-- ---- comparisons

-- an operator that is a comparison
pub record IsComparison (op : Binary) (a b r : Interval) : Type 0 where
  pub goes : (x : Decimal) → goes_right (operator op) x ≡ true
  pub is : (x y : Decimal) → of_operator op x y ≡ Some (truth (holds_of op (value_order x y)))
  pub fits : (k : NodeKind) (x y : Decimal) → ComparisonFits x y → OperatorFits op k x y
  pub row : comparison_row a b ≡ Ok r

is_comparison : (op : Binary) (a b r : Interval) → comparison_range op a b ≡ Ok r → IsComparison op a b r
is_comparison binaries.Less a b r e = record { goes = λ x. refl; is = λ x y. refl; fits = λ k x y h. h; row = e }
is_comparison binaries.LessEq a b r e = record { goes = λ x. refl; is = λ x y. refl; fits = λ k x y h. h; row = e }
is_comparison binaries.More a b r e = record { goes = λ x. refl; is = λ x y. refl; fits = λ k x y h. h; row = e }
is_comparison binaries.MoreEq a b r e = record { goes = λ x. refl; is = λ x y. refl; fits = λ k x y h. h; row = e }
is_comparison binaries.Same a b r e = record { goes = λ x. refl; is = λ x y. refl; fits = λ k x y h. h; row = e }
is_comparison binaries.Differs a b r e = record { goes = λ x. refl; is = λ x y. refl; fits = λ k x y h. h; row = e }
is_comparison binaries.Mul a b r e = absurd (cc)
is_comparison binaries.Div a b r e = absurd (cc)
is_comparison binaries.Rem a b r e = absurd (cc)
is_comparison binaries.Plus a b r e = absurd (cc)
is_comparison binaries.Sub a b r e = absurd (cc)
is_comparison binaries.And a b r e = absurd (cc)
is_comparison binaries.Or a b r e = absurd (cc)

-- x.compareTo(y), whose sides have these values
pub record InnerHolds (scope : Scope) (e : Term) (env : Env) (s : Sides) : Type 0 where
  pub x : Decimal
  pub y : Decimal
  pub sides : SidesHold scope s env x y
  pub compares : value scope e env ≡ Some (whole_decimal (comparison x y))

found_any : (t : Term) (rs : Ranges) → FoundWhole false t rs
found_any (leaf (named x)) rs = λ v e. tt
found_any (leaf (whole i)) rs = tt
found_any (leaf (long i)) rs = tt
found_any (leaf (point i)) rs = tt
found_any (leaf (text i)) rs = tt
found_any (leaf (known i)) rs = tt
found_any (item x e) rs = tt
found_any (one op e) rs = tt
found_any (two op e f) rs = tt
found_any (choice c e f) rs = tt

times_one : (n : ℤ) → n *ℤ ten_to 0 ≡ n
times_one n = omega (arith, ints)

-- the order of two whole numbers
whole_order : (m n : ℤ) → value_order (whole_decimal m) (decimal n 0) ≡ int_cmp m n
whole_order m n = ap₂ int_cmp (times_one m) (times_one n)

module _ (scope : Scope) (op : Binary) (e f : Term) (rs : Ranges) (env : Env) (a b r : Interval) (w : AreWithin rs env) (he : TermHolds scope e env a) (hf : TermHolds scope f env b) (row : comparison_range op a b ≡ Ok r) (inner : Option Sides) (hi : (s : Sides) → inner ≡ Some s → InnerHolds scope e env s) (sw : SidesWhole (are_whole scope e f) (sides e f a b) rs) where
  holds_here : Bool
  holds_here = holds_of op (value_order he.gives hf.gives)

  test_of : (br : Branches) → (is_zero (truth (holds_of op (value_order he.gives hf.gives))) ≡ false → AreReachedWithin br.holds env) → (is_zero (truth (holds_of op (value_order he.gives hf.gives))) ≡ true → AreReachedWithin br.fails env) → TestHolds scope (two (operator op) e f) env br
  test_of br yes' no' =
      let c = is_comparison op a b r row in
      let x = he.gives in
      let y = hf.gives in
      let fits = (comparison_sound a b r c.row x y he.inside hf.inside).fits in
      record {
        safe = two_safe scope (operator op) e f env x y he.safe he.is hf.safe hf.is (c.fits _ x y fits);
        gives = truth (holds_of op (value_order x y));
        is = two_value scope (operator op) e f env x y _ he.is hf.is (c.goes x) (c.is x y);
        holds = yes';
        fails = no';
      }

  -- a comparison of the two operands
  direct_sound : TestHolds scope (two (operator op) e f) env (compared op (are_whole scope e f) (sides e f a b) None (int_literal f) rs)
  direct_sound =
      let x = he.gives in
      let y = hf.gives in
      let o = value_order x y in
      let same : holds_of op (int_cmp (order_number o) (pos 0)) ≡ holds_of op o = ap (holds_of op) (order_of_number o) in
      let h = branches_hold scope (are_whole scope e f) (signs_where op (pos 0)) (sides e f a b) rs env x y w (record { left = he.is; right = hf.is; left_inside = he.inside; right_inside = hf.inside }) sw (holds_of op o) (λ t. sign_holds op (pos 0) o (same ∙ t)) (λ t. sign_fails op (pos 0) o (same ∙ t)) in
      test_of _ h.holds h.fails

  -- one of x.compareTo(y) with a literal
  inner_sound : (s : Sides) (k : Decimal) → InnerHolds scope e env s → int_literal f ≡ Some k → TestHolds scope (two (operator op) e f) env (compared op (are_whole scope e f) (sides e f a b) (Some s) (Some k) rs)
  inner_sound s k h g =
      let l = int_literal_is f k g in
      let o = value_order h.x h.y in
      let n = numerator_of k in
      let compares = h.compares in
      let left : he.gives ≡ whole_decimal (comparison h.x h.y) = (let v = he.is in cc) in
      let given : value scope f env ≡ Some k = rw l.1 (ap Some l.2) in
      let right : hf.gives ≡ k = (let v = hf.is in cc) in
      let literal : k ≡ decimal n 0 = sym l.2 ∙ ap (λ d. decimal (numerator_of d) 0) l.2 in
      let order : value_order he.gives hf.gives ≡ int_cmp (order_number o) n = ap₂ value_order left (right ∙ literal) ∙ whole_order (comparison h.x h.y) n in
      let same : holds_of op (int_cmp (order_number o) n) ≡ holds_of op (value_order he.gives hf.gives) = ap (holds_of op) (sym order) in
      let b = branches_hold scope false (signs_where op n) s rs env h.x h.y w h.sides (record { left = found_any s.left rs; right = found_any s.right rs; left_range = tt; right_range = tt }) (holds_of op (value_order he.gives hf.gives)) (λ t. sign_holds op n o (same ∙ t)) (λ t. sign_fails op n o (same ∙ t)) in
      test_of _ b.holds b.fails

  pub compared_sound : TestHolds scope (two (operator op) e f) env (compared op (are_whole scope e f) (sides e f a b) inner (int_literal f) rs)
  compared_sound = by_form inner refl (int_literal f) refl
    where
      by_form : (i : Option Sides) → inner ≡ i → (k : Option Decimal) → int_literal f ≡ k → TestHolds scope (two (operator op) e f) env (compared op (are_whole scope e f) (sides e f a b) i k rs)
      by_form (Some s) p (Some k) q = inner_sound s k (hi s p) q
      by_form (Some s) p None q = direct_sound
      by_form None p k q = direct_sound

-- ---- ! and the connectives

module _ (scope : Scope) (e : Term) (env : Env) (br : Branches) (h : TestHolds scope e env br) where
  pub not_sound : TestHolds scope (one (unary Not) e) env (opposite br)
  not_sound = by_truth (is_zero h.gives) refl
    where
      by_truth : (t : Bool) → is_zero h.gives ≡ t → TestHolds scope (one (unary Not) e) env (opposite br)
      by_truth true z = record {
        safe = (h.safe, λ a p. tt);
        gives = truth true;
        is = rw (h.is, z) refl;
        holds = λ _. h.fails z;
        fails = λ never. absurd (cc);
      }
      by_truth false z = record {
        safe = (h.safe, λ a p. tt);
        gives = truth false;
        is = rw (h.is, z) refl;
        holds = λ never. absurd (cc);
        fails = λ _. h.holds z;
      }

before_left : (rs : Ranges) (env : Env) (o p : Option Ranges) → AreWithin rs env → AreReachedWithin o env → AreReachedWithin (before rs o p) env
before_left rs env o p w h = record { ranges = rs; is = ap (λ o. before rs o p) h.is; inside = w }

before_right : (rs : Ranges) (env : Env) (o p : Option Ranges) → AreWithin rs env → AreReachedWithin p env → AreReachedWithin (before rs o p) env
before_right rs env o p w h = record { ranges = rs; is = ap (λ p. before rs o p) h.is ∙ ap (λ t. if t then Some rs else None) (either_true (is_some o)); inside = w }
  where
    either_true : (t : Bool) → (t || true) ≡ true
    either_true true = refl
    either_true false = refl

module _ (scope : Scope) (e f : Term) (rs : Ranges) (env : Env) (left right : Branches) (w : AreWithin rs env) (h : TestHolds scope e env left) where
  -- the right operand isn't evaluated
  left_alone : (op : Binary) → goes_right (operator op) h.gives ≡ false → ((k : NodeKind) (a b : Decimal) → OperatorFits op k a b) → IsSafe scope (two (operator op) e f) env
  left_alone op stays fits = (h.safe, λ a p g. absurd (never a p g))
    where
      never : (a : Decimal) → value scope e env ≡ Some a → goes_right (operator op) a ≡ true → ⊥
      never a p g = let is = h.is in let same : h.gives ≡ a = cc in let k : goes_right (operator op) h.gives ≡ true = rw same g in cc

  -- it is
  both_safe : (op : Binary) → IsSafe scope f env → ((k : NodeKind) (a b : Decimal) → OperatorFits op k a b) → IsSafe scope (two (operator op) e f) env
  both_safe op sf fits = (h.safe, λ a p g. (sf, λ b q. fits _ a b))

  pub and_sound : (go : Ranges → Result Branches NodeFault) → ((s : Ranges) → AreWithin s env → go s ≡ Ok right → TestHolds scope f env right) → reached left.holds go ≡ Ok right → TestHolds scope (two (operator And) e f) env (both_hold rs left right)
  and_sound go later r = by_left (is_zero h.gives) refl
    where
      by_right : is_zero h.gives ≡ false → (k : TestHolds scope f env right) → TestHolds scope (two (operator And) e f) env (both_hold rs left right)
      by_right z k = record {
        safe = both_safe And k.safe (λ n a b. tt);
        gives = k.gives;
        is = rw (h.is, z, k.is) refl;
        holds = k.holds;
        fails = λ y. before_right rs env left.fails right.fails w (k.fails y);
      }

      by_left : (t : Bool) → is_zero h.gives ≡ t → TestHolds scope (two (operator And) e f) env (both_hold rs left right)
      by_left true z = record {
        safe = left_alone And (rw z refl) (λ n a b. tt);
        gives = h.gives;
        is = rw (h.is, z) refl;
        holds = λ never. absurd (cc);
        fails = λ y. before_left rs env left.fails right.fails w (h.fails y);
      }
      by_left false z =
          let l = h.holds z in
          by_right z (later l.ranges l.inside (subst (λ o. reached o go ≡ Ok right) l.is r))

  pub or_sound : (go : Ranges → Result Branches NodeFault) → ((s : Ranges) → AreWithin s env → go s ≡ Ok right → TestHolds scope f env right) → reached left.fails go ≡ Ok right → TestHolds scope (two (operator Or) e f) env (one_holds rs left right)
  or_sound go later r = by_left (is_zero h.gives) refl
    where
      by_right : is_zero h.gives ≡ true → (k : TestHolds scope f env right) → TestHolds scope (two (operator Or) e f) env (one_holds rs left right)
      by_right z k = record {
        safe = both_safe Or k.safe (λ n a b. tt);
        gives = k.gives;
        is = rw (h.is, z, k.is) refl;
        holds = λ y. before_right rs env left.holds right.holds w (k.holds y);
        fails = k.fails;
      }

      by_left : (t : Bool) → is_zero h.gives ≡ t → TestHolds scope (two (operator Or) e f) env (one_holds rs left right)
      by_left false z = record {
        safe = left_alone Or (rw z refl) (λ n a b. tt);
        gives = h.gives;
        is = rw (h.is, z) refl;
        holds = λ y. before_left rs env left.holds right.holds w (h.holds y);
        fails = λ never. absurd (cc);
      }
      by_left true z =
          let l = h.fails z in
          by_right z (later l.ranges l.inside (subst (λ o. reached o go ≡ Ok right) l.is r))

-- ---- conditionals

-- a branch that is reached is the one that is known
pub reached_same : {o : Option Ranges} {env : Env} (rs : Ranges) → o ≡ Some rs → AreReachedWithin o env → AreWithin rs env
reached_same rs f h = let i = h.is in let same : h.ranges ≡ rs = cc in subst (λ s. AreWithin s _) same h.inside

pub never_reached : {o : Option Ranges} {env : Env} → o ≡ None → AreReachedWithin o env → ⊥
never_reached f h = let i = h.is in cc

module _ (scope : Scope) (c e f : Term) (env : Env) (br : Branches) (r : Interval) (h : TestHolds scope c env br) where
  part_safe : (z : Bool) → is_zero h.gives ≡ z → (z ≡ true → IsSafe scope f env) → (z ≡ false → IsSafe scope e env) → IsSafe scope (choice c e f) env
  part_safe z is sf se = (h.safe, λ t p. (λ y. sf (sym is ∙ same t p ∙ y), λ n. se (sym is ∙ same t p ∙ n)))
    where
      same : (t : Decimal) → value scope c env ≡ Some t → is_zero h.gives ≡ is_zero t
      same t p = let i = h.is in let eq : h.gives ≡ t = cc in ap is_zero eq

  takes_first : (a : Interval) → is_zero h.gives ≡ false → TermHolds scope e env a → ((d : Decimal) → Contains a d → Contains r d) → TermHolds scope (choice c e f) env r
  takes_first a z k wider = record { safe = part_safe false z (λ n. absurd (cc)) (λ _. k.safe); gives = k.gives; is = rw (h.is, z) k.is; inside = wider k.gives k.inside }

  takes_second : (a : Interval) → is_zero h.gives ≡ true → TermHolds scope f env a → ((d : Decimal) → Contains a d → Contains r d) → TermHolds scope (choice c e f) env r
  takes_second a z k wider = record { safe = part_safe true z (λ _. k.safe) (λ n. absurd (cc)); gives = k.gives; is = rw (h.is, z) k.is; inside = wider k.gives k.inside }

  -- the part that a run takes is walked in ranges that hold its variables
  pub choice_sound : (none : NodeFault) (at : ℕ) (go other : Ranges → Result Interval NodeFault) → ((s : Ranges) (a : Interval) → AreWithin s env → go s ≡ Ok a → TermHolds scope e env a) → ((s : Ranges) (b : Interval) → AreWithin s env → other s ≡ Ok b → TermHolds scope f env b) → either_way none go other (λ a b. at_node at (a ∷ b ∷ []) (join_row a b)) br.holds br.fails ≡ Ok r → TermHolds scope (choice c e f) env r
  choice_sound none at go other first second g = by_reach br.holds br.fails refl refl g (is_zero h.gives) refl
    where
      by_reach : (o p : Option Ranges) → br.holds ≡ o → br.fails ≡ p → either_way none go other (λ a b. at_node at (a ∷ b ∷ []) (join_row a b)) o p ≡ Ok r → (z : Bool) → is_zero h.gives ≡ z → TermHolds scope (choice c e f) env r
      by_reach None None i j k z y = absurd (cc)
      by_reach (Some s) None i j k true y = absurd (never_reached j (h.fails y))
      by_reach (Some s) None i j k false y = takes_first r y (first s r (reached_same s i (h.holds y)) k) (λ d l. l)
      by_reach None (Some t) i j k true y = takes_second r y (second t r (reached_same t j (h.fails y)) k) (λ d l. l)
      by_reach None (Some t) i j k false y = absurd (never_reached i (h.holds y))
      by_reach (Some s) (Some t) i j k z y =
          let u = stepped (go s) (λ a. and_then (other t) (λ b. at_node at (a ∷ b ∷ []) (join_row a b))) r k in
          let v = stepped (other t) (λ b. at_node at (u.0 ∷ b ∷ []) (join_row u.0 b)) r u.2 in
          by_truth u.0 v.0 (passed_node at _ (join_row u.0 v.0) r v.2) u.1 v.1 z y
        where
          by_truth : (a b : Interval) → join_row a b ≡ Ok r → go s ≡ Ok a → other t ≡ Ok b → (z : Bool) → is_zero h.gives ≡ z → TermHolds scope (choice c e f) env r
          by_truth a b l p q true y = takes_second b y (second t b (reached_same t j (h.fails y)) q) (λ d n. (join_sound a b r l).right d n)
          by_truth a b l p q false y = takes_first a y (first s a (reached_same s i (h.holds y)) p) (λ d n. (join_sound a b r l).left d n)
