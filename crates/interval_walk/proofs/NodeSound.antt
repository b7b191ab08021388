-- Where a node's row answers, its working numbers fit and its range holds the value.
use Rattle.std.proofs.Common.{◌≡◌, ◌≢◌, ℕ, ◌-◌, ◌≤◌, ℤ, pos, ◌*ℤ◌, ◌≤ℤ◌, List, Bool, true, false, ◌&&◌, Some, Ok, refl, sym, ap, ◌∙◌, subst, arith}
use Rattle.std.proofs.lemmas.Int.{ints}
use Rattle.std.proofs.lemmas.Bool.Decides.{Decides-int_eq}
use Rattle.scaled_decimal.specs.declared.rounding.Mode.{Mode}
use Rattle.scaled_decimal.specs.Decimals.{Decimal, decimal, numerator_of, scale_of, ten_to, sum, difference, product, negated, magnitude, comparison, lesser, greater}
use Rattle.scaled_decimal.specs.Limits.{most_places}
use Rattle.scaled_decimal.specs.ExactQuotients.{IsPlainDivisor}
use Rattle.scaled_decimal.specs.RoundedDecimals.{quotient, rescaled}
use Rattle.scaled_decimal.specs.RoundedDecimals.{quotient_is, rescaled_is}
use Rattle.scaled_decimal.specs.ShortenedDecimals.{exact_quotient}
use Rattle.scaled_decimal.specs.WholeNumbers.{item_at, whole_decimal, whole_sum, whole_difference, whole_product, whole_quotient, whole_remainder, whole_opposite}
use Rattle.scaled_decimal.proofs.Laws.{exact_quotient_is}
use Rattle.pap_tree.specs.declared.expression.Unary.TheVariants.{Minus, Not, Negate, Abs}
use Rattle.pap_tree.specs.declared.expression.Binary.{Binary}
use Rattle.pap_tree.specs.declared.expression.Binary.TheVariants as binaries
use Rattle.pap_tree.specs.declared.expression.Call.{Call}
use Rattle.pap_tree.specs.declared.expression.Call.TheVariants as calls
use Rattle.pap_tree.specs.Term.{whole, long, point, text, known, named, Term, leaf, item, one, two, choice, One, unary, value_of, value_of_scaled, new_big, set_scale, Two, operator, method, divide}
use Rattle.interval_num.specs.Intervals.{Interval, interval, Contains, IsWhole, IsWholeOfBits}
use Rattle.interval_num.specs.Rows.{item_row, quotient_row, exact_quotient_row, whole_row, whole_quotient_row, whole_remainder_row, negated_row, magnitude_row}
use Rattle.interval_num.proofs.Laws.{sum_sound, difference_sound, product_sound, min_sound, max_sound, comparison_sound, negation_sound, magnitude_sound, quotient_sound, exact_quotient_sound, rescaling_sound, item_sound, whole_sum_sound, whole_difference_sound, whole_product_sound, whole_opposite_sound, whole_quotient_sound, whole_remainder_sound}
use Rattle.pap_types.specs.declared.kinds.NodeKind.{NodeKind}
use Rattle.pap_types.specs.declared.kinds.NodeKind.TheVariants.{Big}
use Rattle.pap_types.specs.Scopes.{Scope}
use Rattle.pap_types.specs.Kinds.{is_whole, kind_of_one, kind_of_two, takes_one, takes_two, is_big, shown_divisor, shows_plain_divisor, wider}
use Rattle.pap_types.specs.Operations.{is_zero, of_one, of_two, as_big, unless_zero}
use Rattle.pap_types.specs.Values.{goes_right}
use Rattle.pap_types.specs.Safety.{bits_of, OneFits, TwoFits}
use Rattle.pap_tree.specs.Scales.{OneKeepsScale, TwoKeepsScale}
use Rattle.interval_walk.specs.Ranges.{single}
use Rattle.interval_walk.specs.NodeRanges.{one_range, two_range, shown_range, item_range, big_range}
use Rattle.interval_walk.specs.Shapes.{HasShape}
use Rattle.interval_walk.proofs.RowShapes.{both_true, ok_is, shape_bits, wider_left, wider_right, read_item_shape}
use Rattle.interval_walk.proofs.ScopeLemmas.{shown_plain}

-- ---- contained values

pub single_inside : (d : Decimal) → Contains (single d) d
single_inside d =
    let none : scale_of d - scale_of d ≡ 0 = omega arith in
    let same : numerator_of d *ℤ ten_to (scale_of d - scale_of d) ≡ numerator_of d = ap (λ k. numerator_of d *ℤ ten_to k) none ∙ omega (arith, ints) in
    record {
      least_scale = omega arith;
      greatest_scale = omega arith;
      low = rw same (omega (arith, ints));
      high = rw same (omega (arith, ints));
    }

-- a value of a range of whole numbers is a whole number
pub whole_value : (a : Interval) (d : Decimal) → IsWhole a → Contains a d → d ≡ whole_decimal (numerator_of d)
whole_value a d w h =
    let z = w.greatest_scale in
    let none : scale_of d ≡ 0 = omega (arith, h.greatest_scale) in
    ap (λ s. decimal (numerator_of d) s) none

pub whole_inside : (a : Interval) (d : Decimal) → IsWhole a → Contains a d → Contains a (whole_decimal (numerator_of d))
whole_inside a d w h = subst (Contains a) (whole_value a d w h) h

pub not_zero : (d : Decimal) → numerator_of d ≢ pos 0 → is_zero d ≡ false
not_zero d some = by_test (is_zero d) refl
  where
    by_test : (t : Bool) → is_zero d ≡ t → is_zero d ≡ false
    by_test true e = absurd (some ((Decides-int_eq (numerator_of d) (pos 0)).0 e))
    by_test false e = e

pub unless_passes : (d r : Decimal) → numerator_of d ≢ pos 0 → unless_zero d r ≡ Some r
unless_passes d r some = rw (not_zero d some) refl

-- ---- items

pub item_value : (items : List Decimal) (a r : Interval) (i : Decimal) → IsWhole a → Contains a i → item_range items a ≡ Ok r → (d : Decimal) × (item_at items (numerator_of i) ≡ Some d) × Contains r d
item_value items a r i w h e =
    let s = item_sound items a r w (read_item_shape (item_row items a) r e).0 (numerator_of i) (whole_inside a i w h) in
    (s.item, ap (item_at items) s.at ∙ s.is, s.inside)

-- ---- one operand

-- an operation's working numbers fit, and its result lies in the range
pub record OneCovers (op : One) (k : NodeKind) (e : Term) (x : Decimal) (r : Interval) : Type 0 where
  pub fits : OneFits op k x
  pub inside : Contains r (of_one op e x)

big_inside : (e : Term) (a : Interval) (x : Decimal) → Contains a x → Contains (big_range e a) (as_big e x)
big_inside (leaf (point d)) a x h = single_inside (as_big (leaf (point d)) d)
big_inside (leaf (whole i)) a x h = h
big_inside (leaf (long i)) a x h = h
big_inside (leaf (text i)) a x h = h
big_inside (leaf (known i)) a x h = h
big_inside (leaf (named i)) a x h = h
big_inside (item y e) a x h = h
big_inside (one op e) a x h = h
big_inside (two op e f) a x h = h
big_inside (choice c e f) a x h = h

scaled_inside : (a : Interval) (x : Decimal) (s : ℕ) → IsWhole a → Contains a x → Contains (interval a.lo a.hi s s) (decimal (numerator_of x) s)
scaled_inside a x s w h =
    let none : s - s ≡ 0 = omega arith in
    let same : numerator_of x *ℤ ten_to (s - s) ≡ numerator_of x = ap (λ k. numerator_of x *ℤ ten_to k) none ∙ omega (arith, ints) in
    let z = w.greatest_scale in
    let less : a.s_hi - scale_of x ≡ 0 = omega (arith, h.greatest_scale) in
    let own : numerator_of x *ℤ ten_to (a.s_hi - scale_of x) ≡ numerator_of x = ap (λ k. numerator_of x *ℤ ten_to k) less ∙ omega (arith, ints) in
    record {
      least_scale = omega arith;
      greatest_scale = omega arith;
      low = rw same (subst (λ n. a.lo ≤ℤ n) own h.low);
      high = rw same (subst (λ n. n ≤ℤ a.hi) own h.high);
    }

pub one_covers : (op : One) (k : NodeKind) (e : Term) (a r : Interval) (x : Decimal) → takes_one op k ≡ true → OneKeepsScale op → HasShape k a → Contains a x → one_range op (kind_of_one op k) e a ≡ Ok r → OneCovers op (kind_of_one op k) e x r
one_covers (unary Minus) k e a r x takes keeps shape h g =
    let w = (shape_bits k a takes shape).whole in
    let s = whole_opposite_sound (bits_of k) a r w g (numerator_of x) (whole_inside a x w h) in
    record { fits = s.fits; inside = s.inside (whole_decimal (whole_opposite (numerator_of x))) refl }
one_covers (unary Not) k e a r x takes keeps shape h g = absurd (cc)
one_covers (unary Negate) k e a r x takes keeps shape h g = record { fits = tt; inside = subst (λ r. Contains r (negated x)) (ok_is (negated_row a) r g) (negation_sound a x h) }
one_covers (unary Abs) k e a r x takes keeps shape h g = record { fits = tt; inside = subst (λ r. Contains r (magnitude x)) (ok_is (magnitude_row a) r g) (magnitude_sound a x h) }
one_covers value_of k e a r x takes keeps shape h g = record { fits = tt; inside = subst (λ r. Contains r (as_big e x)) (ok_is (big_range e a) r g) (big_inside e a x h) }
one_covers (value_of_scaled s) k e a r x takes keeps shape h g =
    let w = (shape_bits k a takes shape).whole in
    record { fits = keeps; inside = subst (λ r. Contains r (decimal (numerator_of x) s)) (ok_is (interval a.lo a.hi s s) r g) (scaled_inside a x s w h) }
one_covers new_big k e a r x takes keeps shape h g = record { fits = tt; inside = subst (λ r. Contains r x) (ok_is a r g) h }
one_covers (set_scale s mode) k e a r x takes keeps shape h g =
    let c = rescaling_sound mode s a r keeps g x h in
    record { fits = c.fits; inside = c.inside (rescaled mode s x) (rescaled_is mode s x) }

-- ---- two operands

pub record TwoCovers (op : Two) (k : NodeKind) (x y : Decimal) (r : Interval) : Type 0 where
  pub goes : goes_right op x ≡ true
  pub fits : TwoFits op k x y
  pub gives : Decimal
  pub is : of_two op x y ≡ Some gives
  pub inside : Contains r gives

module _ (scope : Scope) (e f : Term) (j k : NodeKind) (a b r : Interval) (x y : Decimal) (sa : HasShape j a) (sb : HasShape k b) (ha : Contains a x) (hb : Contains b y) where
  -- two whole numbers
  module _ (wholes : (is_whole j && is_whole k) ≡ true) where
    abbrev bits : ℕ
    bits = bits_of (wider j k)

    wa : IsWholeOfBits bits a
    wa = wider_left j k a (both_true (is_whole j) (is_whole k) wholes).0 sa

    wb : IsWholeOfBits bits b
    wb = let both = both_true (is_whole j) (is_whole k) wholes in wider_right j k b both.0 both.1 sb

    ia : Contains a (whole_decimal (numerator_of x))
    ia = whole_inside a x wa.whole ha

    ib : Contains b (whole_decimal (numerator_of y))
    ib = whole_inside b y wb.whole hb

    sum_covers : whole_row bits whole_sum a b ≡ Ok r → TwoCovers (operator binaries.Plus) (wider j k) x y r
    sum_covers g =
        let c = whole_sum_sound bits a b r wa.whole wb.whole g (numerator_of x) (numerator_of y) ia ib in
        record { goes = refl; fits = c.fits; gives = whole_decimal (whole_sum (numerator_of x) (numerator_of y)); is = refl; inside = c.inside _ refl }

    difference_covers : whole_row bits whole_difference a b ≡ Ok r → TwoCovers (operator binaries.Sub) (wider j k) x y r
    difference_covers g =
        let c = whole_difference_sound bits a b r wa.whole wb.whole g (numerator_of x) (numerator_of y) ia ib in
        record { goes = refl; fits = c.fits; gives = whole_decimal (whole_difference (numerator_of x) (numerator_of y)); is = refl; inside = c.inside _ refl }

    product_covers : whole_row bits whole_product a b ≡ Ok r → TwoCovers (operator binaries.Mul) (wider j k) x y r
    product_covers g =
        let c = whole_product_sound bits a b r wa.whole wb.whole g (numerator_of x) (numerator_of y) ia ib in
        record { goes = refl; fits = c.fits; gives = whole_decimal (whole_product (numerator_of x) (numerator_of y)); is = refl; inside = c.inside _ refl }

    quotient_covers : whole_quotient_row bits a b ≡ Ok r → TwoCovers (operator binaries.Div) (wider j k) x y r
    quotient_covers g =
        let c = whole_quotient_sound bits a b r wa.whole wb.whole g (numerator_of x) (numerator_of y) ia ib in
        let z = whole_decimal (whole_quotient (numerator_of x) (numerator_of y)) in
        record { goes = refl; fits = c.covers.fits; gives = z; is = unless_passes y z c.not_zero; inside = c.covers.inside z refl }

    remainder_covers : whole_remainder_row a b ≡ Ok r → TwoCovers (operator binaries.Rem) (wider j k) x y r
    remainder_covers g =
        let c = whole_remainder_sound bits a b r wa wb.whole g (numerator_of x) (numerator_of y) ia ib in
        let z = whole_decimal (whole_remainder (numerator_of x) (numerator_of y)) in
        record { goes = refl; fits = c.covers.fits; gives = z; is = unless_passes y z c.not_zero; inside = c.covers.inside z refl }

  operator_covers : (o : Binary) → takes_two scope (operator o) e j f k ≡ true → two_range scope (operator o) (kind_of_two (operator o) j k) f a b ≡ Ok r → TwoCovers (operator o) (kind_of_two (operator o) j k) x y r
  operator_covers binaries.Mul t g = product_covers t g
  operator_covers binaries.Div t g = quotient_covers t g
  operator_covers binaries.Rem t g = remainder_covers t g
  operator_covers binaries.Plus t g = sum_covers t g
  operator_covers binaries.Sub t g = difference_covers t g
  operator_covers binaries.Less t g = absurd (cc)
  operator_covers binaries.LessEq t g = absurd (cc)
  operator_covers binaries.More t g = absurd (cc)
  operator_covers binaries.MoreEq t g = absurd (cc)
  operator_covers binaries.Same t g = absurd (cc)
  operator_covers binaries.Differs t g = absurd (cc)
  operator_covers binaries.And t g = absurd (cc)
  operator_covers binaries.Or t g = absurd (cc)

  -- divide(d), d being the value of the right operand
  exact_covers : shows_plain_divisor scope f ≡ true → ((d : Decimal) → shown_divisor scope f ≡ Some d → y ≡ d) → shown_range (shown_divisor scope f) a ≡ Ok r → TwoCovers (method calls.DivideExact) Big x y r
  exact_covers plain shown g =
      let d = shown_plain scope f plain in
      let same : y ≡ d.0 = shown d.0 d.1 in
      let row : exact_quotient_row (numerator_of d.0) a ≡ Ok r = subst (λ o. shown_range o a ≡ Ok r) d.1 g in
      let c = exact_quotient_sound (numerator_of d.0) a r d.2 row x ha in
      let some : numerator_of d.0 ≢ pos 0 = plain_some (numerator_of d.0) d.2 in
      subst (λ y. TwoCovers (method calls.DivideExact) Big x y r) (sym same) (record {
        goes = refl;
        fits = c.fits;
        gives = exact_quotient x (numerator_of d.0);
        is = unless_passes d.0 (exact_quotient x (numerator_of d.0)) some;
        inside = c.inside (exact_quotient x (numerator_of d.0)) (exact_quotient_is x (numerator_of d.0) d.2);
      })
    where
      plain_some : (n : ℤ) → IsPlainDivisor n → n ≢ pos 0
      plain_some n p z = let l = p.positive in absurd (omega (arith, ints))

  shows : (s t u : Bool) → (s && (t && u)) ≡ true → u ≡ true
  shows s t u t' = (both_true t u (both_true s (t && u) t').1).1

  method_covers : (m : Call) → takes_two scope (method m) e j f k ≡ true → ((d : Decimal) → shown_divisor scope f ≡ Some d → y ≡ d) → two_range scope (method m) (kind_of_two (method m) j k) f a b ≡ Ok r → TwoCovers (method m) (kind_of_two (method m) j k) x y r
  method_covers calls.Add t d g = let c = sum_sound a b r g x y ha hb in record { goes = refl; fits = c.fits; gives = sum x y; is = refl; inside = c.inside (sum x y) refl }
  method_covers calls.Subtract t d g = let c = difference_sound a b r g x y ha hb in record { goes = refl; fits = c.fits; gives = difference x y; is = refl; inside = c.inside (difference x y) refl }
  method_covers calls.Multiply t d g = let c = product_sound a b r g x y ha hb in record { goes = refl; fits = c.fits; gives = product x y; is = refl; inside = c.inside (product x y) refl }
  method_covers calls.DivideExact t d g = exact_covers (shows (is_big j) (is_big k) (shows_plain_divisor scope f) t) d g
  method_covers calls.CompareTo t d g = let c = comparison_sound a b r g x y ha hb in record { goes = refl; fits = c.fits; gives = whole_decimal (comparison x y); is = refl; inside = c.inside (whole_decimal (comparison x y)) refl }
  method_covers calls.Min t d g = let c = min_sound a b r g x y ha hb in record { goes = refl; fits = c.fits; gives = lesser x y; is = refl; inside = c.inside (lesser x y) refl }
  method_covers calls.Max t d g = let c = max_sound a b r g x y ha hb in record { goes = refl; fits = c.fits; gives = greater x y; is = refl; inside = c.inside (greater x y) refl }

  divide_covers : (s : ℕ) (mode : Mode) → s ≤ most_places → quotient_row mode s a b ≡ Ok r → TwoCovers (divide s mode) Big x y r
  divide_covers s mode keeps g =
      let c = quotient_sound mode s a b r keeps sa.places g x y ha hb in
      record {
        goes = refl;
        fits = c.covers.fits;
        gives = quotient mode s x y;
        is = unless_passes y (quotient mode s x y) c.not_zero;
        inside = c.covers.inside (quotient mode s x y) (quotient_is mode s x y c.not_zero);
      }

  pub two_covers : (op : Two) → takes_two scope op e j f k ≡ true → TwoKeepsScale op → ((d : Decimal) → shown_divisor scope f ≡ Some d → y ≡ d) → two_range scope op (kind_of_two op j k) f a b ≡ Ok r → TwoCovers op (kind_of_two op j k) x y r
  two_covers (operator o) t keeps d g = operator_covers o t g
  two_covers (method m) t keeps d g = method_covers m t d g
  two_covers (divide s mode) t keeps d g = divide_covers s mode keeps g
