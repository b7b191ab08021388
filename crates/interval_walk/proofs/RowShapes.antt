-- What a row answers has the shape of its kind.
use Rattle.std.proofs.Common.{◌≡◌, ℕ, ◌+◌, ◌-◌, ◌^◌, ◌<◌, ◌≤◌, max, ℤ, pos, negsuc, ◌+ℤ◌, ◌-ℤ◌, ◌*ℤ◌, ◌≤ℤ◌, neg_ℤ, int_le, int_lt, nat_lt, List, [], ◌∷◌, Bool, true, false, not, ◌&&◌, ◌||◌, if◌then◌else◌, Ok, Err, refl, sym, ap, ◌∙◌, subst, inl, inr, arith}
use Rattle.std.specs.Prelude.{◌==◌, ◌⊎◌, All, fold}
use Rattle.std.specs.List.{list_all}
use Rattle.std.specs.Int.{int_min, int_max}
use Rattle.std.proofs.lemmas.Int.{ints, clamps}
use Rattle.std.proofs.lemmas.Bool.Decides.{nat_tests}
use Rattle.std.proofs.Math.Nat.{one-le-pow}
use Rattle.std.proofs.lemmas.List.Elements.{All-cons, All-nil, All-head, All-tail}
use Rattle.scaled_decimal.specs.declared.rounding.Mode.{Mode}
use Rattle.scaled_decimal.specs.Decimals.{ten_to}
use Rattle.scaled_decimal.specs.Limits.{most_places}
use Rattle.scaled_decimal.specs.WholeNumbers.{IsOfBits, is_of_bits, int_bits, long_bits}
use Rattle.interval_num.specs.declared.cause.RangeCause.{RangeCause}
use Rattle.interval_num.specs.declared.cause.RangeCause.TheVariants.{Wide, Scale, Divisor}
use Rattle.interval_num.specs.Intervals.{Interval, interval, IsWholeOfBits}
use Rattle.interval_num.specs.Alignment.{unless, within_limit, ends_beyond, aligned, at_scale, greater_scale, hull, greatest_magnitude, has_zero, is_beyond}
use Rattle.interval_num.specs.PlainDivisors.{divisor_places, cofactor}
use Rattle.interval_num.specs.Signs.{signs_at, least_sign, greatest_sign}
use Rattle.interval_num.specs.Rows.{RowAnswer, sum_of, difference_of, min_of, max_of, join_of, comparison_of, sum_row, difference_row, product_row, min_row, max_row, comparison_row, join_row, quotient_row, quotient_is_wide, exact_quotient_row, rescaled_row, whole_hull, whole_remainder_row, least_remainder, greatest_remainder}
use Rattle.interval_num.specs.declared.sign_set.SignSet.{SignSet}
use Rattle.pap_types.specs.declared.kinds.NodeKind.{NodeKind}
use Rattle.pap_types.specs.declared.kinds.NodeKind.TheVariants.{Int, Long, Big, Truth, Fraction, Factor, Table}
use Rattle.pap_types.specs.Kinds.{is_whole, is_big, wider, are_parts}
use Rattle.pap_types.specs.Safety.{bits_of}
use Rattle.interval_walk.specs.NodeRanges.{is_whole_of, read_range, read_item}
use Rattle.interval_walk.specs.Shapes.{HasShape}

-- ---- answers

-- an answer that no cause refuses
pub unless_ok : (t : Bool) (cause : RangeCause) (answer : RowAnswer) (r : Interval) → unless t cause answer ≡ Ok r → (t ≡ false) × (answer ≡ Ok r)
unless_ok true cause answer r e = absurd (cc)
unless_ok false cause answer r e = (refl, e)

pub ok_is : (s r : Interval) → ◌≡◌ {A = RowAnswer} (Ok s) (Ok r) → s ≡ r
ok_is s r e = cc

pub both_true : (s t : Bool) → (s && t) ≡ true → (s ≡ true) × (t ≡ true)
both_true true t e = (refl, e)
both_true false t e = absurd (cc)

pub not_false : (t : Bool) → not t ≡ false → t ≡ true
not_false true e = refl
not_false false e = absurd (cc)

of_bits_out : (bits : ℕ) (n : ℤ) → is_of_bits bits n ≡ true → IsOfBits bits n
of_bits_out bits n e =
    let both = both_true (int_le (neg_ℤ (pos (2 ^ (bits - 1)))) n) (int_lt n (pos (2 ^ (bits - 1)))) e in
    let l = both.0 in
    let h = both.1 in
    record { low = omega (arith, ints); high = omega (arith, ints) }

is_same : (m n : ℕ) → (m == n) ≡ true → m ≡ n
is_same m n e = grind (arith, nat_tests)

whole_of_out : (bits : ℕ) (a : Interval) → is_whole_of bits a ≡ true → IsWholeOfBits bits a
whole_of_out bits a e =
    let s = both_true (a.s_lo == 0) _ e in
    let t = both_true (a.s_hi == 0) _ s.1 in
    let u = both_true (is_of_bits bits a.lo) (is_of_bits bits a.hi) t.1 in
    record {
      whole = record { least_scale = is_same a.s_lo 0 s.0; greatest_scale = is_same a.s_hi 0 t.0 };
      low = of_bits_out bits a.lo u.0;
      high = of_bits_out bits a.hi u.1;
    }

-- ---- shapes

-- a whole number of a kind's bits
pub bits_shape : (k : NodeKind) (a : Interval) → IsWholeOfBits (bits_of k) a → HasShape k a
bits_shape Int a w = let z = w.whole.greatest_scale in record { places = omega arith; suits = w }
bits_shape Long a w = let z = w.whole.greatest_scale in record { places = omega arith; suits = w }
bits_shape Big a w = let z = w.whole.greatest_scale in record { places = omega arith; suits = tt }
bits_shape Truth a w = let z = w.whole.greatest_scale in record { places = omega arith; suits = tt }
bits_shape Fraction a w = let z = w.whole.greatest_scale in record { places = omega arith; suits = tt }
bits_shape Factor a w = let z = w.whole.greatest_scale in record { places = omega arith; suits = tt }
bits_shape Table a w = let z = w.whole.greatest_scale in record { places = omega arith; suits = tt }

pub big_shape : (a : Interval) → a.s_hi ≤ most_places → HasShape Big a
big_shape a h = record { places = h; suits = tt }

-- a kind of whole numbers has whole numbers of its bits
pub shape_bits : (k : NodeKind) (a : Interval) → is_whole k ≡ true → HasShape k a → IsWholeOfBits (bits_of k) a
shape_bits Int a e h = h.suits
shape_bits Long a e h = h.suits
shape_bits Big a e h = absurd (cc)
shape_bits Truth a e h = absurd (cc)
shape_bits Fraction a e h = absurd (cc)
shape_bits Factor a e h = absurd (cc)
shape_bits Table a e h = absurd (cc)

pub longer_bits : (n : ℤ) → IsOfBits int_bits n → IsOfBits long_bits n
longer_bits n h = let l = h.low in let u = h.high in record { low = omega (arith, ints); high = omega (arith, ints) }

pub longer_whole : (a : Interval) → IsWholeOfBits int_bits a → IsWholeOfBits long_bits a
longer_whole a w = record { whole = w.whole; low = longer_bits a.lo w.low; high = longer_bits a.hi w.high }

-- and those of the wider of two kinds
pub wider_left : (j k : NodeKind) (a : Interval) → is_whole j ≡ true → HasShape j a → IsWholeOfBits (bits_of (wider j k)) a
wider_left Int Int a e h = h.suits
wider_left Int Long a e h = longer_whole a h.suits
wider_left Int Big a e h = h.suits
wider_left Int Truth a e h = h.suits
wider_left Int Fraction a e h = h.suits
wider_left Int Factor a e h = h.suits
wider_left Int Table a e h = h.suits
wider_left Long Int a e h = h.suits
wider_left Long Long a e h = h.suits
wider_left Long Big a e h = h.suits
wider_left Long Truth a e h = h.suits
wider_left Long Fraction a e h = h.suits
wider_left Long Factor a e h = h.suits
wider_left Long Table a e h = h.suits
wider_left Big k a e h = absurd (cc)
wider_left Truth k a e h = absurd (cc)
wider_left Fraction k a e h = absurd (cc)
wider_left Factor k a e h = absurd (cc)
wider_left Table k a e h = absurd (cc)

pub wider_right : (j k : NodeKind) (a : Interval) → is_whole j ≡ true → is_whole k ≡ true → HasShape k a → IsWholeOfBits (bits_of (wider j k)) a
wider_right Int Int a e f h = h.suits
wider_right Int Long a e f h = h.suits
wider_right Long Int a e f h = longer_whole a h.suits
wider_right Long Long a e f h = h.suits
wider_right j Big a e f h = absurd (cc)
wider_right j Truth a e f h = absurd (cc)
wider_right j Fraction a e f h = absurd (cc)
wider_right j Factor a e f h = absurd (cc)
wider_right j Table a e f h = absurd (cc)
wider_right Big k a e f h = absurd (cc)
wider_right Truth k a e f h = absurd (cc)
wider_right Fraction k a e f h = absurd (cc)
wider_right Factor k a e f h = absurd (cc)
wider_right Table k a e f h = absurd (cc)

-- ---- what is read

few_places : (a : Interval) → nat_lt most_places a.s_hi ≡ false → a.s_hi ≤ most_places
few_places a e = grind (arith, nat_tests)

-- what is read is as it was, and has the shape of its kind
pub record IsRead (k : NodeKind) (a r : Interval) : Type 0 where
  pub same : a ≡ r
  pub shape : HasShape k a

read_bits : (k : NodeKind) (a r : Interval) → unless (not (is_whole_of (bits_of k) a)) Wide (Ok a) ≡ Ok r → IsRead k a r
read_bits k a r e =
    let p = unless_ok (not (is_whole_of (bits_of k) a)) Wide (Ok a) r e in
    record { same = ok_is a r p.1; shape = bits_shape k a (whole_of_out (bits_of k) a (not_false _ p.0)) }

read_places : (k : NodeKind) (a r : Interval) → (a.s_hi ≤ most_places → HasShape k a) → unless (nat_lt most_places a.s_hi) Scale (Ok a) ≡ Ok r → IsRead k a r
read_places k a r make e =
    let p = unless_ok (nat_lt most_places a.s_hi) Scale (Ok a) r e in
    record { same = ok_is a r p.1; shape = make (few_places a p.0) }

pub read_shape : (k : NodeKind) (a r : Interval) → read_range k a ≡ Ok r → IsRead k a r
read_shape Int a r e = read_bits Int a r e
read_shape Long a r e = read_bits Long a r e
read_shape Big a r e = read_places Big a r (λ h. record { places = h; suits = tt }) e
read_shape Truth a r e = read_places Truth a r (λ h. record { places = h; suits = tt }) e
read_shape Fraction a r e = read_places Fraction a r (λ h. record { places = h; suits = tt }) e
read_shape Factor a r e = read_places Factor a r (λ h. record { places = h; suits = tt }) e
read_shape Table a r e = read_places Table a r (λ h. record { places = h; suits = tt }) e

pub read_item_shape : (o : RowAnswer) (r : Interval) → read_item o ≡ Ok r → (o ≡ Ok r) × HasShape Big r
read_item_shape (Ok a) r e = let h = read_shape Big a r e in (ap Ok h.same, subst (HasShape Big) h.same h.shape)
read_item_shape (Err c) r e = absurd (cc)

-- ---- rows of whole numbers

all_of_bits : (bits : ℕ) (ns : List ℤ) → list_all (is_of_bits bits) ns ≡ true → All (IsOfBits bits) ns
all_of_bits bits [] e = All-nil (IsOfBits bits)
all_of_bits bits (n ∷ ns) e =
    let both = both_true (is_of_bits bits n) (list_all (is_of_bits bits) ns) e in
    All-cons (IsOfBits bits) n ns (of_bits_out bits n both.0) (all_of_bits bits ns both.1)

choose : (P : ℤ → Type 0) (m n : ℤ) (t : Bool) → P m → P n → P (if t then m else n)
choose P m n true p q = p
choose P m n false p q = q

fold_min_keeps : (P : ℤ → Type 0) (n : ℤ) (ns : List ℤ) → P n → All P ns → P (fold int_min n ns)
fold_min_keeps P n [] p all = p
fold_min_keeps P n (m ∷ ms) p all = fold_min_keeps P (int_min n m) ms (choose P m n (int_lt m n) (All-head P m ms all) p) (All-tail P m ms all)

fold_max_keeps : (P : ℤ → Type 0) (n : ℤ) (ns : List ℤ) → P n → All P ns → P (fold int_max n ns)
fold_max_keeps P n [] p all = p
fold_max_keeps P n (m ∷ ms) p all = fold_max_keeps P (int_max n m) ms (choose P n m (int_lt m n) p (All-head P m ms all)) (All-tail P m ms all)

pub hull_shape : (bits : ℕ) (n : ℤ) (ns : List ℤ) (r : Interval) → whole_hull bits (n ∷ ns) ≡ Ok r → IsWholeOfBits bits r
hull_shape bits n ns r e =
    let p = unless_ok (not (list_all (is_of_bits bits) (n ∷ ns))) Wide (Ok (hull (n ∷ ns) 0 0)) r e in
    let all = all_of_bits bits (n ∷ ns) (not_false _ p.0) in
    let here = All-head (IsOfBits bits) n ns all in
    let rest = All-tail (IsOfBits bits) n ns all in
    subst (IsWholeOfBits bits) (ok_is _ r p.1) (record {
      whole = record { least_scale = refl; greatest_scale = refl };
      low = fold_min_keeps (IsOfBits bits) n ns here rest;
      high = fold_max_keeps (IsOfBits bits) n ns here rest;
    })

-- a number between one of so many bits and zero
between_low : (bits : ℕ) (l z : ℤ) → IsOfBits bits l → l ≤ℤ z → z ≤ℤ pos 0 → IsOfBits bits z
between_low bits l z h p q =
    let a = h.low in
    let some : 0 < 2 ^ (bits - 1) = power (bits - 1) in
    record { low = omega (arith, ints); high = omega (arith, ints) }
  where
    power : (k : ℕ) → 0 < 2 ^ k
    power k = one-le-pow k 2 (omega arith)

between_high : (bits : ℕ) (u z : ℤ) → IsOfBits bits u → pos 0 ≤ℤ z → z ≤ℤ u → IsOfBits bits z
between_high bits u z h p q =
    let a = h.high in
    record { low = omega (arith, ints); high = omega (arith, ints) }

most_some : (b : Interval) → has_zero b ≡ false → pos 0 ≤ℤ (greatest_magnitude b -ℤ pos 1)
most_some b e = by_low (int_le b.lo (pos 0)) refl (int_le (pos 0) b.hi) refl
  where
    by_low : (t : Bool) → int_le b.lo (pos 0) ≡ t → (u : Bool) → int_le (pos 0) b.hi ≡ u → pos 0 ≤ℤ (greatest_magnitude b -ℤ pos 1)
    by_low true f true g = absurd (let h : has_zero b ≡ true = rw (f, g) refl in cc)
    by_low false f u g = omega (arith, ints)
    by_low true f false g = omega (arith, ints)

remainder_low : (bits : ℕ) (l m : ℤ) → IsOfBits bits l → pos 0 ≤ℤ m → (t : Bool) → int_le (pos 0) l ≡ t → IsOfBits bits (if t then pos 0 else int_max l (neg_ℤ m))
remainder_low bits l m h p true e = between_high bits l (pos 0) h (omega (arith, ints)) (omega (arith, ints))
remainder_low bits l m h p false e = between_low bits l (int_max l (neg_ℤ m)) h (omega (arith, ints, clamps)) (omega (arith, ints, clamps))

remainder_high : (bits : ℕ) (u m : ℤ) → IsOfBits bits u → pos 0 ≤ℤ m → (t : Bool) → int_le u (pos 0) ≡ t → IsOfBits bits (if t then pos 0 else int_min u m)
remainder_high bits u m h p true e = between_low bits u (pos 0) h (omega (arith, ints)) (omega (arith, ints))
remainder_high bits u m h p false e = between_high bits u (int_min u m) h (omega (arith, ints, clamps)) (omega (arith, ints, clamps))

pub remainder_shape : (bits : ℕ) (a b r : Interval) → IsWholeOfBits bits a → whole_remainder_row a b ≡ Ok r → IsWholeOfBits bits r
remainder_shape bits a b r w e =
    let m = greatest_magnitude b -ℤ pos 1 in
    let p = unless_ok (has_zero b) Divisor (Ok (interval (least_remainder a.lo m) (greatest_remainder a.hi m) 0 0)) r e in
    subst (IsWholeOfBits bits) (ok_is _ r p.1) (record {
      whole = record { least_scale = refl; greatest_scale = refl };
      low = remainder_low bits a.lo m w.low (most_some b p.0) (int_le (pos 0) a.lo) refl;
      high = remainder_high bits a.hi m w.high (most_some b p.0) (int_le a.hi (pos 0)) refl;
    })

-- ---- rows of decimals

pub aligned_made : (make : Interval → Interval → RowAnswer) (a b r : Interval) → aligned make a b ≡ Ok r → make (at_scale (greater_scale a b) a) (at_scale (greater_scale a b) b) ≡ Ok r
aligned_made make a b r e = (unless_ok _ Wide _ r e).1

kept_is : (a r : Interval) → within_limit a ≡ Ok r → a ≡ r
kept_is a r e = ok_is a r (unless_ok (ends_beyond a) Wide (Ok a) r e).1

module _ (a b : Interval) (ha : a.s_hi ≤ most_places) (hb : b.s_hi ≤ most_places) (r : Interval) where
  abbrev few : greater_scale a b ≤ most_places
  few = omega arith

  abbrev x : Interval
  x = at_scale (greater_scale a b) a

  abbrev y : Interval
  y = at_scale (greater_scale a b) b

  pub sum_places : sum_row a b ≡ Ok r → HasShape Big r
  sum_places e = big_shape r (subst (λ r. r.s_hi ≤ most_places) (kept_is (interval (x.lo +ℤ y.lo) (x.hi +ℤ y.hi) (max x.s_lo y.s_lo) x.s_hi) r (aligned_made sum_of a b r e)) few)

  pub difference_places : difference_row a b ≡ Ok r → HasShape Big r
  difference_places e = big_shape r (subst (λ r. r.s_hi ≤ most_places) (kept_is (interval (x.lo -ℤ y.hi) (x.hi -ℤ y.lo) (max x.s_lo y.s_lo) x.s_hi) r (aligned_made difference_of a b r e)) few)

  pub min_places : min_row a b ≡ Ok r → HasShape Big r
  min_places e = big_shape r (subst (λ r. r.s_hi ≤ most_places) (ok_is _ r (aligned_made min_of a b r e)) few)

  pub max_places : max_row a b ≡ Ok r → HasShape Big r
  max_places e = big_shape r (subst (λ r. r.s_hi ≤ most_places) (ok_is _ r (aligned_made max_of a b r e)) few)

  pub join_places : join_row a b ≡ Ok r → r.s_hi ≤ most_places
  join_places e = subst (λ r. r.s_hi ≤ most_places) (ok_is _ r (aligned_made join_of a b r e)) few

least_of_bits : (s : SignSet) → IsOfBits int_bits (least_sign s)
least_of_bits s = by_two s.minus s.zero
  where
    by_two : (t u : Bool) → IsOfBits int_bits (if t then negsuc 0 else if u then pos 0 else pos 1)
    by_two true u = record { low = omega (arith, ints); high = omega (arith, ints) }
    by_two false true = record { low = omega (arith, ints); high = omega (arith, ints) }
    by_two false false = record { low = omega (arith, ints); high = omega (arith, ints) }

greatest_of_bits : (s : SignSet) → IsOfBits int_bits (greatest_sign s)
greatest_of_bits s = by_two s.plus s.zero
  where
    by_two : (t u : Bool) → IsOfBits int_bits (if t then pos 1 else if u then pos 0 else negsuc 0)
    by_two true u = record { low = omega (arith, ints); high = omega (arith, ints) }
    by_two false true = record { low = omega (arith, ints); high = omega (arith, ints) }
    by_two false false = record { low = omega (arith, ints); high = omega (arith, ints) }

pub comparison_shape : (a b r : Interval) → comparison_row a b ≡ Ok r → HasShape Int r
comparison_shape a b r e =
    let s = signs_at (at_scale (greater_scale a b) a) (at_scale (greater_scale a b) b) in
    bits_shape Int r (subst (IsWholeOfBits int_bits) (ok_is _ r (aligned_made comparison_of a b r e)) (record {
      whole = record { least_scale = refl; greatest_scale = refl };
      low = least_of_bits s;
      high = greatest_of_bits s;
    }))

pub product_shape : (a b r : Interval) → product_row a b ≡ Ok r → HasShape Big r
product_shape a b r e =
    let p = unless_ok (nat_lt most_places (a.s_hi + b.s_hi)) Scale _ r e in
    let q = unless_ok _ Wide (Ok _) r p.1 in
    let f = p.0 in
    let few : a.s_hi + b.s_hi ≤ most_places = grind (arith, nat_tests) in
    big_shape r (subst (λ r. r.s_hi ≤ most_places) (ok_is _ r q.1) few)

pub quotient_shape : (mode : Mode) (s : ℕ) (a b r : Interval) → s ≤ most_places → quotient_row mode s a b ≡ Ok r → HasShape Big r
quotient_shape mode s a b r few e =
    let p = unless_ok (has_zero b) Divisor _ r e in
    let q = unless_ok (quotient_is_wide s a b) Wide (Ok _) r p.1 in
    big_shape r (subst (λ r. r.s_hi ≤ most_places) (ok_is _ r q.1) few)

pub exact_quotient_shape : (d : ℤ) (a r : Interval) → exact_quotient_row d a ≡ Ok r → HasShape Big r
exact_quotient_shape d a r e =
    let p = unless_ok (nat_lt most_places (a.s_hi + divisor_places d)) Scale _ r e in
    let f = p.0 in
    let few : a.s_hi + divisor_places d ≤ most_places = grind (arith, nat_tests) in
    big_shape r (subst (λ r. r.s_hi ≤ most_places) (kept_is (interval (a.lo *ℤ cofactor d) (a.hi *ℤ cofactor d) a.s_lo (a.s_hi + divisor_places d)) r p.1) few)

pub rescaled_shape : (mode : Mode) (s : ℕ) (a r : Interval) → s ≤ most_places → rescaled_row mode s a ≡ Ok r → HasShape Big r
rescaled_shape mode s a r few e =
    let q = unless_ok (is_beyond (greatest_magnitude a *ℤ ten_to (s - a.s_hi))) Wide (Ok _) r e in
    big_shape r (subst (λ r. r.s_hi ≤ most_places) (ok_is _ r q.1) few)

-- ---- joins

times_one : (n : ℤ) (k : ℕ) → k ≡ 0 → n *ℤ ten_to k ≡ n
times_one n k e = ap (λ k. n *ℤ ten_to k) e ∙ omega (arith, ints)

-- a join of whole numbers
pub join_bits : (bits : ℕ) (a b r : Interval) → IsWholeOfBits bits a → IsWholeOfBits bits b → join_row a b ≡ Ok r → IsWholeOfBits bits r
join_bits bits a b r wa wb e =
    let q = greater_scale a b in
    let za = wa.whole.greatest_scale in
    let zb = wb.whole.greatest_scale in
    let la = wa.whole.least_scale in
    let zero : q - a.s_hi ≡ 0 = omega arith in
    let zero' : q - b.s_hi ≡ 0 = omega arith in
    let alo = subst (IsOfBits bits) (sym (times_one a.lo (q - a.s_hi) zero)) wa.low in
    let ahi = subst (IsOfBits bits) (sym (times_one a.hi (q - a.s_hi) zero)) wa.high in
    let blo = subst (IsOfBits bits) (sym (times_one b.lo (q - b.s_hi) zero')) wb.low in
    let bhi = subst (IsOfBits bits) (sym (times_one b.hi (q - b.s_hi) zero')) wb.high in
    subst (IsWholeOfBits bits) (ok_is _ r (aligned_made join_of a b r e)) (record {
      whole = record { least_scale = omega arith; greatest_scale = omega arith };
      low = choose (IsOfBits bits) _ _ _ blo alo;
      high = choose (IsOfBits bits) _ _ _ ahi bhi;
    })

either_parts : (s t : Bool) → (s || t) ≡ true → (s ≡ true) ⊎ (t ≡ true)
either_parts true t e = inl refl
either_parts false t e = inr e

is_big_kind : (j k : NodeKind) → (is_big j && is_big k) ≡ true → (j ≡ Big) × (k ≡ Big)
is_big_kind Big Big e = (refl, refl)
is_big_kind Big Int e = absurd (cc)
is_big_kind Big Long e = absurd (cc)
is_big_kind Big Truth e = absurd (cc)
is_big_kind Big Fraction e = absurd (cc)
is_big_kind Big Factor e = absurd (cc)
is_big_kind Big Table e = absurd (cc)
is_big_kind Int k e = absurd (cc)
is_big_kind Long k e = absurd (cc)
is_big_kind Truth k e = absurd (cc)
is_big_kind Fraction k e = absurd (cc)
is_big_kind Factor k e = absurd (cc)
is_big_kind Table k e = absurd (cc)

-- the parts of a conditional have the shape of its kind, and so has their join
module _ (j k : NodeKind) (fit : are_parts j k ≡ true) where
  pub first_shape : (a : Interval) → HasShape j a → HasShape (wider j k) a
  first_shape a ha = elim (either_parts (is_big j && is_big k) (is_whole j && is_whole k) fit) [
    | inl big ↦ (let s = is_big_kind j k big in rw (s.0, s.1) (big_shape a ha.places))
    | inr wholes ↦ bits_shape (wider j k) a (wider_left j k a (both_true (is_whole j) (is_whole k) wholes).0 ha)
  ]

  pub second_shape : (b : Interval) → HasShape k b → HasShape (wider j k) b
  second_shape b hb = elim (either_parts (is_big j && is_big k) (is_whole j && is_whole k) fit) [
    | inl big ↦ (let s = is_big_kind j k big in rw (s.0, s.1) (big_shape b hb.places))
    | inr wholes ↦ (let w = both_true (is_whole j) (is_whole k) wholes in bits_shape (wider j k) b (wider_right j k b w.0 w.1 hb))
  ]

  pub join_shape : (a b r : Interval) → HasShape j a → HasShape k b → join_row a b ≡ Ok r → HasShape (wider j k) r
  join_shape a b r ha hb e = elim (either_parts (is_big j && is_big k) (is_whole j && is_whole k) fit) [
    | inl big ↦ (let s = is_big_kind j k big in rw (s.0, s.1) (big_shape r (join_places a b ha.places hb.places r e)))
    | inr wholes ↦ (let w = both_true (is_whole j) (is_whole k) wholes in bits_shape (wider j k) r (join_bits (bits_of (wider j k)) a b r (wider_left j k a w.0 ha) (wider_right j k b w.0 w.1 hb) e))
  ]
