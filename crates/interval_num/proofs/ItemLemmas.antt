-- The items that an index may choose lie in the interval of its row.
use Rattle.std.proofs.Common.{◌≡◌, ℕ, zero, suc, ◌+◌, ◌-◌, ◌<◌, ◌≤◌, max, min, ℤ, pos, negsuc, ◌≤ℤ◌, ◌<ℤ◌, unsigned_abs, int_le, int_lt, Bool, true, false, ◌||◌, List, [], ◌∷◌, length, map, fold, take, drop, get_or, Some, Ok, refl, ap, ◌∙◌, subst, arith}
use Rattle.std.specs.Prelude.{slice_get, slice_range}
use Rattle.std.specs.List.{list_any}
use Rattle.std.specs.Int.{int_min, int_max}
use Rattle.std.proofs.lemmas.Int.{ints, clamps}
use Rattle.std.proofs.lemmas.Option.{slice_get-get_or, slice_get-map}
use Rattle.scaled_decimal.specs.Decimals.{Decimal, scale_of, numerator_at}
use Rattle.scaled_decimal.specs.WholeNumbers.{whole_decimal}
use Rattle.interval_num.specs.declared.cause.RangeCause.TheVariants.{Wide, Index}
use Rattle.interval_num.specs.Intervals.{Interval, Contains, IsWhole}
use Rattle.interval_num.specs.Alignment.{is_beyond, least, greatest, hull}
use Rattle.interval_num.specs.Rows.{least_scale, greatest_scale, decimals_row, item_row}
use Rattle.interval_num.specs.Soundness.{ItemIsSound}
use Rattle.interval_num.proofs.AlignmentLemmas.{unless_ok, ok_is}
use Rattle.interval_num.proofs.WholeLemmas.{whole_low, whole_high}

-- no item is beyond the least and the greatest
pub min_below : (n : ℤ) (ns : List ℤ) → fold int_min n ns ≤ℤ n
min_below n [] = omega (arith, ints)
min_below n (m ∷ ms) = let b = min_below (int_min n m) ms in omega (arith, ints, clamps)

min_member : (n : ℤ) (ns : List ℤ) (k : ℕ) (z : ℤ) → slice_get ns k ≡ Some z → fold int_min n ns ≤ℤ z
min_member n [] k z e = absurd (cc)
min_member n (m ∷ ms) zero z e = let b = min_below (int_min n m) ms in let same : m ≡ z = cc in rw (← same) (omega (arith, ints, clamps))
min_member n (m ∷ ms) (suc k) z e = min_member (int_min n m) ms k z e

pub max_above : (n : ℤ) (ns : List ℤ) → n ≤ℤ fold int_max n ns
max_above n [] = omega (arith, ints)
max_above n (m ∷ ms) = let b = max_above (int_max n m) ms in omega (arith, ints, clamps)

max_member : (n : ℤ) (ns : List ℤ) (k : ℕ) (z : ℤ) → slice_get ns k ≡ Some z → z ≤ℤ fold int_max n ns
max_member n [] k z e = absurd (cc)
max_member n (m ∷ ms) zero z e = let b = max_above (int_max n m) ms in let same : m ≡ z = cc in rw (← same) (omega (arith, ints, clamps))
max_member n (m ∷ ms) (suc k) z e = max_member (int_max n m) ms k z e

pub least_member : (ns : List ℤ) (k : ℕ) (z : ℤ) → slice_get ns k ≡ Some z → least ns ≤ℤ z
least_member [] k z e = absurd (cc)
least_member (n ∷ ns) zero z e = let same : n ≡ z = cc in rw (← same) (min_below n ns)
least_member (n ∷ ns) (suc k) z e = min_member n ns k z e

pub greatest_member : (ns : List ℤ) (k : ℕ) (z : ℤ) → slice_get ns k ≡ Some z → z ≤ℤ greatest ns
greatest_member [] k z e = absurd (cc)
greatest_member (n ∷ ns) zero z e = let same : n ≡ z = cc in rw (← same) (max_above n ns)
greatest_member (n ∷ ns) (suc k) z e = max_member n ns k z e

-- the same of scales
pub min_scale_below : (n : ℕ) (ns : List ℕ) → fold min n ns ≤ n
min_scale_below n [] = omega arith
min_scale_below n (m ∷ ms) = let b = min_scale_below (min n m) ms in omega arith

min_scale_member : (n : ℕ) (ns : List ℕ) (k z : ℕ) → slice_get ns k ≡ Some z → fold min n ns ≤ z
min_scale_member n [] k z e = absurd (cc)
min_scale_member n (m ∷ ms) zero z e = let b = min_scale_below (min n m) ms in let same : m ≡ z = cc in omega arith
min_scale_member n (m ∷ ms) (suc k) z e = min_scale_member (min n m) ms k z e

pub max_scale_above : (n : ℕ) (ns : List ℕ) → n ≤ fold max n ns
max_scale_above n [] = omega arith
max_scale_above n (m ∷ ms) = let b = max_scale_above (max n m) ms in omega arith

max_scale_member : (n : ℕ) (ns : List ℕ) (k z : ℕ) → slice_get ns k ≡ Some z → z ≤ fold max n ns
max_scale_member n [] k z e = absurd (cc)
max_scale_member n (m ∷ ms) zero z e = let b = max_scale_above (max n m) ms in let same : m ≡ z = cc in omega arith
max_scale_member n (m ∷ ms) (suc k) z e = max_scale_member (max n m) ms k z e

least_scale_holds : (ds : List Decimal) (k : ℕ) (d : Decimal) → slice_get ds k ≡ Some d → least_scale ds ≤ scale_of d
least_scale_holds [] k d e = absurd (cc)
least_scale_holds (c ∷ ds) zero d e = let b = min_scale_below (scale_of c) (map scale_of ds) in let same : c ≡ d = cc in let scales = ap scale_of same in omega arith
least_scale_holds (c ∷ ds) (suc k) d e = min_scale_member (scale_of c) (map scale_of ds) k (scale_of d) (slice_get-map scale_of ds k ∙ rw e refl)

pub greatest_scale_holds : (ds : List Decimal) (k : ℕ) (d : Decimal) → slice_get ds k ≡ Some d → scale_of d ≤ greatest_scale ds
greatest_scale_holds ds k d e = max_scale_member 0 (map scale_of ds) k (scale_of d) (slice_get-map scale_of ds k ∙ rw e refl)

decimals_hold : (ds : List Decimal) (r : Interval) (k : ℕ) (d : Decimal) → decimals_row ds ≡ Ok r → slice_get ds k ≡ Some d → Contains r d
decimals_hold ds r k d e is =
    let q = greatest_scale ds in
    let ns = map (numerator_at q) ds in
    let p = unless_ok (list_any is_beyond ns) Wide (Ok (hull ns (least_scale ds) q)) r e in
    let at : slice_get ns k ≡ Some (numerator_at q d) = slice_get-map (numerator_at q) ds k ∙ rw is refl in
    subst (λ s. Contains s d) (ok_is _ r p.1) (record {
      least_scale = least_scale_holds ds k d is;
      greatest_scale = greatest_scale_holds ds k d is;
      low = least_member ns k (numerator_at q d) at;
      high = greatest_member ns k (numerator_at q d) at;
    })

-- an item between two indices, in the part of the table between them
take_member : {X : Type 0} (xs : List X) (n k : ℕ) → k < n → slice_get (take n xs) k ≡ slice_get xs k
take_member xs zero k h = absurd (omega arith)
take_member [] (suc n) k h = refl
take_member (x ∷ xs) (suc n) zero h = refl
take_member (x ∷ xs) (suc n) (suc k) h = take_member xs n k (omega arith)

drop_member : {X : Type 0} (xs : List X) (i k : ℕ) → slice_get (drop i xs) k ≡ slice_get xs (i + k)
drop_member xs zero k = let e : 0 + k ≡ k = omega arith in rw e refl
drop_member [] (suc i) k = refl
drop_member (x ∷ xs) (suc i) k = let e : suc i + k ≡ suc (i + k) = omega arith in rw e (drop_member xs i k)

range_member : {X : Type 0} (xs : List X) (i j k : ℕ) → i ≤ k → k < j → slice_get (slice_range xs i j) (k - i) ≡ slice_get xs k
range_member xs i j k p q = let e : i + (k - i) ≡ k = omega arith in take_member (drop i xs) (j - i) (k - i) (omega arith) ∙ drop_member xs i (k - i) ∙ ap (slice_get xs) e

either_false : (s t : Bool) → (s || t) ≡ false → (s ≡ false) × (t ≡ false)
either_false true t e = absurd (cc)
either_false false t e = (refl, e)

-- a number between two that are at least 0 and below a length
record IsPlace (i lo hi : ℤ) (n : ℕ) : Type 0 where
  place : ℕ
  is : i ≡ pos place
  within : place < n
  first : unsigned_abs lo ≤ place
  last : place < suc (unsigned_abs hi)

as_place : (i lo hi : ℤ) (n : ℕ) → pos 0 ≤ℤ lo → hi <ℤ pos n → lo ≤ℤ i → i ≤ℤ hi → IsPlace i lo hi n
as_place (pos k) lo hi n p q r s = record { place = k; is = refl; within = omega (arith, ints); first = omega (arith, ints); last = omega (arith, ints) }
as_place (negsuc k) lo hi n p q r s = absurd (omega (arith, ints))

pub item_sound : (items : List Decimal) (index r : Interval) → IsWhole index → item_row items index ≡ Ok r → ItemIsSound items index r
item_sound items index r w e i h =
    let p = unless_ok (int_lt index.lo (pos 0) || int_le (pos (length items)) index.hi) Index (decimals_row (slice_range items (unsigned_abs index.lo) (suc (unsigned_abs index.hi)))) r e in
    let both = either_false (int_lt index.lo (pos 0)) (int_le (pos (length items)) index.hi) p.0 in
    let above = both.0 in
    let below = both.1 in
    let at = as_place i index.lo index.hi (length items) (omega (arith, ints)) (omega (arith, ints)) (whole_low index i w h) (whole_high index i w h) in
    let k = at.place in
    let item = get_or items k (whole_decimal (pos 0)) in
    let is = slice_get-get_or items k (whole_decimal (pos 0)) at.within in
    let chosen = range_member items (unsigned_abs index.lo) (suc (unsigned_abs index.hi)) k at.first at.last in
    record {
      place = k;
      at = at.is;
      item = item;
      is = is;
      inside = decimals_hold (slice_range items (unsigned_abs index.lo) (suc (unsigned_abs index.hi))) r (k - unsigned_abs index.lo) item p.1 (chosen ∙ is);
    }
