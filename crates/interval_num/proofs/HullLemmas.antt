-- The least and the greatest of some numbers, as the code finds them.
use Rattle.std.proofs.Common.{◌≡◌, ℕ, zero, suc, ◌<◌, ◌≤◌, take, ℤ, pos, ◌≤ℤ◌, List, [], ◌∷◌, length, fold, All, slice_index_or, refl, ap, ◌∙◌, arith}
use Rattle.std.specs.Int.{int_min, int_max}
use Rattle.std.proofs.lemmas.Int.{ints, clamps}
use Rattle.std.proofs.lemmas.List.Elements.{All-head, All-tail, All-get_or}
use Rattle.scaled_decimal.specs.Limits.{IsWithinLimit}
use Rattle.interval_num.specs.Alignment.{least, greatest}
use Rattle.interval_num.proofs.WholeLemmas.{fold_min_keeps, fold_max_keeps}
use Rattle.interval_num.proofs.ItemLemmas.{min_below, max_above}
use Rattle.interval_num.proofs.MachineLemmas.{held, held_is}

pub record IsHull (ns : List ℤ) (l h : ℤ) : Type 0 where
  pub lo : l ≡ least ns
  pub hi : h ≡ greatest ns
  pub low : IsWithinLimit l
  pub high : IsWithinLimit h
  pub order : l ≤ℤ h

min_same : (n : ℤ) → int_min n n ≡ n
min_same n = omega (arith, ints, clamps)

max_same : (n : ℤ) → int_max n n ≡ n
max_same n = omega (arith, ints, clamps)

is_hull : (ns : List ℤ) (first l h : ℤ) → 0 < length ns → All IsWithinLimit ns → first ≡ slice_index_or ns 0 (pos 0) → l ≡ fold int_min first ns → h ≡ fold int_max first ns → IsHull ns l h
is_hull [] first l h some all f e g = absurd (omega arith)
is_hull (n ∷ ns) first l h some all f e g =
    let lo : l ≡ fold int_min n ns = e ∙ ap (λ m. fold int_min (int_min m n) ns) f ∙ ap (λ m. fold int_min m ns) (min_same n) in
    let hi : h ≡ fold int_max n ns = g ∙ ap (λ m. fold int_max (int_max m n) ns) f ∙ ap (λ m. fold int_max m ns) (max_same n) in
    let one = All-head IsWithinLimit n ns all in
    let rest = All-tail IsWithinLimit n ns all in
    let below = min_below n ns in
    let above = max_above n ns in
    record {
      lo = lo;
      hi = hi;
      low = rw lo (fold_min_keeps IsWithinLimit n ns one rest);
      high = rw hi (fold_max_keeps IsWithinLimit n ns one rest);
      order = rw (lo, hi) (omega (arith, ints));
    }

take_whole : (ns : List ℤ) (i : ℕ) → length ns ≤ i → take i ns ≡ ns
take_whole [] zero h = refl
take_whole [] (suc i) h = refl
take_whole (n ∷ ns) zero h = absurd (omega arith)
take_whole (n ∷ ns) (suc i) h = ap (λ t. n ∷ t) (take_whole ns i (omega arith))

-- the same at the loop's end
pub found_hull : (ns : List ℤ) (l h : ℤ) (i : ℕ) → 0 < length ns → All IsWithinLimit ns → length ns ≤ i → l ≡ fold int_min (held (slice_index_or ns 0 (pos 0))) (take i ns) → h ≡ fold int_max (held (slice_index_or ns 0 (pos 0))) (take i ns) → IsHull ns l h
found_hull ns l h i some all end e f =
    let first = held_is (slice_index_or ns 0 (pos 0)) (All-get_or IsWithinLimit ns 0 (pos 0) some all) in
    let whole = take_whole ns i end in
    is_hull ns (held (slice_index_or ns 0 (pos 0))) l h some all first (e ∙ ap (fold int_min (held (slice_index_or ns 0 (pos 0)))) whole) (f ∙ ap (fold int_max (held (slice_index_or ns 0 (pos 0)))) whole)
