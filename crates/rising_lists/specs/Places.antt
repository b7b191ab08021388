-- Where a key stands in a list with rising keys, or where it would go: what a binary search finds.
use Rattle.std.specs.Prelude.{ℕ, ◌<◌, ◌≤◌, ◌≡◌, List, length, slice_index_or, slice_set, Some, None}
use Rattle.std.specs.List.{insert, remove}
use Rattle.std.specs.declared.cmp.Ordering.{Ordering}
use Rattle.std.specs.declared.cmp.Ordering.TheVariants.{Less, Equal, Greater}
use Rattle.rising_lists.specs.Keyed.{at_key, put, without}

-- the key k stands at place i
pub record IsAt {K X : Type 0} (cmp : K → K → Ordering) (key : X → K) (xs : List X) (k : K) (i : ℕ) : Type 0 where
  pub within : i < length xs
  pub before : (j : ℕ) (d : X) → j < i → cmp (key (slice_index_or xs j d)) k ≡ Less
  pub here : (d : X) → cmp (key (slice_index_or xs i d)) k ≡ Equal

-- no element has the key k, and one would go at place i
pub record IsGap {K X : Type 0} (cmp : K → K → Ordering) (key : X → K) (xs : List X) (k : K) (i : ℕ) : Type 0 where
  pub within : i ≤ length xs
  pub before : (j : ℕ) (d : X) → j < i → cmp (key (slice_index_or xs j d)) k ≡ Less
  pub after : (j : ℕ) (d : X) → i ≤ j → j < length xs → cmp (key (slice_index_or xs j d)) k ≡ Greater

-- the element at place i is the one with the key k: what a look, a write and a removal there do
pub record Finds {K X : Type 0} (cmp : K → K → Ordering) (key : X → K) (xs : List X) (k : K) (i : ℕ) : Type 0 where
  pub within : i < length xs
  pub at : (d : X) → at_key cmp key xs k ≡ Some (slice_index_or xs i d)
  pub put : (y : X) → cmp (key y) k ≡ Equal → put cmp key y xs ≡ slice_set xs i y
  pub without : without cmp key k xs ≡ remove xs i

-- no element has the key k: what an insertion at place i does
pub record Misses {K X : Type 0} (cmp : K → K → Ordering) (key : X → K) (xs : List X) (k : K) (i : ℕ) : Type 0 where
  pub within : i ≤ length xs
  pub at : at_key cmp key xs k ≡ None
  pub put : (y : X) → cmp (key y) k ≡ Equal → put cmp key y xs ≡ insert xs i y
  pub without : without cmp key k xs ≡ xs
