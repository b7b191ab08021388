-- What an edit of a list with rising keys leaves at each key.
use Rattle.std.specs.Prelude.{List, Some, None, if◌then◌else◌, ◌≡◌}
use Rattle.std.specs.declared.cmp.Ordering.{Ordering}
use Rattle.std.specs.Ordering.{is_eq}
use Rattle.rising_lists.specs.Keyed.{at_key, put, without, IsRising}

-- after a put the element stands at its key, and every other key has what it had
pub record PutsOne {K X : Type 0} (cmp : K → K → Ordering) (key : X → K) : Type 0 where
  pub rises : (y : X) (xs : List X) → IsRising cmp key xs → IsRising cmp key (put cmp key y xs)
  pub at : (y : X) (xs : List X) (k : K) →
      at_key cmp key (put cmp key y xs) k ≡ (if is_eq (cmp (key y) k) then Some y else at_key cmp key xs k)

-- without a key nothing stands there, and every other key has what it had
pub record TakesOne {K X : Type 0} (cmp : K → K → Ordering) (key : X → K) : Type 0 where
  pub rises : (k : K) (xs : List X) → IsRising cmp key xs → IsRising cmp key (without cmp key k xs)
  pub at : (xs : List X) (m k : K) → IsRising cmp key xs →
      at_key cmp key (without cmp key m xs) k ≡ (if is_eq (cmp m k) then None else at_key cmp key xs k)
