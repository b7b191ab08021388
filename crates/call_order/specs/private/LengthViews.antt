-- Expanded statements by number, as the private functions count them.
use Rattle.std.specs.Prelude.{◌≡◌, ℕ, zero, suc, ◌+◌, min, List, length, sum_by, Contains, slice_index}
use Rattle.call_order.specs.Graphs.{Content, Graph}
use Rattle.call_order.specs.Chains.{content_at, BeginsMore}
use Rattle.call_order.specs.Faults.{last_count}

-- the expanded statements of a list, given those of each method
abbrev pub length_with : Content → (ℕ → ℕ) → ℕ
length_with c lengths = c.statements + sum_by lengths c.methods

-- those of a method's body, where a chain of methods has at most so many
unfoldable pub length_of : Graph → ℕ → ℕ → ℕ
length_of g zero i = 0
length_of g (suc n) i = length_with (content_at g i) (length_of g n)

-- the counts of the methods in a list: for any n, where no chain from a method has more than n methods
pub record AreLengths (g : Graph) (methods : List ℕ) (counts : List ℕ) : Type 0 where
  pub all : length counts ≡ length g
  pub each : (i : ℕ) → Contains methods i → (n : ℕ) → ¬ (BeginsMore g n i)
      → slice_index counts i ≡ min (length_of g n i) last_count
