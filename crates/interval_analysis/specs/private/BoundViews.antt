-- What private contracts say of the bound on a run's cost. Sums stop at the greatest number of 64 bits.
use Rattle.std.specs.Prelude.{◌≡◌, ℕ, List, length, min, Contains, Some, slice_index}
use Rattle.std.specs.Option.{option_map_or}
use Rattle.pap_tree.specs.Flowchart.{Body, Flowchart}
use Rattle.pap_types.specs.Scopes.{number_of}
use Rattle.pap_types.specs.Routines.{method_names}
use Rattle.pap_types.specs.Bounds.{body_bound, method_bound}
use Rattle.pap_types.specs.Limits.{longest_chain}

abbrev pub last_sum : ℕ
last_sum = 18446744073709551615

-- the bound of a method by its number
abbrev pub bound_at : Flowchart → List ℕ → List ℕ → ℕ
bound_at f bounds x = option_map_or (slice_index bounds) (number_of (method_names f.methods) x) 0

-- that of a list of statements, given those of the methods
abbrev pub stopped_bound : Flowchart → List ℕ → Body → ℕ
stopped_bound f bounds b = min (body_bound (bound_at f bounds) b) last_sum

-- the bounds of methods are known whose numbers are among these
pub record AreBounds (f : Flowchart) (numbers : List ℕ) (bounds : List ℕ) : Type 0 where
  pub all : length bounds ≡ length f.methods
  pub each : (x : List ℕ) (i : ℕ) → number_of (method_names f.methods) x ≡ Some i → Contains numbers i
      → slice_index bounds i ≡ min (method_bound f.methods longest_chain x) last_sum
