-- How long a range file is at most, which values a range admits, and the bound of outputs. Source: docs/PROFILE.md,
-- "Declared ranges".
use Rattle.std.specs.Prelude.{◌≡◌, ℕ, ◌^◌, ◌≤◌, IsTrue, IsFalse, unsigned_abs, List, Any, Option}
use Rattle.std.specs.List.{find}
use Rattle.std.specs.Str.{bytes_eq}
use Rattle.std.specs.Ordering.{is_gt}
use Rattle.scaled_decimal.specs.Decimals.{Decimal, numerator_at, scale_of, value_order}
use Rattle.scaled_decimal.specs.Limits.{IsWithinLimit, most_places}
use Rattle.pap_tree.specs.Scales.{is_kept_at}
use Rattle.limits_file.specs.declared.limits.InputLimit.{InputLimit}
use Rattle.limits_file.specs.declared.limits.Limits.{Limits}

-- a range file has at most so many bytes
abbrev pub longest_limits : ℕ
longest_limits = 262144

-- the value of a is at most that of b, whatever their scales
abbrev pub IsNoGreater : Decimal → Decimal → Type 0
IsNoGreater a b = IsFalse (is_gt (value_order a b))

-- the value has no more places than the limit, and lies from low to high
pub record Fits (limit : InputLimit) (value : Decimal) : Type 0 where
  pub places : scale_of value ≤ limit.places
  pub above : IsNoGreater limit.low value
  pub below : IsNoGreater value limit.high

-- the limit of a name
abbrev pub limit_named : Limits → List ℕ → Option InputLimit
limit_named limits x = find (λ l. bytes_eq l.name x) limits.inputs

-- some limit of that name admits the value
abbrev pub FitsNamed : List InputLimit → List ℕ → Decimal → Type 0
FitsNamed limits name value = Any (λ limit. (limit.name ≡ name) × Fits limit value) limits

-- the rule for bounds: at most 30 places, no bound with more places, low not above high, and at so many places each
-- bound has a numerator of at most 10^37
pub record HasSoundBounds (limit : InputLimit) : Type 0 where
  pub places : limit.places ≤ most_places
  pub low_places : scale_of limit.low ≤ limit.places
  pub high_places : scale_of limit.high ≤ limit.places
  pub ordered : IsNoGreater limit.low limit.high
  pub low_kept : IsWithinLimit (numerator_at limit.places limit.low)
  pub high_kept : IsWithinLimit (numerator_at limit.places limit.high)

-- a limit of a `double`: at most three places, and bounds that are numbers of at most three places
pub record IsFactorLimit (limit : InputLimit) : Type 0 where
  pub places : limit.places ≤ 3
  pub low : IsTrue (is_kept_at 3 limit.low)
  pub high : IsTrue (is_kept_at 3 limit.high)

-- an output has at most so many places
abbrev pub output_places : ℕ
output_places = 12

-- the numerator of an output at `output_places` is at most so great
abbrev pub output_limit : ℕ
output_limit = 10 ^ 32

-- a value within the bound of outputs
pub record IsWithinBound (d : Decimal) : Type 0 where
  pub places : scale_of d ≤ output_places
  pub small : unsigned_abs (numerator_at output_places d) ≤ output_limit
