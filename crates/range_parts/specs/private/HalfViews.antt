-- What private contracts say of a range that is split in two.
use Rattle.std.specs.Prelude.{◌≡◌, ◌⊎◌, cond, List, map}
use Rattle.std.specs.Str.{bytes_eq}
use Rattle.scaled_decimal.specs.Decimals.{Decimal}
use Rattle.limits_file.specs.declared.limits.InputLimit.{InputLimit}
use Rattle.limits_file.specs.Limits.{Fits, HasSoundBounds}
use Rattle.range_parts.specs.declared.parts.Halves.{Halves}

-- the range of an input, or another one of its name
abbrev pub replaced : InputLimit → InputLimit → InputLimit
replaced x l = cond (bytes_eq l.name x.name) x l

-- ranges, with another one of an input
abbrev pub replaced_in : InputLimit → List InputLimit → List InputLimit
replaced_in x ls = map (replaced x) ls

-- half of a range: it has sound bounds, its name, and values of the range alone
pub record IsHalf (l x : InputLimit) : Type 0 where
  pub name : x.name ≡ l.name
  pub sound : HasSoundBounds x
  pub within : (v : Decimal) → Fits x v → Fits l v

-- two halves of a range, which hold all its values
pub record AreHalves (l : InputLimit) (h : Halves) : Type 0 where
  pub first : IsHalf l h.first
  pub second : IsHalf l h.second
  pub cover : (v : Decimal) → Fits l v → Fits h.first v ⊎ Fits h.second v
