-- The text of a range of values.
use Rattle.std.specs.Prelude.{ℕ, ◌-◌, ◌==◌, nat_le, if◌then◌else◌, List, [], ◌++◌, codes, replicate}
use Rattle.std.specs.declared.cmp.Ordering.{Ordering}
use Rattle.std.specs.declared.cmp.Ordering.TheVariants.{Less, Equal, Greater}
use Rattle.scaled_decimal.specs.Decimals.{Decimal, scale_of, value_order}
use Rattle.scaled_decimal.specs.PlainTexts.{plain_text}
use Rattle.interval_analysis.specs.declared.value_range.ValueRange.{ValueRange}

-- a point behind a number without places
abbrev pub first_point : ℕ → List ℕ
first_point scale = if scale == 0 then codes "." else []

-- what stands behind the plain text of a decimal of this scale, so that it has so many places; nothing where it has as many
abbrev pub further_places : ℕ → ℕ → List ℕ
further_places places scale = if nat_le places scale then [] else first_point scale ++ replicate (places - scale) 0x30

-- a decimal with so many places: its plain text, with zeros behind it
abbrev pub widened_text : ℕ → Decimal → List ℕ
widened_text places d = plain_text d ++ further_places places (scale_of d)

-- the greatest value behind the least, where it is another
abbrev pub behind_least : ValueRange → Ordering → List ℕ
behind_least r Less = codes " .. " ++ widened_text r.most_places r.greatest
behind_least r Equal = []
behind_least r Greater = codes " .. " ++ widened_text r.most_places r.greatest

-- LEAST .. GREATEST, each with the most places of the range; the one value alone, where the two are equal
abbrev pub ends_text : ValueRange → List ℕ
ends_text r = widened_text r.most_places r.least ++ behind_least r (value_order r.least r.greatest)
