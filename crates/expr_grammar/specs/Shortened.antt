-- What `valueOf` makes of a literal with a point: the decimal without the zeros that end it, down to one place.
use Rattle.std.specs.Prelude.{nat_lt, if◌then◌else◌, Option, Some, None}
use Rattle.scaled_decimal.specs.Decimals.{Decimal, scale_of}
use Rattle.scaled_decimal.specs.ShortenedDecimals as decimals

-- none where the decimal has no places
abbrev pub shortened_places : Decimal → Option Decimal
shortened_places d = if nat_lt (scale_of d) 1 then None else Some (decimals.shortened 1 d)
