-- How a quotient that was cut towards zero becomes the rounded one.
use Rattle.std.specs.Prelude.{ℕ, Bool, true, false, nat_lt, nat_le, ◌==◌, ◌||◌, ◌&&◌, not}
use Rattle.scaled_decimal.specs.declared.rounding.Mode.{Mode}
use Rattle.scaled_decimal.specs.declared.rounding.Mode.TheVariants.{Down, Up, Floor, Ceiling, HalfUp, HalfDown, HalfEven}

-- whether it moves one away from zero, where something is left: twice what is left, and the divisor
abbrev pub moves_away : Mode → (negative odd : Bool) → (twice whole : ℕ) → Bool
moves_away Down negative odd twice whole = false
moves_away Up negative odd twice whole = true
moves_away Floor negative odd twice whole = negative
moves_away Ceiling negative odd twice whole = not negative
moves_away HalfUp negative odd twice whole = nat_le whole twice
moves_away HalfDown negative odd twice whole = nat_lt whole twice
moves_away HalfEven negative odd twice whole = nat_lt whole twice || ((twice == whole) && odd)
