-- The ranges of a plan's variables, at one place of its text.
use Rattle.std.specs.Prelude.{ℕ, if◌then◌else◌, List, [], ◌∷◌, map, Option, Some, None}
use Rattle.std.specs.Str.{bytes_eq}
use Rattle.scaled_decimal.specs.Decimals.{Decimal, numerator_of, scale_of}
use Rattle.interval_num.specs.Intervals.{Interval, interval}

-- a variable with its range
pub record NamedRange : Type 0 where
  pub name : List ℕ
  pub range : Interval

-- what each variable's range is
abbrev pub Ranges : Type 0
Ranges = List NamedRange

-- the names of the variables, in their order
abbrev pub names_in : Ranges → List (List ℕ)
names_in rs = map (λ v. v.name) rs

-- the range that has one decimal alone
abbrev pub single : Decimal → Interval
single d = interval (numerator_of d) (numerator_of d) (scale_of d) (scale_of d)

-- the range of the first variable of a name
abbrev pub range_named : Ranges → List ℕ → Option Interval
range_named [] x = None
range_named (v ∷ vs) x = if bytes_eq v.name x then Some v.range else range_named vs x

-- the range of a name replaced
abbrev pub put_range : Ranges → List ℕ → Interval → Ranges
put_range [] x a = []
put_range (v ∷ vs) x a =
    if bytes_eq v.name x then record v { range = a } ∷ vs else v ∷ put_range vs x a
