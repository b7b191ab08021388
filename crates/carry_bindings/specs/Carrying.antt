-- What an input carries over from the employee's earlier runs of the calendar year (docs/PROFILE.md, "Carried values").
use Rattle.std.specs.Prelude.{ℕ, List, Option, length, option_map, option_and_then, fold, pos}
use Rattle.std.specs.List.{find, filter_map}
use Rattle.std.specs.Str.{bytes_eq}
use Rattle.scaled_decimal.specs.Decimals.{Decimal, decimal, sum}
use Rattle.limits_file.specs.declared.limits.Carry.{Carry}
use Rattle.limits_file.specs.declared.limits.Carry.TheVariants.{Sum, Last, Count}
use Rattle.payroll_records.specs.declared.values.NamedValue.{NamedValue}
use Rattle.carry_bindings.specs.declared.carried.Earlier.{Earlier}

-- the output of a name among a run's outputs
abbrev pub named : List ℕ → List NamedValue → Option Decimal
named name outputs = option_map (λ v. v.value) (find (λ v. bytes_eq v.name name) outputs)

-- the output of a name of an earlier run, where the run is ok and has it
abbrev pub amount_of : List ℕ → Earlier → Option Decimal
amount_of name e = option_and_then (named name) e.outputs

-- the amounts of that name, in order of day
abbrev pub amounts : List ℕ → List Earlier → List Decimal
amounts name earlier = filter_map (amount_of name) earlier

-- 0 of scale 0
abbrev pub zero_amount : Decimal
zero_amount = decimal (pos 0) 0

-- all amounts added up by `add`, whose sum has the greater of both scales: so the sum has the greatest of their scales
abbrev pub total : List Decimal → Decimal
total ds = fold sum zero_amount ds

-- the last amount
abbrev pub latest : List Decimal → Decimal
latest ds = fold (λ earlier d. d) zero_amount ds

-- the carried value
abbrev pub carried : Carry → List Earlier → Decimal
carried (Sum name) earlier = total (amounts name earlier)
carried (Last name) earlier = latest (amounts name earlier)
carried Count earlier = decimal (pos (length earlier)) 0
