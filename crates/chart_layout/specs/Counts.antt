-- How many statements a method has.
use Rattle.std.specs.Prelude.{ℕ, ◌-◌, ◌^◌, min, List, length}
use Rattle.chart_layout.specs.Statements.{FileStatement}

-- how many statements a method has, as 32 bits count them
abbrev pub count_of : List FileStatement → ℕ
count_of ss = min (length ss) (2 ^ 32 - 1)
