-- How many runs an employee's calendar year has at most: one a day.
use Rattle.std.specs.Prelude.{ℕ}

-- an employee's calendar year has at most so many runs
abbrev pub most_runs : ℕ
most_runs = 366
