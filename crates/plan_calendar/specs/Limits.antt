-- How many plans a calendar has at most.
use Rattle.std.specs.Prelude.{ℕ}

-- a calendar has at most so many plans
abbrev pub most_plans : ℕ
most_plans = 64
