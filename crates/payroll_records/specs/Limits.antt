-- How many pay runs a book has at most, how many values a pay run, and how long a table is.
use Rattle.std.specs.Prelude.{ℕ}

-- a book has at most so many pay runs
abbrev pub most_records : ℕ
most_records = 50000

-- a pay run has at most so many values
abbrev pub most_values : ℕ
most_values = 256

-- a table has at most so many bytes
abbrev pub longest_table : ℕ
longest_table = 33554432
