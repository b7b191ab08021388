-- How long a line is at most.
use Rattle.std.specs.Prelude.{ℕ}

-- a line has at most so many bytes
abbrev pub most_line : ℕ
most_line = 65536
