-- The bound of a search.
use Rattle.std.specs.Prelude.{ℕ}

-- a search takes at most so many walks
abbrev pub most_walks : ℕ
most_walks = 2000
