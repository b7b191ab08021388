-- The limits of a run.
use Rattle.std.specs.Prelude.{ℕ}

-- a chain of methods, each of which executes the next, has at most so many
abbrev pub longest_chain : ℕ
longest_chain = 64

-- a run takes at most so many steps
abbrev pub most_steps : ℕ
most_steps = 1000000000
