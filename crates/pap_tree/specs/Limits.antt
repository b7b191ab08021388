-- How much there may be in a flowchart (docs/PROFILE.md, "Limits").
use Rattle.std.specs.Prelude.{ℕ}

-- a flowchart declares at most so many inputs
abbrev pub most_inputs : ℕ
most_inputs = 256

-- a flowchart declares at most so many outputs
abbrev pub most_outputs : ℕ
most_outputs = 256

-- a flowchart declares at most so many internals
abbrev pub most_internals : ℕ
most_internals = 1024

-- a flowchart declares at most so many constants
abbrev pub most_constants : ℕ
most_constants = 512

-- a flowchart has at most so many methods besides MAIN
abbrev pub most_methods : ℕ
most_methods = 256

-- a flowchart has at most so many statements, as they are written
abbrev pub most_statements : ℕ
most_statements = 20000

-- at most so many IFs stand in one another
abbrev pub most_nesting : ℕ
most_nesting = 32

-- an expression has at most so many tokens
abbrev pub most_tokens : ℕ
most_tokens = 1000

-- at most so many levels are open in an expression
abbrev pub most_levels : ℕ
most_levels = 64
