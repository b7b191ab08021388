-- How much of a script, of a turn and of a line a run takes.
use Rattle.std.specs.Prelude.{ℕ}
-- of a line with more bytes than a line may have, one byte more than these is kept
pub use Rattle.script_lang.specs.Limits.{most_line}

-- a script has at most so many bytes
abbrev pub most_script : ℕ
most_script = 67108864

-- one turn takes at most so many bytes
abbrev pub most_turn : ℕ
most_turn = 65536

-- a sample has at most so many employees
abbrev pub most_employees : ℕ
most_employees = 200
