-- What is kept of the line that is being read, and what is answered of it.
use Rattle.std.specs.Prelude.{◌≡◌, ◌≢◌, ◌⊎◌, ℕ, ◌+◌, ◌<◌, nat_lt, List, [], length, take, None}
use Rattle.memchr.specs.Find.{IsFirstByte, is_byte}
use Rattle.script_run.specs.Limits.{most_line}
use Rattle.script_run.specs.declared.open_line.OpenLine.{OpenLine}

-- no LF is among these bytes
abbrev pub HasNoLf : List ℕ → Type 0
HasNoLf bytes = IsFirstByte (is_byte 10) bytes None

-- the line that is being read has these bytes so far: its front is kept, and whether there are more
pub record Holds (kept : OpenLine) (line : List ℕ) : Type 0 where
  pub front : kept.bytes.items ≡ take (most_line + 1) line
  pub long : kept.long ≡ nat_lt (most_line + 1) (length line)

-- the line ends with these bytes: they are kept too, or nothing else is there of it
pub record HoldsEnd (kept : OpenLine) (last line : List ℕ) : Type 0 where
  pub whole : kept.bytes.items ≡ [] → last ≡ line
  pub begun : kept.bytes.items ≢ [] → Holds kept line

-- the same line, or both too long
pub record AreBothLong (said line : List ℕ) : Type 0 where
  pub said_long : most_line < length said
  pub line_long : most_line < length line

abbrev pub SaysSame : List ℕ → List ℕ → Type 0
SaysSame said line = (said ≡ line) ⊎ AreBothLong said line
