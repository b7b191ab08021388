-- A short text: what names of every kind are.
use Rattle.std.specs.Prelude.{ℕ, ◌≤◌, List, length, IsAscii}

-- the greatest number of bytes of a short text
abbrev pub longest_text : ℕ
longest_text = 32

-- at most 32 bytes, all of them ASCII
pub record IsShortText (text : List ℕ) : Type 0 where
  pub short : length text ≤ longest_text
  pub ascii : IsAscii text
