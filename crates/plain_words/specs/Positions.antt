-- Places in a text as an editor counts them: lines and columns, each from 1. Source: columns count characters
-- of UTF-8 (RFC 3629).
use Rattle.std.specs.Prelude.{ℕ, Bool, List, ◌+◌, ◌++◌, not, ◌==◌, codes, take}
use Rattle.std.specs.Int.{is_in_range}
use Rattle.std.specs.List.{count_by, after_last}
use Rattle.std.specs.Fmt.{decimal}

-- the byte ends a line
abbrev pub is_line_feed : ℕ → Bool
is_line_feed byte = byte == 10

-- the byte begins a character: it is none of those that go on with one
abbrev pub begins_character : ℕ → Bool
begins_character byte = not (is_in_range 0x80 0xBF byte)

-- the line behind some bytes: one more than their line feeds
abbrev pub line_number : List ℕ → ℕ
line_number before = count_by is_line_feed before + 1

-- the column behind some bytes: one more than the characters since the last line feed
abbrev pub column_number : List ℕ → ℕ
column_number before = count_by begins_character (after_last is_line_feed before) + 1

-- the line of the byte of a number, counted from 0; beyond the end it is the end's
abbrev pub line_of : List ℕ → ℕ → ℕ
line_of text at = line_number (take at text)

-- the column of a byte in its line, from 1: columns count characters of UTF-8
abbrev pub column_of : List ℕ → ℕ → ℕ
column_of text at = column_number (take at text)

-- LINE:COLUMN
abbrev pub position_text : ℕ → ℕ → List ℕ
position_text line column = decimal line ++ (codes ":" ++ decimal column)
