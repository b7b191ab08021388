-- The words of a line (docs/PROFILE.md, "Scripts").
use Rattle.std.specs.Prelude.{ℕ, Bool, ◌&&◌, ◌||◌, ◌==◌, not, nat_le, List, length, filter}
use Rattle.std.specs.List.{list_all, slice_split}
use Rattle.payroll_records.specs.Tables.{Text}

-- a space or a tab
abbrev pub is_space_or_tab : ℕ → Bool
is_space_or_tab b = (b == 32) || (b == 9)

-- the words of a line: it is cut at each blank, and its words are the parts that have a byte
abbrev pub words_in_line : Text → List Text
words_in_line line = filter (λ part. not (length part == 0)) (slice_split is_space_or_tab line)

-- a byte from 0x21 to 0x7E
abbrev pub is_visible : ℕ → Bool
is_visible b = nat_le 33 b && nat_le b 126

-- a word that names a file: at most 255 of these bytes
abbrev pub is_file : Text → Bool
is_file word = nat_le (length word) 255 && list_all is_visible word
