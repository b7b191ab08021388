-- A text in one line.
use Rattle.std.specs.Prelude.{ℕ, Bool, true, false, ◌||◌, ◌==◌, nat_le, List, [], ◌∷◌, filter, encode_utf8_all}
use Rattle.std.specs.Int.{is_in_range}
use Rattle.std.specs.List.{slice_split, join_with_byte}
use Rattle.std.specs.Str.{chars}
use Rattle.std.specs.Str.Lossy.{utf8_lossy}

-- a character that is shown as a space: a space, a control character, or the end of a line (U+2028) or of a paragraph (U+2029)
abbrev pub is_blank : ℕ → Bool
is_blank c = nat_le c 0x20 || is_in_range 0x7F 0xA0 c || c == 0x2028 || c == 0x2029

-- the text isn't empty
abbrev pub is_some_text : List ℕ → Bool
is_some_text [] = false
is_some_text (c ∷ cs) = true

-- the words of characters, with a space between two of them
abbrev pub spaced_words : List ℕ → List ℕ
spaced_words cs = join_with_byte 0x20 (filter is_some_text (slice_split is_blank cs))

-- bytes in one line: their words with a space between two of them, and U+FFFD for bytes that aren't UTF-8
abbrev pub line_text : List ℕ → List ℕ
line_text bytes = encode_utf8_all (spaced_words (chars (utf8_lossy bytes)))
