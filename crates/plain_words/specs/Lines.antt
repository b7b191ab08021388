-- Texts that stand in one line.
use Rattle.std.specs.Prelude.{◌≡◌, ℕ, ◌+◌, ◌-◌, Bool, List, [], ◌++◌, codes, drop, length, nat_le, min, not, take, ◌||◌, ◌==◌, if◌then◌else◌, map, encode_utf8_all}
use Rattle.std.specs.Int.{is_in_range}
use Rattle.std.specs.Str.{NoCharPasses, chars}
use Rattle.std.specs.Str.Lossy.{utf8_lossy}

-- a character that is shown as it is: printable ASCII, or a sign or letter of Latin script (U+00A1 to U+024F)
abbrev pub is_shown : ℕ → Bool
is_shown c = is_in_range 0x20 0x7E c || is_in_range 0xA1 0x24F c

-- what is shown of a character: a space for a tab or a line end, and a question mark for others that aren't shown
abbrev pub shown_char : ℕ → ℕ
shown_char c = if is_shown c then c else (if c == 9 || (c == 10 || c == 13) then 0x20 else 0x3F)

-- the text as it is shown
abbrev pub shown_text : List ℕ → List ℕ
shown_text text = encode_utf8_all (map shown_char (chars text))

-- the words start with a text
abbrev pub StartsWith : List ℕ → List ℕ → Type 0
StartsWith text words = (rest : List ℕ) × (words ≡ text ++ rest)

-- the words end with a text
abbrev pub EndsWith : List ℕ → List ℕ → Type 0
EndsWith text words = (front : List ℕ) × (words ≡ front ++ text)

-- every character of the text is shown as it is: it has no control characters, and stands in one line
abbrev pub IsOneLine : List ℕ → Type 0
IsOneLine text = NoCharPasses (λ c. not (is_shown c)) text

-- ---- parts of a text that are quoted

-- where the part begins that is quoted for a byte: at the beginning of a text of at most 160 bytes, and else 80 bytes before that byte, so
-- that 160 bytes follow
abbrev pub quote_start : List ℕ → ℕ → ℕ
quote_start text at = if nat_le (length text) 160 then 0 else min (at - 80) (length text - 160)

-- where it ends
abbrev pub quote_end : List ℕ → ℕ → ℕ
quote_end text at = min (quote_start text at + 160) (length text)

-- two points in place of what is left out
abbrev pub left_out : Bool → List ℕ
left_out whole = if whole then [] else codes ".."

-- the part of a text that is quoted for a byte, in backquotes
abbrev pub quoted_text : List ℕ → ℕ → List ℕ
quoted_text text at =
    codes "`" ++ (left_out (quote_start text at == 0)
    ++ (utf8_lossy (take (quote_end text at - quote_start text at) (drop (quote_start text at) text))
    ++ (left_out (quote_end text at == length text) ++ codes "`")))

-- the words are what is shown of a quoted word, and of something behind it
pub record BeginsQuoted (word words : List ℕ) : Type 0 where
  pub rest : List ℕ
  pub is : words ≡ shown_text (quoted_text word 0 ++ rest)
