-- Texts as strings of JSON. Source: RFC 8259, section 7.
use Rattle.std.specs.Prelude.{ℕ, List, ◌==◌, ◌+◌, ◌/◌, ◌%◌, nat_lt, if◌then◌else◌, ◌∷◌, ◌++◌, []}
use Rattle.std.specs.List.{flat_map}

-- the hexadecimal digit of a number below 16
abbrev pub hex_digit : ℕ → ℕ
hex_digit number = if nat_lt number 10 then number + 0x30 else number + 0x57

-- what a string has for a byte of a text: a quotation mark and a backslash behind a backslash, a control character as \u00 and its
-- two hexadecimal digits, and others as they are
abbrev pub string_byte : ℕ → List ℕ
string_byte byte =
    if byte == 0x22 then 0x5C ∷ 0x22 ∷ [] else
    (if byte == 0x5C then 0x5C ∷ 0x5C ∷ [] else
    (if nat_lt byte 0x20 then 0x5C ∷ 0x75 ∷ 0x30 ∷ 0x30 ∷ hex_digit (byte / 16) ∷ hex_digit (byte % 16) ∷ []
    else byte ∷ []))

-- the string of a text
abbrev pub json_string : List ℕ → List ℕ
json_string text = 0x22 ∷ (flat_map string_byte text ++ 0x22 ∷ [])
