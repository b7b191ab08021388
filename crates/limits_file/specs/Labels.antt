-- How a fault shows a key.
use Rattle.std.specs.Prelude.{ℕ, ◌||◌, ◌==◌, List, take, map, if◌then◌else◌, Bool}
use Rattle.pap_tree.specs.Names.{is_word}

-- a letter, a digit, `_`, `-` or `.`
abbrev pub is_label_byte : ℕ → Bool
is_label_byte b = is_word b || (b == 45) || (b == 46)

-- any other byte is label_byte as `?`
abbrev pub label_byte : ℕ → ℕ
label_byte b = if is_label_byte b then b else 63

-- the first 32 bytes of a key
abbrev pub label_of : List ℕ → List ℕ
label_of key = map label_byte (take 32 key)
