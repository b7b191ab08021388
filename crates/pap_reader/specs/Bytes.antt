-- Kinds of bytes, and what stands behind the longest run of one kind.
use Rattle.std.specs.Prelude.{ℕ, Bool, false, ◌||◌, ◌==◌, List, [], ◌∷◌, drop}
use Rattle.std.specs.Char.{is_ascii_alphabetic, is_ascii_digit}
use Rattle.std.specs.List.{prefix_len}

-- what an attribute's name begins with: a letter or `_`
abbrev pub is_first : ℕ → Bool
is_first b = is_ascii_alphabetic b || b == 95

-- what may stand in an attribute's name: letters, digits, `_`, `-`, `.` and `:`
abbrev pub is_inner : ℕ → Bool
is_inner b = is_first b || is_ascii_digit b || b == 45 || b == 46 || b == 58

-- the first byte is of the kind
abbrev pub begins_with : (ℕ → Bool) → List ℕ → Bool
begins_with p [] = false
begins_with p (b ∷ bs) = p b

-- the bytes from the first on that isn't of the kind
abbrev pub drop_while : (ℕ → Bool) → List ℕ → List ℕ
drop_while p bs = drop (prefix_len p bs) bs
