-- The name of the tag with which a text begins.
use Rattle.std.specs.Prelude.{ℕ, ◌==◌, if◌then◌else◌, List, [], ◌∷◌}
use Rattle.std.specs.Char.{is_ascii_alphabetic}
use Rattle.std.specs.List.{take_while}

-- what stands behind this byte, if it comes first
abbrev pub behind_byte : ℕ → List ℕ → List ℕ
behind_byte b [] = []
behind_byte b (c ∷ cs) = if c == b then cs else c ∷ cs

-- the letters behind `<` or `</`; none where no `<` comes first
abbrev pub tag_name_at : List ℕ → List ℕ
tag_name_at [] = []
tag_name_at (c ∷ cs) = if c == 60 then take_while is_ascii_alphabetic (behind_byte 47 cs) else []
