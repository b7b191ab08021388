-- What stands in a line before a character of a word.
use Rattle.std.specs.Prelude.{ℕ, Bool, List, [], ◌∷◌, if◌then◌else◌}

-- a space, where there is a gap
abbrev pub gap_text : Bool → List ℕ
gap_text is_gap = if is_gap then 0x20 ∷ [] else []
