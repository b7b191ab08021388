-- What private contracts cite of templates.
use Rattle.std.specs.Prelude.{ℕ, ◌+◌, ◌==◌, if◌then◌else◌, List, [], ◌∷◌}

-- how many percent signs a template has
abbrev pub holes : List ℕ → ℕ
holes [] = 0
holes (byte ∷ template) = (if byte == 0x25 then 1 else 0) + holes template
