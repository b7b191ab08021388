-- Texts in a page. Source: HTML, its marks and their names.
use Rattle.std.specs.Prelude.{ℕ, Bool, List, ◌==◌, ◌||◌, not, if◌then◌else◌, codes, ◌∷◌, []}
use Rattle.std.specs.List.{flat_map}

-- what a page has for a byte of a text: the marks of HTML as their names
abbrev pub escaped_byte : ℕ → List ℕ
escaped_byte byte =
    if byte == 0x3C then codes "&lt;" else
    (if byte == 0x3E then codes "&gt;" else
    (if byte == 0x26 then codes "&amp;" else
    (if byte == 0x22 then codes "&quot;" else
    (if byte == 0x27 then codes "&#39;" else byte ∷ []))))

-- what a page has for a text
abbrev pub escaped : List ℕ → List ℕ
escaped text = flat_map escaped_byte text

-- a byte that neither begins nor ends a tag or an attribute's value
abbrev pub is_inert : ℕ → Bool
is_inert byte = not (byte == 0x3C || (byte == 0x3E || (byte == 0x22 || byte == 0x27)))
