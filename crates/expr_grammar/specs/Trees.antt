-- What a line stands for, as far as its size, the places of its literals and its scales go.
use Rattle.std.specs.Prelude.{ℕ, ◌≤◌, ⊤, List, [], ◌∷◌}
use Rattle.scaled_decimal.specs.Decimals.{scale_of}
use Rattle.pap_tree.specs.Declarations.{number}
use Rattle.pap_tree.specs.Numbering.{nodes}
use Rattle.pap_tree.specs.Scales.{HasPlaces, KeepsScales}
use Rattle.pap_tree.specs.Tokens as tokens
use Rattle.pap_tree.specs.Tokens.{Token, Literal}
use Rattle.pap_tree.specs.Grammar.{LineMeaning, tree, literal, assignment, declared}

-- the nodes of the tree that is meant
abbrev pub size : LineMeaning → ℕ
size (tree x) = nodes x
size (literal l) = 1
size (assignment x e) = nodes e
size _ = 0

-- the literals of what a line stands for have places, and its scales are at most 30
abbrev pub IsKeeping : LineMeaning → Type 0
IsKeeping (tree x) = KeepsScales x
IsKeeping (literal l) = HasPlaces l
IsKeeping (assignment x e) = KeepsScales e
IsKeeping (declared (number l)) = HasPlaces l
IsKeeping _ = ⊤

-- the literals with a point among the tokens have a place at least
abbrev pub ArePlaced : List Token → Type 0
ArePlaced [] = ⊤
ArePlaced (Literal (tokens.point d) ∷ ts) = (1 ≤ scale_of d) × ArePlaced ts
ArePlaced (t ∷ ts) = ArePlaced ts
