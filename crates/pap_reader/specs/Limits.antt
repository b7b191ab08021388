-- How much there may be of what (docs/PROFILE.md, "Limits").
use Rattle.std.specs.Prelude.{◌≡◌, ◌≤◌, ◌<◌, ◌⊎◌, ℕ, ◌-◌, Bool, true, false, List, [], ◌∷◌, ◌++◌, count_by}
use Rattle.pap_tree.specs.Limits.{most_inputs, most_outputs, most_internals, most_constants, most_methods, most_statements, most_nesting}
use Rattle.pap_reader.specs.declared.element.Element.{Element}
use Rattle.pap_reader.specs.declared.element.Element.TheVariants.{Input, Output, Internal, Constant, Method, Eval, Execute, If}
use Rattle.pap_reader.specs.declared.fault.Which.{Which}
use Rattle.pap_reader.specs.declared.fault.Which.TheVariants as which
use Rattle.pap_reader.specs.Structure.{Shape, opens, closes}
use Rattle.pap_reader.specs.Tokens.{PlacedTag}
use Rattle.pap_reader.specs.Marks.{shapes}

-- how much there may be of it
abbrev pub most : Which → ℕ
most which.Bytes = 1048576
most which.Inputs = most_inputs
most which.Outputs = most_outputs
most which.Internals = most_internals
most which.Constants = most_constants
most which.Methods = most_methods
most which.Statements = most_statements
most which.Depth = most_nesting

-- whether the element counts
abbrev pub is_counted : Which → Element → Bool
is_counted which.Inputs Input = true
is_counted which.Outputs Output = true
is_counted which.Internals Internal = true
is_counted which.Constants Constant = true
is_counted which.Methods Method = true
is_counted which.Statements Eval = true
is_counted which.Statements Execute = true
is_counted which.Statements If = true
is_counted _ _ = false

-- whether the shape begins an element that counts
abbrev pub counts : Which → Shape → Bool
counts w (opens e) = is_counted w e
counts w _ = false

-- the tag begins an IF
abbrev pub begins_if : Shape → Bool
begins_if (opens If) = true
begins_if _ = false

-- the tag ends an IF
abbrev pub ends_if : Shape → Bool
ends_if (closes If) = true
ends_if _ = false

-- how much there is of it after these shapes: the elements that count, and the IFs that began less those that ended
abbrev pub amount : Which → List Shape → ℕ
amount which.Bytes ss = 0
amount which.Depth ss = count_by begins_if ss - count_by ends_if ss
amount w ss = count_by (counts w) ss

-- Each amount is within its limit, after each of the tags.
abbrev pub IsWithin : List PlacedTag → Type 0
IsWithin ts = (a b : List PlacedTag) (w : Which) → ts ≡ a ++ b → amount w (shapes a) ≤ most w

-- ---- the first that is too much

-- the kinds of amounts, in the order in which they are tested
abbrev pub tested : List Which
tested =
    which.Inputs ∷ which.Outputs ∷ which.Internals ∷ which.Constants ∷ which.Methods
    ∷ which.Statements ∷ which.Depth ∷ []

-- With the tag there is too much of it.
abbrev pub Exceeds : List PlacedTag → PlacedTag → Which → Type 0
Exceeds before t w = most w < amount w (shapes (before ++ (t ∷ [])))

-- the first of these of which there is too much
abbrev pub IsFirstOver : List PlacedTag → PlacedTag → List Which → Which → Type 0
IsFirstOver before t [] w = ⊥
IsFirstOver before t (v ∷ vs) w =
    ((v ≡ w) × Exceeds before t v) ⊎ ((Exceeds before t v → ⊥) × IsFirstOver before t vs w)
