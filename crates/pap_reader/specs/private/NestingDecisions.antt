-- The stack of open elements. It decides which shapes are nested as the table of elements says.
use Rattle.std.specs.Prelude.{Bool, false, ◌&&◌, Option, Some, None, option_and_then, List, [], ◌∷◌, ◌++◌, if◌then◌else◌}
use Rattle.std.specs.List.{list_any}
use Rattle.pap_reader.specs.declared.element.Element.{Element}
use Rattle.pap_reader.specs.Table.{same, may_stand, is_complete}
use Rattle.pap_reader.specs.Structure.{Shape, opens, closes, foreign, opens_internals}

-- an open element, or the whole text, and the children that it has so far
pub record Open : Type 0 where
  pub inside : Option Element
  pub children : List Element

abbrev pub fresh : Option Element → Open
fresh e = record { inside = e; children = [] }

-- the same with one child more
abbrev pub with_child : Open → Element → Open
with_child o e = record { inside = o.inside; children = o.children ++ (e ∷ []) }

abbrev pub is_inside : Option Element → Element → Bool
is_inside None e = false
is_inside (Some f) e = same f e

-- The open elements after one shape more, the inmost first. None where it may not stand here.
abbrev pub enter : List Open → Shape → Option (List Open)
enter [] s = None
enter (o ∷ os) (opens e) = if may_stand o.inside o.children e then Some (fresh (Some e) ∷ with_child o e ∷ os) else None
enter (o ∷ []) (closes e) = None
enter (o ∷ u ∷ os) (closes e) = if is_inside o.inside e && is_complete o.inside o.children then Some (u ∷ os) else None
enter (o ∷ os) foreign = None

-- the open elements after all of the shapes
abbrev pub enters : List Open → List Shape → Option (List Open)
enters os [] = Some os
enters os (s ∷ ss) = option_and_then (λ o. enters o ss) (enter os s)

-- a second INTERNALS
abbrev pub is_second : List Shape → Shape → Bool
is_second before s = opens_internals s && list_any opens_internals before

-- The same with the one INTERNALS of a text.
abbrev pub step : List Shape → List Open → Shape → Option (List Open)
step before os s = if is_second before s then None else enter os s

abbrev pub steps : List Shape → List Open → List Shape → Option (List Open)
steps before os [] = Some os
steps before os (s ∷ ss) = option_and_then (λ o. steps (before ++ (s ∷ [])) o ss) (step before os s)

abbrev pub start : List Open
start = fresh None ∷ []

-- whether the text may end here
abbrev pub is_ended : List Open → Bool
is_ended (o ∷ []) = is_complete o.inside o.children
is_ended _ = false
