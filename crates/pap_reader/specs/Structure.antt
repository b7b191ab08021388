-- Which elements are nested as the table of elements says, their attributes aside.
use Rattle.std.specs.Prelude.{◌≡◌, ◌≤◌, Bool, true, false, Some, None, List, [], ◌∷◌, ◌++◌, count_by}
use Rattle.pap_reader.specs.declared.element.Element.{Element}
use Rattle.pap_reader.specs.declared.element.Element.TheVariants.{Internals}
use Rattle.pap_reader.specs.Table.{are_contents, same}

-- where an element begins or ends, without its attributes
pub data Shape : Type 0 where
  opens : Element → Shape
  closes : Element → Shape
  -- a tag of no element
  foreign : Shape

-- The shapes are elements, one after the other, each with children that it may contain; the list says which elements.
pub data Nodes : List Shape → List Element → Type 0 where
  none : Nodes [] []
  node : {inside rest : List Shape} {children kinds : List Element} (e : Element)
      → Nodes inside children → are_contents (Some e) children ≡ true → Nodes rest kinds
      → Nodes (opens e ∷ (inside ++ (closes e ∷ rest))) (e ∷ kinds)

-- the shape begins an INTERNALS
abbrev pub opens_internals : Shape → Bool
opens_internals (opens e) = same Internals e
opens_internals _ = false

-- the shapes of a whole text, which has at most one INTERNALS
pub record IsDocument (ss : List Shape) : Type 0 where
  pub kinds : List Element
  pub nodes : Nodes ss kinds
  pub root : are_contents None kinds ≡ true
  pub once : count_by opens_internals ss ≤ 1

-- A prefix of a whole text: some shapes after it make one.
abbrev pub BeginsDocument : List Shape → Type 0
BeginsDocument ss = (more : List Shape) × IsDocument (ss ++ more)
