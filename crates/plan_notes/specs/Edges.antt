-- Where the elements of a plan's file begin and end, in its order.
use Rattle.std.specs.Prelude.{◌≡◌, ℕ, ◌⊎◌, Bool, true, false, List, [], ◌∷◌, ◌++◌}
use Rattle.pap_reader.specs.declared.element.Element.{Element}
use Rattle.pap_reader.specs.Tokens.{PlacedTag, Reads, IsAlien}
use Rattle.pap_reader.specs.Marks.{Mark, begins, ends, alien, marks_of}

-- where an element begins or ends, with the byte of its tag's `<`
pub record Edge : Type 0 where
  pub element : Element
  pub is_end : Bool
  pub at : ℕ

-- an element begins or ends at this byte
abbrev pub edge : Element → Bool → ℕ → Edge
edge element is_end at = record { element = element; is_end = is_end; at = at }

-- where an element begins or ends at the marks of a tag at this place; a tag of no element has none
abbrev pub edges_by : ℕ → List Mark → List Edge
edges_by at [] = []
edges_by at (begins element attributes ∷ marks) = edge element false at ∷ edges_by at marks
edges_by at (ends element ∷ marks) = edge element true at ∷ edges_by at marks
edges_by at (alien ∷ marks) = edges_by at marks

-- where elements begin and end at these tags
abbrev pub edges_of : List PlacedTag → List Edge
edges_of [] = []
edges_of (t ∷ ts) = edges_by t.at (marks_of t.tag) ++ edges_of ts

-- The elements begin and end in the file there, and nowhere else, up to its end or to a place where no token begins.
pub record HasEdges (file : List ℕ) (edges : List Edge) : Type 0 where
  pub tags : List PlacedTag
  pub rest : List ℕ
  pub read : Reads file tags rest
  pub ended : (rest ≡ []) ⊎ IsAlien rest
  pub is : edges_of tags ≡ edges
