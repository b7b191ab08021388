-- The table of elements: what may stand in each of them, and how often (docs/PROFILE.md, "Elements").
use Rattle.std.specs.Prelude.{ℕ, Bool, true, false, not, ◌&&◌, ◌||◌, ◌==◌, Option, Some, None, List, [], ◌∷◌, ◌++◌}
use Rattle.std.specs.List.{list_all, list_any}
use Rattle.pap_reader.specs.declared.element.Element.{Element}
use Rattle.pap_reader.specs.declared.element.Element.TheVariants.{Pap, Interface, Variables, Inputs, Outputs, Internals, Constants, Input, Output, Internal, Constant, Methods, Main, Method, Eval, Execute, If, Then, Else}

-- how often a part stands in an element
pub data Times : Type 0 where
  once : Times
  at_most_once : Times
  once_or_more : Times
  any_number : Times

-- A part of an element's content: one of these elements, so often, and only where each of the last list stands before it.
pub record Part : Type 0 where
  pub elements : List Element
  pub times : Times
  pub after : List Element

-- a part that may stand at any place among the others
abbrev pub part : List Element → Times → Part
part elements times = record { elements = elements; times = times; after = [] }

-- the content of INTERFACE, and of VARIABLES
abbrev pub group : List Part
group =
    part (Inputs ∷ []) at_most_once
    ∷ part (Outputs ∷ []) once_or_more
    ∷ part (Internals ∷ []) at_most_once ∷ []

-- the content of what holds statements
abbrev pub statements : List Part
statements = part (Eval ∷ Execute ∷ If ∷ []) any_number ∷ []

-- The parts of each element's content, in any order. The whole text is `None`.
abbrev pub content : Option Element → List Part
content None = part (Pap ∷ []) once ∷ []
content (Some Pap) =
    part (Interface ∷ Variables ∷ []) once
    ∷ part (Internals ∷ []) at_most_once
    ∷ part (Constants ∷ []) at_most_once
    ∷ part (Methods ∷ []) once ∷ []
content (Some Interface) = group
content (Some Variables) = group
content (Some Inputs) = part (Input ∷ []) any_number ∷ []
content (Some Outputs) = part (Output ∷ []) once_or_more ∷ []
content (Some Internals) = part (Internal ∷ []) any_number ∷ []
content (Some Constants) = part (Constant ∷ []) any_number ∷ []
content (Some Methods) = part (Main ∷ []) once ∷ part (Method ∷ []) any_number ∷ []
content (Some Main) = statements
content (Some Method) = statements
content (Some Then) = statements
content (Some Else) = statements
content (Some If) =
    part (Then ∷ []) once
    ∷ record { elements = Else ∷ []; times = at_most_once; after = Then ∷ [] } ∷ []
content (Some Input) = []
content (Some Output) = []
content (Some Internal) = []
content (Some Constant) = []
content (Some Eval) = []
content (Some Execute) = []

-- ---- children that fit

-- the place of an element in the list of all of them
abbrev pub number : Element → ℕ
number Pap = 0
number Interface = 1
number Variables = 2
number Inputs = 3
number Outputs = 4
number Internals = 5
number Constants = 6
number Input = 7
number Output = 8
number Internal = 9
number Constant = 10
number Methods = 11
number Main = 12
number Method = 13
number Eval = 14
number Execute = 15
number If = 16
number Then = 17
number Else = 18

-- the two elements are the same
abbrev pub same : Element → Element → Bool
same a b = number a == number b

-- the element is one of these
abbrev pub has : List Element → Element → Bool
has elements e = list_any (same e) elements

-- one of the children is of the part
abbrev pub stands : Part → List Element → Bool
stands p children = list_any (has children) p.elements

-- whether the part may stand more than once
abbrev pub may_repeat : Times → Bool
may_repeat once = false
may_repeat at_most_once = false
may_repeat once_or_more = true
may_repeat any_number = true

-- whether the part has to stand there
abbrev pub is_needed : Times → Bool
is_needed once = true
is_needed at_most_once = false
is_needed once_or_more = true
is_needed any_number = false

-- The child may stand after the others before it, as one more of this part.
abbrev pub may_be : List Element → Element → Part → Bool
may_be before child p =
    has p.elements child
    && (may_repeat p.times || not (stands p before))
    && list_all (has before) p.after

-- The child may stand next in the element, after these children.
abbrev pub may_stand : Option Element → List Element → Element → Bool
may_stand parent before child = list_any (may_be before child) (content parent)

-- no needed part is missing
abbrev pub is_complete : Option Element → List Element → Bool
is_complete parent children =
    list_all (λ p. not (is_needed p.times) || stands p children) (content parent)

-- Each of the children may stand after those before it.
abbrev pub all_stand : Option Element → List Element → List Element → Bool
all_stand parent before [] = true
all_stand parent before (child ∷ children) =
    may_stand parent before child && all_stand parent (before ++ (child ∷ [])) children

-- the children are what the element may contain
abbrev pub are_contents : Option Element → List Element → Bool
are_contents parent children = all_stand parent [] children && is_complete parent children
