-- Where tags begin and end elements.
use Rattle.std.specs.Prelude.{ℕ, Option, Some, None, List, [], ◌∷◌, ◌++◌, map, codes}
use Rattle.std.specs.List.{find}
use Rattle.std.specs.Str.{bytes_eq}
use Rattle.pap_reader.specs.declared.element.Element.{Element}
use Rattle.pap_reader.specs.declared.element.Element.TheVariants as elements
use Rattle.pap_reader.specs.declared.tags.Form.{Form}
use Rattle.pap_reader.specs.declared.tags.Form.TheVariants as forms
use Rattle.pap_reader.specs.Tags.{Attribute, Tag}
use Rattle.pap_reader.specs.Tokens.{PlacedTag}
use Rattle.pap_reader.specs.Structure.{Shape, opens, closes, foreign}

-- the name of an element's tags
abbrev pub tag_name : Element → List ℕ
tag_name elements.Pap = codes "PAP"
tag_name elements.Interface = codes "INTERFACE"
tag_name elements.Variables = codes "VARIABLES"
tag_name elements.Inputs = codes "INPUTS"
tag_name elements.Outputs = codes "OUTPUTS"
tag_name elements.Internals = codes "INTERNALS"
tag_name elements.Constants = codes "CONSTANTS"
tag_name elements.Input = codes "INPUT"
tag_name elements.Output = codes "OUTPUT"
tag_name elements.Internal = codes "INTERNAL"
tag_name elements.Constant = codes "CONSTANT"
tag_name elements.Methods = codes "METHODS"
tag_name elements.Main = codes "MAIN"
tag_name elements.Method = codes "METHOD"
tag_name elements.Eval = codes "EVAL"
tag_name elements.Execute = codes "EXECUTE"
tag_name elements.If = codes "IF"
tag_name elements.Then = codes "THEN"
tag_name elements.Else = codes "ELSE"

-- each element once
abbrev pub all_elements : List Element
all_elements =
    elements.Pap ∷ elements.Interface ∷ elements.Variables ∷ elements.Inputs ∷ elements.Outputs ∷ elements.Internals
    ∷ elements.Constants ∷ elements.Input ∷ elements.Output ∷ elements.Internal ∷ elements.Constant
    ∷ elements.Methods ∷ elements.Main ∷ elements.Method ∷ elements.Eval ∷ elements.Execute ∷ elements.If
    ∷ elements.Then ∷ elements.Else ∷ []

-- the element of a tag's name
abbrev pub element_of : List ℕ → Option Element
element_of w = find (λ e. bytes_eq (tag_name e) w) all_elements

-- where an element begins or ends
pub data Mark : Type 0 where
  begins : Element → List Attribute → Mark
  ends : Element → Mark
  -- a tag of no element
  alien : Mark

-- An empty tag is a start tag and its end tag.
abbrev pub marks_by : Form → Option Element → List Attribute → List Mark
marks_by f None attributes = alien ∷ []
marks_by forms.Start (Some e) attributes = begins e attributes ∷ []
marks_by forms.Empty (Some e) attributes = begins e attributes ∷ ends e ∷ []
marks_by forms.End (Some e) attributes = ends e ∷ []

-- what a tag begins and ends
abbrev pub marks_of : Tag → List Mark
marks_of t = marks_by t.form (element_of t.name) t.attributes

-- what tags begin and end, in their order
abbrev pub marks : List PlacedTag → List Mark
marks [] = []
marks (t ∷ ts) = marks_of t.tag ++ marks ts

-- the mark, its attributes aside
abbrev pub shape : Mark → Shape
shape (begins e attributes) = opens e
shape (ends e) = closes e
shape alien = foreign

-- what tags begin and end, in their order, their attributes aside
abbrev pub shapes : List PlacedTag → List Shape
shapes ts = map shape (marks ts)
