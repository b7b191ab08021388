-- What the values of the code stand for: bytes, attributes, children and counts.
use Rattle.std.specs.Prelude.{◌≡◌, ℕ, ◌+◌, ◌<◌, ◌^◌, ◌⊎◌, Bool, true, false, ◌&&◌, Option, MatchOption, codes, List, [], ◌∷◌, ◌++◌, length, slice_index_or, if◌then◌else◌, ◌||◌, ◌==◌, Some}
use Rattle.pap_tree.specs.White.{is_white}
use Rattle.pap_tree.specs.declared.declaration.Kind.{Kind}
use Rattle.pap_reader.specs.declared.element.Element.{Element}
use Rattle.pap_reader.specs.declared.element.Element.TheVariants.{Input, Output, Internal, Constant, Method, Eval, Execute, If, Then, Else}
use Rattle.pap_reader.specs.declared.element.Children.{Children}
use Rattle.pap_reader.specs.declared.counts.Counts.{Counts}
use Rattle.pap_reader.specs.declared.fault.Which.TheVariants as which
use Rattle.pap_reader.specs.declared.tags.Form.{Form}
use Rattle.pap_reader.specs.declared.attributes.TagValue.{TagValue}
use Rattle.pap_reader.specs.declared.attributes.TagValue.TheVariants.{Declared, Text, Named}
use Rattle.pap_reader.specs.Table.{number, has}
use Rattle.pap_reader.specs.Structure.{Shape, opens}
use Rattle.pap_reader.specs.Bytes.{drop_while}
use Rattle.std.specs.Char.{is_ascii_alphabetic, is_ascii_digit}
use Rattle.std.specs.List.{take_while}
use Rattle.pap_reader.specs.Values.{is_quote}
use Rattle.pap_reader.specs.private.EscapeDecisions.{byte_named}
use Rattle.pap_reader.specs.Tags.{Attribute, IsAttribute, Ending, NoTag}
use Rattle.pap_reader.specs.Contents.{IsComment}
use Rattle.pap_reader.specs.Attributes.{attribute_value, is_met_by, a_name, a_type}
use Rattle.pap_reader.specs.Trees.{raw_declaration_of}
use Rattle.pap_reader.specs.Meaning.{declared, attribute_text}
use Rattle.pap_reader.specs.Limits.{is_counted}
use Rattle.pap_reader.specs.private.CountDecisions.{deeper, tally}

-- ---- what does not stand at a place

-- what an escape's word is made of: letters, digits and `#`
abbrev pub is_code : ℕ → Bool
is_code b = is_ascii_alphabetic b || is_ascii_digit b || b == 35

-- an escape as it is found: the longest word after `&`
pub record FoundEscape (bytes : List ℕ) (c : ℕ) (rest : List ℕ) : Type 0 where
  pub inner : List ℕ
  pub amp : bytes ≡ 38 ∷ inner
  pub byte : byte_named (take_while is_code inner) ≡ Some c
  pub stop : drop_while is_code inner ≡ 59 ∷ rest

abbrev pub NoFoundEscape : List ℕ → Type 0
NoFoundEscape bytes = (c : ℕ) (rest : List ℕ) → FoundEscape bytes c rest → ⊥

abbrev pub NoQuote : List ℕ → Type 0
NoQuote bytes = (quote : ℕ) (text : List ℕ) → bytes ≡ quote ∷ text → is_quote quote ≡ true → ⊥

abbrev pub NoAttribute : List ℕ → Type 0
NoAttribute bytes = (a : Attribute) (rest : List ℕ) → IsAttribute bytes a rest → ⊥

-- `>`, or `/>`, after white space
abbrev pub Closing : List ℕ → List ℕ → Type 0
Closing bytes rest = (drop_while is_white bytes ≡ 62 ∷ rest) ⊎ (drop_while is_white bytes ≡ 47 ∷ 62 ∷ rest)

abbrev pub NoClosing : List ℕ → Type 0
NoClosing bytes = (rest : List ℕ) → Closing bytes rest → ⊥

abbrev pub NoEnding : List ℕ → Type 0
NoEnding bytes = (f : Form) (attributes : List Attribute) (rest : List ℕ) → Ending bytes f attributes rest → ⊥

abbrev pub NoComment : List ℕ → Type 0
NoComment bytes = (inside rest : List ℕ) → IsComment bytes inside rest → ⊥

-- neither a comment nor a tag
abbrev pub NoToken : List ℕ → Type 0
NoToken bytes = NoComment bytes × NoTag bytes

-- ---- what the attributes say

abbrev pub DeclaresOf : List ℕ → List Attribute → TagValue → Type 0
DeclaresOf word attributes (Declared d) = raw_declaration_of d ≡ declared word attributes
DeclaresOf word attributes _ = ⊥

abbrev pub IsNamed : List ℕ → TagValue → Type 0
IsNamed name (Named n) = n ≡ name
IsNamed name _ = ⊥

abbrev pub IsText : List ℕ → TagValue → Type 0
IsText text (Text v) = v.items ≡ text
IsText text _ = ⊥

-- What the attributes of the element's tag say.
abbrev pub IsValueOf : Element → List Attribute → TagValue → Type 0
IsValueOf Input attributes v = DeclaresOf (codes "default") attributes v
IsValueOf Internal attributes v = DeclaresOf (codes "default") attributes v
IsValueOf Output attributes v = DeclaresOf (codes "default") attributes v
IsValueOf Constant attributes v = DeclaresOf (codes "value") attributes v
IsValueOf Method attributes v = IsNamed (attribute_text (codes "name") attributes) v
IsValueOf Execute attributes v = IsNamed (attribute_text (codes "method") attributes) v
IsValueOf Eval attributes v = IsText (attribute_text (codes "exec") attributes) v
IsValueOf If attributes v = IsText (attribute_text (codes "expr") attributes) v
IsValueOf _ attributes v = Unit {0}

-- Where the test fails there is nothing, and where it holds there is what the fact says.
abbrev pub SomeWhere : {A : Type 0} → Option A → Bool → (A → Type 0) → Type 0
SomeWhere o test P = MatchOption o (test ≡ false) (λ x. (test ≡ true) × P x)

-- the attributes that each declared name needs
abbrev pub declares : List Kind → List Attribute → Bool
declares kinds attributes =
    is_met_by a_name (attribute_value (codes "name") attributes)
    && is_met_by (a_type kinds) (attribute_value (codes "type") attributes)

-- ---- children and counts

-- what stands in a body: a statement, or a branch of an IF
abbrev pub is_in_body : Element → Bool
is_in_body Eval = true
is_in_body Execute = true
is_in_body If = true
is_in_body Then = true
is_in_body Else = true
is_in_body _ = false

-- the flags say which elements are among the children
pub record HasFlags (flags : List Bool) (children : List Element) : Type 0 where
  pub all : length flags ≡ 19
  pub flag : (e : Element) → slice_index_or flags (number e) false ≡ has children e

-- the flags of these children, and of these with one more
abbrev pub AddsChild : Children → Children → Element → Type 0
AddsChild old new e =
    (children : List Element) → HasFlags old.stands children → HasFlags new.stands (children ++ (e ∷ []))

-- the counts are those of the shapes
pub record Tallies (c : Counts) (ss : List Shape) : Type 0 where
  pub inputs : c.inputs ≡ tally which.Inputs ss
  pub outputs : c.outputs ≡ tally which.Outputs ss
  pub internals : c.internals ≡ tally which.Internals ss
  pub constants : c.constants ≡ tally which.Constants ss
  pub methods : c.methods ≡ tally which.Methods ss
  pub statements : c.statements ≡ tally which.Statements ss
  pub depth : c.depth ≡ tally which.Depth ss

-- one more fits
pub record IsSmall (c : Counts) : Type 0 where
  pub inputs : c.inputs < 2 ^ 31
  pub outputs : c.outputs < 2 ^ 31
  pub internals : c.internals < 2 ^ 31
  pub constants : c.constants < 2 ^ 31
  pub methods : c.methods < 2 ^ 31
  pub statements : c.statements < 2 ^ 31
  pub depth : c.depth < 2 ^ 31

abbrev pub one_if : Bool → ℕ
one_if b = if b then 1 else 0

-- the counts after an element began
pub record IsMore (c d : Counts) (e : Element) : Type 0 where
  pub inputs : d.inputs ≡ c.inputs + one_if (is_counted which.Inputs e)
  pub outputs : d.outputs ≡ c.outputs + one_if (is_counted which.Outputs e)
  pub internals : d.internals ≡ c.internals + one_if (is_counted which.Internals e)
  pub constants : d.constants ≡ c.constants + one_if (is_counted which.Constants e)
  pub methods : d.methods ≡ c.methods + one_if (is_counted which.Methods e)
  pub statements : d.statements ≡ c.statements + one_if (is_counted which.Statements e)
  pub depth : d.depth ≡ deeper c.depth (opens e)
