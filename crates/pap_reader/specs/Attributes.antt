-- The attributes of each element (docs/PROFILE.md, "Attributes").
use Rattle.std.specs.Prelude.{ℕ, Bool, true, false, not, ◌&&◌, ◌==◌, nat_le, Option, Some, None, List, [], ◌∷◌, map, codes, if◌then◌else◌}
use Rattle.std.specs.List.{list_all, list_any, find}
use Rattle.std.specs.Str.{bytes_eq}
use Rattle.pap_tree.specs.Names.{is_name}
use Rattle.pap_tree.specs.declared.declaration.Kind.{Kind}
use Rattle.pap_tree.specs.declared.declaration.Kind.TheVariants as kinds
use Rattle.pap_reader.specs.declared.element.Element.{Element}
use Rattle.pap_reader.specs.declared.element.Element.TheVariants.{Input, Output, Internal, Constant, Method, Eval, Execute, If}
use Rattle.pap_reader.specs.Tags.{Attribute}
use Rattle.pap_reader.specs.Marks.{Mark, begins, ends, alien}

-- the form of a value
pub data ValueForm : Type 0 where
  any_text : ValueForm
  a_name : ValueForm
  -- the word of one of these types
  a_type : List Kind → ValueForm

-- an attribute that a tag has to have
pub record Need : Type 0 where
  pub name : List ℕ
  pub form : ValueForm

-- the need of a name and a form
abbrev pub need : List ℕ → ValueForm → Need
need name form = record { name = name; form = form }

-- a declared name, of one of these types
abbrev pub declared_as : List Kind → List Need
declared_as ks = need (codes "name") a_name ∷ need (codes "type") (a_type ks) ∷ []

-- the table of needed attributes
abbrev pub needs : Element → List Need
needs Input = declared_as (kinds.Int ∷ kinds.Long ∷ kinds.Big ∷ kinds.Factor ∷ [])
needs Internal = declared_as (kinds.Int ∷ kinds.Long ∷ kinds.Big ∷ kinds.Factor ∷ [])
needs Output = declared_as (kinds.Int ∷ kinds.Long ∷ kinds.Big ∷ [])
needs Constant =
    need (codes "value") any_text ∷ declared_as (kinds.Int ∷ kinds.Long ∷ kinds.Big ∷ kinds.Table ∷ [])
needs Method = need (codes "name") a_name ∷ []
needs Eval = need (codes "exec") any_text ∷ []
needs Execute = need (codes "method") a_name ∷ []
needs If = need (codes "expr") any_text ∷ []
needs _ = []

-- the word of a type
abbrev pub type_word : Kind → List ℕ
type_word kinds.Int = codes "int"
type_word kinds.Long = codes "long"
type_word kinds.Big = codes "BigDecimal"
type_word kinds.Factor = codes "double"
type_word kinds.Table = codes "BigDecimal[]"

-- each type once
abbrev pub all_types : List Kind
all_types = kinds.Int ∷ kinds.Long ∷ kinds.Big ∷ kinds.Factor ∷ kinds.Table ∷ []

-- the type of a word
abbrev pub kind_of : List ℕ → Option Kind
kind_of w = find (λ k. bytes_eq (type_word k) w) all_types

-- the place of a type in that list
abbrev pub kind_number : Kind → ℕ
kind_number kinds.Int = 0
kind_number kinds.Long = 1
kind_number kinds.Big = 2
kind_number kinds.Factor = 3
kind_number kinds.Table = 4

-- the type is known, and one of these
abbrev pub is_kind : List Kind → Option Kind → Bool
is_kind ks None = false
is_kind ks (Some k) = list_any (λ l. kind_number k == kind_number l) ks

-- the value has the form
abbrev pub has_form : ValueForm → List ℕ → Bool
has_form any_text v = true
has_form a_name v = is_name v
has_form (a_type ks) v = is_kind ks (kind_of v)

-- the value of the attribute of that name
abbrev pub attribute_value : List ℕ → List Attribute → Option (List ℕ)
attribute_value name [] = None
attribute_value name (a ∷ attributes) = if bytes_eq a.name name then Some a.value else attribute_value name attributes

-- the value is there, in this form
abbrev pub is_met_by : ValueForm → Option (List ℕ) → Bool
is_met_by form None = false
is_met_by form (Some v) = has_form form v

-- the attribute is there, in its form
abbrev pub is_met : List Attribute → Need → Bool
is_met attributes n = is_met_by n.form (attribute_value n.name attributes)

-- No two of the texts are the same.
abbrev pub are_different : List (List ℕ) → Bool
are_different [] = true
are_different (t ∷ ts) = not (list_any (bytes_eq t) ts) && are_different ts

-- No name stands twice.
abbrev pub are_distinct : List Attribute → Bool
are_distinct attributes = are_different (map (λ a. a.name) attributes)

-- the most bytes between the quotes
abbrev pub longest_value : ℕ
longest_value = 8192

-- No value is longer.
abbrev pub are_short : List Attribute → Bool
are_short attributes = list_all (λ a. nat_le a.written longest_value) attributes

-- What an element's tag has to have: no attribute twice, none too long, each needed one, in its form.
abbrev pub is_right : Element → List Attribute → Bool
is_right e attributes =
    are_distinct attributes && are_short attributes && list_all (is_met attributes) (needs e)

-- The tag that begins an element has to have this; one that ends it has nothing.
abbrev pub mark_is_right : Mark → Bool
mark_is_right (begins e attributes) = is_right e attributes
mark_is_right (ends e) = true
mark_is_right alien = true
