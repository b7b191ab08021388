-- Tags and their attributes (docs/PROFILE.md, "Tags"). Each relation is between the bytes at a place, what is read there,
-- and the bytes that are left.
use Rattle.std.specs.Prelude.{◌≡◌, ℕ, ◌+◌, true, List, [], ◌∷◌, length, map}
use Rattle.pap_tree.specs.White.{is_white}
use Rattle.pap_reader.specs.declared.tags.Form.{Form}
use Rattle.pap_reader.specs.declared.tags.Form.TheVariants as forms
use Rattle.pap_reader.specs.declared.tags.Attribute.{Attribute as WrittenAttribute}
use Rattle.pap_reader.specs.declared.tags.Tag.{Tag as WrittenTag}
use Rattle.pap_reader.specs.Bytes.{is_first, is_inner, begins_with, drop_while}
use Rattle.std.specs.Char.{is_ascii_alphabetic}
use Rattle.std.specs.List.{take_while}
use Rattle.pap_reader.specs.Values.{Quoted, is_quote}

-- an attribute: its name, its quote, what stands from the first byte of its value on, how many bytes stand between its quotes,
-- and the text that they stand for
pub record Attribute : Type 0 where
  pub name : List ℕ
  pub quote : ℕ
  pub text : List ℕ
  pub written : ℕ
  pub value : List ℕ

-- a tag: whether it begins an element, ends it or is empty, its name, and its attributes in their order
pub record Tag : Type 0 where
  pub form : Form
  pub name : List ℕ
  pub attributes : List Attribute

-- What stands before an attribute's value: white space, a name, `=` and a quote, with white space round the `=` where
-- there is some.
pub record BeforeValue (bytes : List ℕ) : Type 0 where
  pub apart : begins_with is_white bytes ≡ true
  pub named : begins_with is_first (drop_while is_white bytes) ≡ true
  pub value : List ℕ
  pub equals : drop_while is_white (drop_while is_inner (drop_while is_white bytes)) ≡ 61 ∷ value
  pub quote : ℕ
  pub text : List ℕ
  pub opened : drop_while is_white value ≡ quote ∷ text
  pub quotes : is_quote quote ≡ true

-- the name, the quote and the text of what stands before an attribute's value
abbrev pub IsFrontOf : List ℕ → List ℕ → ℕ → List ℕ → Type 0
IsFrontOf bytes name quote text =
    (f : BeforeValue bytes)
    × (name ≡ take_while is_inner (drop_while is_white bytes)) × (quote ≡ f.quote) × (text ≡ f.text)

-- an attribute
pub record IsAttribute (bytes : List ℕ) (a : Attribute) (rest : List ℕ) : Type 0 where
  pub front : BeforeValue bytes
  pub name : a.name ≡ take_while is_inner (drop_while is_white bytes)
  pub quote : a.quote ≡ front.quote
  pub text : a.text ≡ front.text
  pub quoted : Quoted front.quote front.text a.value rest
  pub written : a.written + 1 + length rest ≡ length front.text

-- what follows the name in a start tag or an empty tag: attributes, and `>` or `/>`
pub data Ending : List ℕ → Form → List Attribute → List ℕ → Type 0 where
  start : {bytes rest : List ℕ} → drop_while is_white bytes ≡ 62 ∷ rest → Ending bytes forms.Start [] rest
  empty : {bytes rest : List ℕ} → drop_while is_white bytes ≡ 47 ∷ 62 ∷ rest → Ending bytes forms.Empty [] rest
  more : {bytes next rest : List ℕ} {f : Form} {attributes : List Attribute} (a : Attribute)
      → IsAttribute bytes a next → Ending next f attributes rest → Ending bytes f (a ∷ attributes) rest

-- a tag: `<NAME ..>`, `<NAME ../>` or `</NAME>`, with a name of letters
pub data IsTag : List ℕ → Tag → List ℕ → Type 0 where
  opening : {bytes rest : List ℕ} {f : Form} {attributes : List Attribute}
      → begins_with is_ascii_alphabetic bytes ≡ true → Ending (drop_while is_ascii_alphabetic bytes) f attributes rest
      → IsTag (60 ∷ bytes) (record { form = f; name = take_while is_ascii_alphabetic bytes; attributes = attributes }) rest
  closing : {bytes rest : List ℕ}
      → begins_with is_ascii_alphabetic bytes ≡ true → drop_while is_white (drop_while is_ascii_alphabetic bytes) ≡ 62 ∷ rest
      → IsTag (60 ∷ 47 ∷ bytes) (record { form = forms.End; name = take_while is_ascii_alphabetic bytes; attributes = [] }) rest

-- No tag begins here.
abbrev pub NoTag : List ℕ → Type 0
NoTag bytes = (t : Tag) (rest : List ℕ) → IsTag bytes t rest → ⊥

-- ---- as the code has them

-- the attribute that a written one stands for
abbrev pub attribute_of : WrittenAttribute → Attribute
attribute_of a = record {
  name = a.name.now;
  quote = a.quote;
  text = a.text.now;
  written = a.written;
  value = a.value.items;
}

-- the attributes that written ones stand for
abbrev pub attributes_of : List WrittenAttribute → List Attribute
attributes_of attributes = map attribute_of attributes

-- the tag that a written one stands for
abbrev pub tag_of : WrittenTag → Tag
tag_of t = record { form = t.form; name = t.name.now; attributes = attributes_of t.attributes.items }
