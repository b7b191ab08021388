-- Where the bytes of an attribute's value are written.
use Rattle.std.specs.Prelude.{◌≡◌, ◌==◌, ℕ, zero, suc, ◌-◌, List, [], ◌∷◌, Option, Some, None, length, if◌then◌else◌}
use Rattle.std.specs.Str.{bytes_eq}
use Rattle.pap_reader.specs.Tags.{Attribute}
use Rattle.pap_reader.specs.Values.{IsByte, NoByte}
use Rattle.pap_reader.specs.Contents.{Token, remark, tagged}

-- the first of these attributes that has this name
abbrev pub attribute_named : List ℕ → List Attribute → Option Attribute
attribute_named name [] = None
attribute_named name (a ∷ attributes) = if bytes_eq a.name name then Some a else attribute_named name attributes

-- the attribute of this name in the tag among the tokens that begins at a byte
abbrev pub attribute_at : ℕ → List ℕ → List Token → Option Attribute
attribute_at at name [] = None
attribute_at at name (remark from inside ∷ ts) = attribute_at at name ts
attribute_at at name (tagged t ∷ ts) = if t.at == at then attribute_named name t.tag.attributes else attribute_at at name ts

-- what is written behind so many bytes of a value with this quote; behind the last where there are fewer
pub data IsBehind : ℕ → List ℕ → ℕ → List ℕ → Type 0 where
  start : {quote : ℕ} {text : List ℕ} → IsBehind quote text zero text
  byte : {quote c count : ℕ} {text next left : List ℕ}
      → IsByte quote text c next → IsBehind quote next count left → IsBehind quote text (suc count) left
  ended : {quote count : ℕ} {text : List ℕ} → NoByte quote text → IsBehind quote text count text

-- the attribute is there, and this is the byte of a file of this length where so many bytes of its value stand before it
pub record IsValueByte (end : ℕ) (found : Option Attribute) (number at : ℕ) : Type 0 where
  pub attribute : Attribute
  pub there : found ≡ Some attribute
  pub left : List ℕ
  pub behind : IsBehind attribute.quote attribute.text number left
  pub is : at ≡ end - length left
