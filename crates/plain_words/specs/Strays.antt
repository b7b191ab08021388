-- Where a tag stops being read since a value in it has a sign that would have to be escaped. Fronts of attributes, bytes of a
-- value and their quotes are those that the reader of flowcharts knows.
use Rattle.std.specs.Prelude.{◌≡◌, ℕ, ◌+◌, ◌⊎◌, Bool, true, false, not, ◌||◌, ◌&&◌, ◌==◌, List, [], ◌∷◌, length, drop}
use Rattle.std.specs.Char.{is_ascii_alphabetic}
use Rattle.std.specs.List.{take_while}
use Rattle.std.specs.Option.{is_some}
use Rattle.pap_tree.specs.Names.{is_word}
use Rattle.pap_reader.specs.Bytes.{begins_with, drop_while}
use Rattle.pap_reader.specs.Marks.{element_of}
use Rattle.pap_reader.specs.Values.{IsByte, NoByte}
use Rattle.pap_reader.specs.Tags.{Attribute, IsAttribute, IsFrontOf}
use Rattle.plain_words.specs.Positions.{line_number}

-- from the text of a value, behind its opening quote, bytes of it are read, and the rest is left
pub data ReadsValue : ℕ → List ℕ → List ℕ → Type 0 where
  nothing : {quote : ℕ} {text : List ℕ} → ReadsValue quote text text
  more : {quote c : ℕ} {text next left : List ℕ}
      → IsByte quote text c next → ReadsValue quote next left → ReadsValue quote text left

-- the text of a value can be read up to the rest and no further, and its closing quote isn't there
pub record IsUnclosed (quote : ℕ) (text left : List ℕ) : Type 0 where
  pub reads : ReadsValue quote text left
  pub none : NoByte quote left
  pub unclosed : (rest : List ℕ) → left ≡ quote ∷ rest → ⊥

-- behind whole attributes, or at once, an attribute's value is opened by this quote, with this text behind it
pub data OpensValue : List ℕ → ℕ → List ℕ → Type 0 where
  here : {bytes text : List ℕ} {quote : ℕ} (name : List ℕ) → IsFrontOf bytes name quote text → OpensValue bytes quote text
  later : {bytes next text : List ℕ} {quote : ℕ} (a : Attribute)
      → IsAttribute bytes a next → OpensValue next quote text → OpensValue bytes quote text

-- a value of the tag stops being read where the rest is left
pub record StopsInValue (tag : List ℕ) (quote : ℕ) (text left : List ℕ) : Type 0 where
  pub inner : List ℕ
  pub is : tag ≡ 60 ∷ inner
  pub opens : OpensValue (drop_while is_ascii_alphabetic inner) quote text
  pub stop : IsUnclosed quote text left

-- the byte behind a `<` begins what is no element: an end tag, a comment or the like, or an instruction as <?xml ?>
abbrev pub is_no_element : ℕ → Bool
is_no_element b = b == 47 || b == 33 || b == 63

-- what stands behind a `<` goes on with it as a tag of the profile does: it begins with such a byte, or its first word is the name
-- of an element
abbrev pub goes_on_as_tag : List ℕ → Bool
goes_on_as_tag inner = begins_with is_no_element inner || is_some (element_of (take_while is_word inner))

-- a `<` that is left of a value's text, with what stands behind it, is meant as a sign: it stands in the line in which the text
-- begins, so that both have as many line feeds, or in a later one, where it begins no tag
abbrev pub is_less_sign : List ℕ → List ℕ → Bool
is_less_sign text inner = line_number text == line_number inner || not (goes_on_as_tag inner)

-- what is left of a value's text begins with a sign that would have to be escaped: a &, or a < that is meant as a sign
abbrev pub begins_with_sign : List ℕ → List ℕ → Bool
begins_with_sign text [] = false
begins_with_sign text (b ∷ inner) = b == 38 || (b == 60 && is_less_sign text inner)

-- a value of the tag stops being read at such a sign, with which the rest begins
pub record IsStray (tag left : List ℕ) : Type 0 where
  pub quote : ℕ
  pub text : List ℕ
  pub stops : StopsInValue tag quote text left
  pub sign : begins_with_sign text left ≡ true

-- such a sign stands at the byte `to`, in the tag that begins at the byte `at`
pub record IsStrayAt (plan : List ℕ) (at to : ℕ) : Type 0 where
  pub left : List ℕ
  pub stray : IsStray (drop at plan) left
  pub place : to + length left ≡ length plan

-- the byte at which what isn't read is shown: where a value of the tag there has such a sign, that; else its first
abbrev pub IsStopByte : List ℕ → ℕ → ℕ → Type 0
IsStopByte plan at to = IsStrayAt plan at to ⊎ ((to ≡ at) × ((j : ℕ) → IsStrayAt plan at j → ⊥))
