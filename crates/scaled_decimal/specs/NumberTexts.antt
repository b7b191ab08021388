-- The texts that decimals are read from, and where a text stops being one.
use Rattle.std.specs.Prelude.{◌≡◌, ℕ, ◌<◌, ◌≤◌, Bool, true, false, List, [], ◌∷◌, ◌++◌, length, take, codes, ℤ, pos, neg_ℤ}
use Rattle.std.specs.Str.Parse.{AllDigits, digits_value}
use Rattle.scaled_decimal.specs.Decimals.{Decimal, decimal, numerator_of, scale_of}
use Rattle.scaled_decimal.specs.Limits.{IsWithinLimit, most_places}

-- the sign of a number below 0 is -, and another has none
abbrev pub sign_text : Bool → List ℕ
sign_text true = codes "-"
sign_text false = []

-- a point stands before the places, where there are any
abbrev pub point_text : List ℕ → List ℕ
point_text [] = []
point_text (digit ∷ digits) = codes "." ++ (digit ∷ digits)

-- an optional -, one or more digits, and optionally a point and one or more digits
pub record IsNumber (text : List ℕ) (negative : Bool) (whole places : List ℕ) : Type 0 where
  pub parts : text ≡ sign_text negative ++ (whole ++ point_text places)
  pub some : 0 < length whole
  pub whole_digits : AllDigits 10 whole
  pub place_digits : AllDigits 10 places

-- the whole number of this magnitude, with a - or without
abbrev pub signed : Bool → ℕ → ℤ
signed true n = neg_ℤ (pos n)
signed false n = pos n

-- the decimal that the digits spell, with a place for each digit after the point
abbrev pub spelled : Bool → List ℕ → List ℕ → Decimal
spelled negative whole places = decimal (signed negative (digits_value 10 (whole ++ places))) (length places)

-- the text has the form of a number, and d is the decimal that its digits spell
pub record Spells (text : List ℕ) (d : Decimal) : Type 0 where
  pub negative : Bool
  pub whole : List ℕ
  pub places : List ℕ
  pub form : IsNumber text negative whole places
  pub value : d ≡ spelled negative whole places

-- the text spells no decimal
abbrev pub SpellsNone : List ℕ → Type 0
SpellsNone text = (d : Decimal) → Spells text d → ⊥

-- some number begins with the text
pub record IsBeginning (front : List ℕ) : Type 0 where
  pub rest : List ℕ
  pub number : Decimal
  pub spells : Spells (front ++ rest) number

-- the first so many bytes are the longest prefix of the text that begins a number
pub record IsLongestFront (text : List ℕ) (at : ℕ) : Type 0 where
  pub within : at ≤ length text
  pub begins : IsBeginning (take at text)
  pub longest : (j : ℕ) → j ≤ length text → IsBeginning (take j text) → j ≤ at

-- the text spells a number of too many places
pub record HasManyPlaces (text : List ℕ) : Type 0 where
  pub number : Decimal
  pub spells : Spells text number
  pub many : most_places < scale_of number

-- the text spells a number of few places, but beyond the limit
pub record IsWide (text : List ℕ) : Type 0 where
  pub number : Decimal
  pub spells : Spells text number
  pub few : scale_of number ≤ most_places
  pub beyond : IsWithinLimit (numerator_of number) → ⊥
