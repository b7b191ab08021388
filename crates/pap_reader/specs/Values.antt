-- The values of attributes (docs/PROFILE.md, "Attributes"). Each relation is between the bytes at a place, what is read
-- there, and the bytes that are left.
use Rattle.std.specs.Prelude.{◌≡◌, ℕ, ◌≤◌, ◌⊎◌, Bool, false, ◌||◌, ◌==◌, List, [], ◌∷◌, ◌++◌, codes}
use Rattle.std.specs.Str.Parse.{IsNumeral, digits_value}

-- digits of a radix, one at least, that write a code from 1 to 127
pub record WritesCode (radix : ℕ) (digits : List ℕ) (code : ℕ) : Type 0 where
  pub numeral : IsNumeral radix digits
  pub value : code ≡ digits_value radix digits
  pub least : 1 ≤ code
  pub most : code ≤ 127

-- The word stands for the byte: one of five names, or `#` and its code in decimal digits, or `#x` and hexadecimal ones.
pub data StandsFor : List ℕ → ℕ → Type 0 where
  less_than : StandsFor (codes "lt") 60
  greater_than : StandsFor (codes "gt") 62
  ampersand : StandsFor (codes "amp") 38
  quotation_mark : StandsFor (codes "quot") 34
  apostrophe : StandsFor (codes "apos") 39
  decimal : {digits : List ℕ} {code : ℕ} → WritesCode 10 digits code → StandsFor (codes "#" ++ digits) code
  hexadecimal : {digits : List ℕ} {code : ℕ} → WritesCode 16 digits code → StandsFor (codes "#x" ++ digits) code

-- `&`, a word that stands for the byte c, and `;`
pub record Escape (bytes : List ℕ) (c : ℕ) (rest : List ℕ) : Type 0 where
  pub word : List ℕ
  pub is : bytes ≡ 38 ∷ (word ++ (59 ∷ rest))
  pub byte : StandsFor word c

-- a byte that stands for itself in a value with the quote q: neither the quote, nor `<`, nor `&`
pub record StandsForItself (q : ℕ) (bytes : List ℕ) (c : ℕ) (rest : List ℕ) : Type 0 where
  pub is : bytes ≡ c ∷ rest
  pub no_quote : (c == q) ≡ false
  pub no_tag : (c == 60) ≡ false
  pub no_escape : (c == 38) ≡ false

-- a byte of a value with the quote q, for itself or by an escape
abbrev pub IsByte : ℕ → List ℕ → ℕ → List ℕ → Type 0
IsByte q bytes c rest = StandsForItself q bytes c rest ⊎ Escape bytes c rest

-- No byte of a value can be read here.
abbrev pub NoByte : ℕ → List ℕ → Type 0
NoByte q bytes = (c : ℕ) (rest : List ℕ) → IsByte q bytes c rest → ⊥

-- A value and its closing quote q: bytes that stand for themselves, and escapes.
pub data Quoted : ℕ → List ℕ → List ℕ → List ℕ → Type 0 where
  closing_quote : {q : ℕ} {rest : List ℕ} → Quoted q (q ∷ rest) [] rest
  byte : {q c : ℕ} {bytes next value rest : List ℕ}
      → IsByte q bytes c next → Quoted q next value rest → Quoted q bytes (c ∷ value) rest

-- `"` or `'`
abbrev pub is_quote : ℕ → Bool
is_quote b = b == 34 || b == 39
