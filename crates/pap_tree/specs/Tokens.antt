-- The tokens of a text: from the left, each as long as can be, with white space before, between and after them.
-- Source: docs/PROFILE.md, "Tokens of expressions"; for literals of int and long The Java Language
-- Specification, 3.10.1.
use Rattle.std.specs.Prelude.{◌≡◌, ℕ, ◌+◌, ◌≤◌, ◌<◌, Bool, true, false, ◌&&◌, nat_lt, List, [], ◌∷◌, ◌++◌, length, map, codes, pos}
use Rattle.std.specs.List.{list_all}
use Rattle.std.specs.Str.Parse.{AllDigits, digits_value}
use Rattle.scaled_decimal.specs.Decimals.{Decimal, decimal}
use Rattle.scaled_decimal.specs.Limits.{IsKept}
use Rattle.scaled_decimal.specs.NumberTexts.{Spells}
use Rattle.pap_tree.specs.Names.{is_letter, is_word}
use Rattle.pap_tree.specs.White.{is_white}
use Rattle.pap_tree.specs.declared.expression.Binary.{Binary}
use Rattle.pap_tree.specs.Words.{operator_text}

-- the signs that aren't operators between two operands
pub data Sign : Type 0 where
  Equals : Sign
  Bang : Sign
  Question : Sign
  Colon : Sign
  Dot : Sign
  Comma : Sign
  Semicolon : Sign
  Open : Sign
  Close : Sign
  OpenItem : Sign
  CloseItem : Sign
  OpenTable : Sign
  CloseTable : Sign

-- how a sign is written
abbrev pub sign_text : Sign → List ℕ
sign_text Equals = codes "="
sign_text Bang = codes "!"
sign_text Question = codes "?"
sign_text Colon = codes ":"
sign_text Dot = codes "."
sign_text Comma = codes ","
sign_text Semicolon = codes ";"
sign_text Open = codes "("
sign_text Close = codes ")"
sign_text OpenItem = codes "["
sign_text CloseItem = codes "]"
sign_text OpenTable = codes "{"
sign_text CloseTable = codes "}"

-- a literal within its range
pub data Number : Type 0 where
  int : ℕ → Number
  long : ℕ → Number
  point : Decimal → Number

-- a token of the text of an expression
pub data Token : Type 0 where
  Literal : Number → Token
  -- a number in quotation marks
  Quoted : Decimal → Token
  -- a literal or a string beyond its range
  Beyond : Token
  -- a name or a word of the language
  Word : List ℕ → Token
  Operator : Binary → Token
  Mark : Sign → Token
  -- a byte at which no token begins
  Alien : Token

-- the greatest `int` of Java
abbrev pub greatest_int : ℕ
greatest_int = 2147483647

-- the greatest `long` of Java
abbrev pub greatest_long : ℕ
greatest_long = 9223372036854775807

-- a letter or _, then letters, digits or _: at most 32 bytes
abbrev pub is_word_text : List ℕ → Bool
is_word_text [] = false
is_word_text (b ∷ bs) = is_letter b && list_all is_word bs && nat_lt (length bs) 32

-- 0, or a digit from 1 to 9 with digits after it
pub record IsNumeral (text : List ℕ) (n : ℕ) : Type 0 where
  pub some : 0 < length text
  pub digits : AllDigits 10 text
  pub no_zero_first : (rest : List ℕ) → text ≡ 48 ∷ rest → rest ≡ []
  pub value : n ≡ digits_value 10 text

-- a numeral, and L at once after it
abbrev pub IsLong : List ℕ → ℕ → Type 0
IsLong text n = (digits : List ℕ) × (text ≡ digits ++ codes "L") × IsNumeral digits n

-- a numeral, a point and one or more digits
pub record IsPoint (text : List ℕ) (d : Decimal) : Type 0 where
  pub front : List ℕ
  pub places : List ℕ
  pub whole : ℕ
  pub numeral : IsNumeral front whole
  pub parts : text ≡ front ++ (codes "." ++ places)
  pub some : 0 < length places
  pub digits : AllDigits 10 places
  pub value : d ≡ decimal (pos (digits_value 10 (front ++ places))) (length places)

-- a number with a sign or none, in quotation marks
abbrev pub IsQuoted : List ℕ → Decimal → Type 0
IsQuoted text d = (inner : List ℕ) × (text ≡ codes "\"" ++ (inner ++ codes "\"")) × Spells inner d

-- a literal or a string beyond its range
pub data IsBeyondRange : List ℕ → Type 0 where
  great_int : {text : List ℕ} (n : ℕ) → IsNumeral text n → greatest_int < n → IsBeyondRange text
  great_long : {text : List ℕ} (n : ℕ) → IsLong text n → greatest_long < n → IsBeyondRange text
  great_point : {text : List ℕ} (d : Decimal) → IsPoint text d → (IsKept d → ⊥) → IsBeyondRange text
  great_quoted : {text : List ℕ} (d : Decimal) → IsQuoted text d → (IsKept d → ⊥) → IsBeyondRange text

-- The bytes spell the token.
abbrev pub IsToken : List ℕ → Token → Type 0
IsToken text (Literal (int n)) = IsNumeral text n × (n ≤ greatest_int)
IsToken text (Literal (long n)) = IsLong text n × (n ≤ greatest_long)
IsToken text (Literal (point d)) = IsPoint text d × IsKept d
IsToken text (Quoted d) = IsQuoted text d × IsKept d
IsToken text Beyond = IsBeyondRange text
IsToken text (Word w) = (is_word_text text ≡ true) × (w ≡ text)
IsToken text (Operator o) = text ≡ operator_text o
IsToken text (Mark s) = text ≡ sign_text s
IsToken text Alien = ⊥

-- no more of the bytes spell a token
abbrev pub TakesMost : List ℕ → List ℕ → Type 0
TakesMost text rest =
    (more left : List ℕ) (t : Token) → rest ≡ more ++ left → IsToken (text ++ more) t → more ≡ []

-- no prefix of the bytes spells a token
abbrev pub SpellsNoToken : List ℕ → Type 0
SpellsNoToken bytes = (front left : List ℕ) (t : Token) → bytes ≡ front ++ left → IsToken front t → ⊥

-- The text is the first token of the text and the rest. Where no token begins, it is one byte.
abbrev pub IsFirst : List ℕ → List ℕ → Token → Type 0
IsFirst text rest Alien = (length text ≡ 1) × (list_all is_white text ≡ false) × SpellsNoToken (text ++ rest)
IsFirst text rest t = IsToken text t × TakesMost text rest

-- a token and the place of its first byte
pub record Spot : Type 0 where
  pub token : Token
  pub at : ℕ

-- the tokens without their places
abbrev pub plain : List Spot → List Token
plain ts = map (λ t. t.token) ts

-- The bytes from the place `at` on have these tokens.
abbrev pub Tokens : ℕ → List ℕ → List Spot → Type 0
Tokens at bytes [] = list_all is_white bytes ≡ true
Tokens at bytes (t ∷ ts) = (white : List ℕ) × (text : List ℕ) × (rest : List ℕ)
    × (bytes ≡ white ++ (text ++ rest)) × (list_all is_white white ≡ true) × IsFirst text rest t.token
    × (t.at ≡ at + length white) × Tokens (at + length white + length text) rest ts
