-- How a text falls into its first token and the rest.
use Rattle.std.specs.Prelude.{◌≡◌, ℕ, ◌<◌, Bool, true, false, not, ◌==◌, ◌&&◌, List, [], ◌∷◌, ◌++◌, length, ⊤}
use Rattle.std.specs.List.{list_all}
use Rattle.std.specs.Char.{is_ascii_digit}
use Rattle.std.specs.Str.Parse.{digits_value}
use Rattle.pap_tree.specs.White.{is_white}
use Rattle.pap_tree.specs.Names.{is_word}
use Rattle.pap_tree.specs.Words.{operator_text}
use Rattle.pap_tree.specs.declared.expression.Binary.{Binary}
use Rattle.pap_tree.specs.Tokens.{Token, Alien, IsNumeral, IsToken, IsFirst}

-- the token is the first of the bytes, and the rest follows it
pub record Begins (bytes : List ℕ) (t : Token) (rest : List ℕ) : Type 0 where
  pub text : List ℕ
  pub parts : bytes ≡ text ++ rest
  pub first : IsFirst text rest t

-- the first byte passes the test
abbrev pub First : (ℕ → Bool) → List ℕ → Type 0
First p [] = ⊥
First p (b ∷ bs) = p b ≡ true

-- no byte stands first that passes the test
abbrev pub Stops : (ℕ → Bool) → List ℕ → Type 0
Stops p [] = ⊤
Stops p (b ∷ bs) = p b ≡ false

-- the longest prefix of the bytes that passes the test, and the rest
pub record IsLongest (p : ℕ → Bool) (bytes front rest : List ℕ) : Type 0 where
  pub parts : bytes ≡ front ++ rest
  pub passes : list_all p front ≡ true
  pub stops : Stops p rest

abbrev pub NotFirst : ℕ → List ℕ → Type 0
NotFirst byte bytes = (rest : List ℕ) → bytes ≡ byte ∷ rest → ⊥

-- the longest numeral in front, and the rest
pub record IsNumeralSplit (bytes front rest : List ℕ) : Type 0 where
  pub parts : bytes ≡ front ++ rest
  pub numeral : IsNumeral front (digits_value 10 front)
  pub most : (more left : List ℕ) (n : ℕ) →
      rest ≡ more ++ left → IsNumeral (front ++ more) n → more ≡ []

-- the rest follows a point and all digits after it
pub record IsAfterPlaces (bytes rest : List ℕ) : Type 0 where
  pub places : List ℕ
  pub parts : bytes ≡ 46 ∷ (places ++ rest)
  pub some : 0 < length places
  pub digits : IsLongest is_ascii_digit (places ++ rest) places rest

-- no point with a digit after it
abbrev pub NoPlaces : List ℕ → Type 0
NoPlaces bytes = (fraction : List ℕ) → bytes ≡ 46 ∷ fraction → Stops is_ascii_digit fraction

abbrev pub is_no_quote : ℕ → Bool
is_no_quote b = not (b == 34)

-- a byte that begins no white space, no word, no number and no string
abbrev pub is_sign_byte : ℕ → Bool
is_sign_byte b = not (is_white b) && not (is_word b) && is_no_quote b

-- no operator has these two bytes
abbrev pub IsNoPair : ℕ → ℕ → Type 0
IsNoPair a b = (o : Binary) → operator_text o ≡ a ∷ b ∷ [] → ⊥

-- the sign or operator of one byte, or none
abbrev pub IsSingle : ℕ → Token → Type 0
IsSingle b Alien = (t : Token) → IsToken (b ∷ []) t → ⊥
IsSingle b t = IsToken (b ∷ []) t
