-- How a text falls into a sign, digits and what follows them.
use Rattle.std.specs.Prelude.{◌≡◌, ℕ, ◌≤◌, Bool, false, List, [], ◌∷◌, ◌++◌, ⊤}
use Rattle.std.specs.Char.{digit_value}
use Rattle.std.specs.Str.Parse.{AllDigits}
use Rattle.scaled_decimal.specs.NumberTexts.{sign_text}

-- no digit stands first
abbrev pub NoDigitFirst : List ℕ → Type 0
NoDigitFirst [] = ⊤
NoDigitFirst (b ∷ bs) = 10 ≤ digit_value b

abbrev pub NotFirst : ℕ → List ℕ → Type 0
NotFirst byte text = (rest : List ℕ) → text ≡ byte ∷ rest → ⊥

-- a sign, which is there where a - is, and the rest
pub record IsSignSplit (text : List ℕ) (negative : Bool) (rest : List ℕ) : Type 0 where
  pub parts : text ≡ sign_text negative ++ rest
  pub minus : negative ≡ false → NotFirst 45 rest

-- all digits in front, and the rest
pub record IsDigitSplit (text front rest : List ℕ) : Type 0 where
  pub parts : text ≡ front ++ rest
  pub digits : AllDigits 10 front
  pub stops : NoDigitFirst rest
