-- The first word that gives no value.
use Rattle.std.specs.Prelude.{◌≡◌, ℕ, List, ◌∷◌, ◌++◌, All}
use Rattle.payroll_records.specs.declared.values.NamedValue.{NamedValue}
use Rattle.payroll_records.specs.ValueWords.{IsValueWord}

-- the word is of the form NAME=VALUE, with a name and a number
abbrev pub GivesValue : List ℕ → Type 0
GivesValue word = (v : NamedValue) × IsValueWord word v

-- the word is the first of these that gives no value: those before it all give one
pub record IsFirstWithoutValue (words : List (List ℕ)) (word : List ℕ) : Type 0 where
  pub before : List (List ℕ)
  pub after : List (List ℕ)
  pub parts : words ≡ before ++ word ∷ after
  pub give : All GivesValue before
  pub none : ¬ (GivesValue word)
