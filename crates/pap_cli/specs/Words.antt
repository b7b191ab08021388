-- The forms of the words (docs/USE.md).
use Rattle.std.specs.Prelude.{◌≡◌, ◌≤◌, ℕ, List, [], ◌∷◌, map, codes, String, string_bytes}
use Rattle.std.specs.Fmt.{decimal as number}
use Rattle.std.specs.declared.alloc.Global.{Global}
use Rattle.payroll_records.specs.declared.values.NamedValue.{NamedValue}
use Rattle.payroll_records.specs.ValueWords.{AreValueWords}
use Rattle.script_run.specs.Limits.{most_employees}

-- the words as their bytes
abbrev pub texts : List (String Global) → List (List ℕ)
texts words = map (λ word. string_bytes word) words

-- what the words ask for
pub data Form : Type 0 where
  -- check PLAN LIMITS
  check : List ℕ → List ℕ → Form
  -- once PLAN LIMITS NAME=VALUE ..
  once : List ℕ → List ℕ → List NamedValue → Form
  -- run
  run : Form
  -- sample N
  sample : ℕ → Form
  -- save
  save : Form

-- the words are `once`, the names of two files, and value words that give these values
pub record HasOnceForm (words : List (List ℕ)) (plan limits : List ℕ) (values : List NamedValue) : Type 0 where
  pub rest : List (List ℕ)
  pub words_are : words ≡ codes "once" ∷ plan ∷ limits ∷ rest
  pub values_are : AreValueWords rest values

-- N in decimal, without leading zeros: from 1 to 200
pub record HasSampleForm (words : List (List ℕ)) (employees : ℕ) : Type 0 where
  pub least : 1 ≤ employees
  pub most : employees ≤ most_employees
  pub words_are : words ≡ codes "sample" ∷ number employees ∷ []

-- the words have this form
abbrev pub HasForm : List (List ℕ) → Form → Type 0
HasForm words (check plan limits) = words ≡ codes "check" ∷ plan ∷ limits ∷ []
HasForm words (once plan limits values) = HasOnceForm words plan limits values
HasForm words run = words ≡ codes "run" ∷ []
HasForm words (sample employees) = HasSampleForm words employees
HasForm words save = words ≡ codes "save" ∷ []

-- the words have no form
abbrev pub IsBad : List (List ℕ) → Type 0
IsBad words = (form : Form) → ¬ (HasForm words form)
