-- The forms of the words.
use Rattle.std.specs.Prelude.{◌≡◌, ◌≤◌, ℕ, List, [], ◌∷◌, map, codes, Option, Some, None, String, string_bytes}
use Rattle.std.specs.Option.{ForSome}
use Rattle.std.specs.Fmt.{decimal as number}
use Rattle.std.specs.declared.alloc.Global.{Global}
use Rattle.payroll_records.specs.declared.values.NamedValue.{NamedValue}
use Rattle.payroll_records.specs.ValueWords.{AreValueWords}

-- the words as their bytes
abbrev pub texts : List (String Global) → List (List ℕ)
texts words = map (λ word. string_bytes word) words

-- in which form a comparison is written
pub data Medium : Type 0 where
  -- as a text for a terminal
  as_text : Medium
  -- as a page of HTML
  as_page : Medium

-- the files that are compared
pub data NamedPlans : Type 0 where
  -- OLD NEW
  two_plans : (old new : List ℕ) → NamedPlans
  -- OLD OLD_LIMITS NEW NEW_LIMITS
  with_limits : (old old_limits new new_limits : List ℕ) → NamedPlans

-- what the words ask for
pub data Form : Type 0 where
  -- chart PLAN
  chart : List ℕ → Form
  -- chart PLAN LIMITS
  chart_within : List ℕ → List ℕ → Form
  -- ranges PLAN
  ranges : List ℕ → Form
  -- compare OLD NEW, compare OLD OLD_LIMITS NEW NEW_LIMITS, or either behind the word `text`
  compared : Medium → NamedPlans → Form
  -- text trace PLAN LIMITS NAME=VALUE ..
  traced : List ℕ → List ℕ → List NamedValue → Form
  -- trace PLAN LIMITS NAME=VALUE ..
  drawn : List ℕ → List ℕ → List NamedValue → Form
  -- example PLAN LIMITS
  example : List ℕ → List ℕ → Form
  -- lint PLAN LIMITS
  linted : List ℕ → List ℕ → Form
  -- cover PLAN LIMITS TABLE, or with --at-least N, or either behind the word `text`
  covered : Medium → List ℕ → List ℕ → List ℕ → Option ℕ → Form

-- the words are `text trace`, the names of two files, and value words that give these values
pub record HasTraceForm (words : List (List ℕ)) (plan limits : List ℕ) (values : List NamedValue) : Type 0 where
  pub rest : List (List ℕ)
  pub words_are : words ≡ codes "text" ∷ codes "trace" ∷ plan ∷ limits ∷ rest
  pub values_are : AreValueWords rest values

-- the words are `trace`, the names of two files, and value words that give these values
pub record HasDrawnForm (words : List (List ℕ)) (plan limits : List ℕ) (values : List NamedValue) : Type 0 where
  pub rest : List (List ℕ)
  pub words_are : words ≡ codes "trace" ∷ plan ∷ limits ∷ rest
  pub values_are : AreValueWords rest values

-- the words for the least share in percent, where one is asked for: a number in decimal without leading zeros
abbrev pub least_words : Option ℕ → List (List ℕ)
least_words None = []
least_words (Some least) = codes "--at-least" ∷ number least ∷ []

-- names behind the words for what runs cover
abbrev pub behind_cover : Medium → List (List ℕ) → List (List ℕ)
behind_cover as_text names = codes "text" ∷ codes "cover" ∷ names
behind_cover as_page names = codes "cover" ∷ names

-- the words are those for what runs cover, the names of three files, and the least share, where one is asked for
pub record HasCoverForm (words : List (List ℕ)) (medium : Medium) (plan limits table : List ℕ) (least : Option ℕ) : Type 0 where
  pub words_are : words ≡ behind_cover medium (plan ∷ limits ∷ table ∷ least_words least)
  pub percent : ForSome least (λ n. n ≤ 100)

-- the names of the files that are compared
abbrev pub plan_names : NamedPlans → List (List ℕ)
plan_names (two_plans old new) = old ∷ new ∷ []
plan_names (with_limits old old_limits new new_limits) = old ∷ old_limits ∷ new ∷ new_limits ∷ []

-- names behind the words for a comparison
abbrev pub behind_compare : Medium → List (List ℕ) → List (List ℕ)
behind_compare as_text names = codes "text" ∷ codes "compare" ∷ names
behind_compare as_page names = codes "compare" ∷ names

-- the words have this form
abbrev pub HasForm : List (List ℕ) → Form → Type 0
HasForm words (chart plan) = words ≡ codes "chart" ∷ plan ∷ []
HasForm words (chart_within plan limits) = words ≡ codes "chart" ∷ plan ∷ limits ∷ []
HasForm words (ranges plan) = words ≡ codes "ranges" ∷ plan ∷ []
HasForm words (compared medium plans) = words ≡ behind_compare medium (plan_names plans)
HasForm words (traced plan limits values) = HasTraceForm words plan limits values
HasForm words (drawn plan limits values) = HasDrawnForm words plan limits values
HasForm words (example plan limits) = words ≡ codes "example" ∷ plan ∷ limits ∷ []
HasForm words (linted plan limits) = words ≡ codes "lint" ∷ plan ∷ limits ∷ []
HasForm words (covered medium plan limits table least) = HasCoverForm words medium plan limits table least

-- the words have no form
abbrev pub IsBad : List (List ℕ) → Type 0
IsBad words = (form : Form) → ¬ (HasForm words form)
