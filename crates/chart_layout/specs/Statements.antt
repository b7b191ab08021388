-- The statements of a method as they stand in a plan's file, and what is drawn for each.
use Rattle.std.specs.Prelude.{◌≡◌, ℕ, ◌+◌, ◌-◌, ◌^◌, ◌⊎◌, min, nat_eq, Bool, Option, Some, List, [], ◌∷◌, ◌++◌, codes, ⊤}
use Rattle.std.specs.Option.{option_eq}
use Rattle.pap_tree.specs.Grammar.{Line, Level, Assignment, LineMeaning, tree, assignment}
use Rattle.pap_tree.specs.Spelling.{spelling}
use Rattle.pap_tree.specs.Stopping.{Cause}
use Rattle.pap_tree.specs.Expressions.{IsAccepted, IsWrong}
use Rattle.pap_reader.specs.Trees.{RawBody, done, eval, branch, execute}
use Rattle.chart_layout.specs.Drawn.{Drawn}

-- a statement of the file: the text of its expression, with the line of the grammar that it is read by, or the name of the
-- method that it executes
pub data FileStatement : Type 0 where
  expression : Line → List ℕ → FileStatement
  execution : List ℕ → FileStatement

-- the statements of a body in the order of the file: a test, its THEN, its ELSE
abbrev pub statements_of : RawBody → List FileStatement
statements_of done = []
statements_of (eval text rest) = expression Assignment text ∷ statements_of rest
statements_of (branch text a b rest) =
    expression (Level 0) text ∷ (statements_of a ++ (statements_of b ++ statements_of rest))
statements_of (execute name rest) = execution name ∷ statements_of rest

-- the canonical spelling of what a text stands for
abbrev pub meaning_text : LineMeaning → List ℕ
meaning_text (tree term) = spelling term
meaning_text (assignment name term) = name ++ (codes " = " ++ spelling term)
meaning_text _ = []

-- an expression is drawn in its canonical spelling, and a text that isn't an expression as it is written
abbrev pub IsSpelledAs : Line → List ℕ → List ℕ → Type 0
IsSpelledAs line written text =
    ((x : LineMeaning) × IsAccepted line written x × (text ≡ meaning_text x))
    ⊎ ((cause : Cause) × (at : ℕ) × IsWrong line written cause at × (text ≡ written))

-- the text is what is drawn for the statement: the expression in its canonical spelling, or the name that an EXECUTE
-- has
abbrev pub IsDrawnAs : FileStatement → List ℕ → Type 0
IsDrawnAs (expression line written) text = IsSpelledAs line written text
IsDrawnAs (execution name) text = text ≡ name

-- the number behind one; the numbers stop at the greatest of 32 bits
abbrev pub next_number : ℕ → ℕ
next_number number = min (number + 1) (2 ^ 32 - 1)

-- the number behind some statements, the first of which has one
abbrev pub number_behind : ℕ → List FileStatement → ℕ
number_behind number [] = number
number_behind number (s ∷ ss) = number_behind (next_number number) ss

-- whether the refused statement has this number
abbrev pub is_number : Option ℕ → ℕ → Bool
is_number refused number = option_eq nat_eq refused (Some number)

-- each statement is drawn, in the same order, with its number, and marked exactly where that is the refused one's
abbrev pub AreDrawn : Option ℕ → ℕ → List FileStatement → List Drawn → Type 0
AreDrawn refused number [] [] = ⊤
AreDrawn refused number (s ∷ ss) (d ∷ ds) =
    (d.number ≡ number) × (d.is_refused ≡ is_number refused number) × IsDrawnAs s d.text
    × AreDrawn refused (next_number number) ss ds
AreDrawn _ _ _ _ = ⊥
