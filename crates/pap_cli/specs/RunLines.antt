-- The lines of a run (docs/USE.md).
use Rattle.std.specs.Prelude.{ℕ, List, [], ◌∷◌, ◌++◌, codes}
use Rattle.std.specs.Fmt.{decimal as number}
use Rattle.scaled_decimal.specs.Decimals.{Decimal}
use Rattle.scaled_decimal.specs.PlainTexts.{plain_text}
use Rattle.pap_tree.specs.Declarations.{Declaration}
use Rattle.plan_answers.specs.Lines.{spaced, line}

-- an output with its value as a plain decimal: NAME VALUE
abbrev pub value_line : List ℕ → Decimal → List ℕ
value_line name value = line (spaced name (plain_text value))

-- a line for each output
abbrev pub value_lines : List Declaration → List Decimal → List ℕ
value_lines (d ∷ ds) (v ∷ vs) = value_line d.name v ++ value_lines ds vs
value_lines _ _ = []

-- the steps of a run: steps N
abbrev pub steps_line : ℕ → List ℕ
steps_line steps = line (codes "steps " ++ number steps)
