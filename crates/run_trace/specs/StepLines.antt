-- The lines of a run's steps.
use Rattle.std.specs.Prelude.{ℕ, ◌+◌, Bool, true, false, ◌||◌, is_some, if◌then◌else◌, List, [], ◌∷◌, ◌++◌, codes, Option, Some, None, slice_get}
use Rattle.std.specs.Option.{option_map, option_and_then}
use Rattle.std.specs.Str.{bytes_eq}
use Rattle.std.specs.Fmt.{decimal as number}
use Rattle.scaled_decimal.specs.Decimals.{Decimal}
use Rattle.scaled_decimal.specs.PlainTexts.{plain_text}
use Rattle.pap_tree.specs.Names.{main_name}
use Rattle.pap_tree.specs.Flowchart.{Flowchart}
use Rattle.pap_types.specs.Scopes.{number_of}
use Rattle.pap_types.specs.Routines.{method_names}
use Rattle.month_trace.specs.declared.step.TraceStep.{TraceStep}
use Rattle.month_trace.specs.declared.step.TraceStep.TheVariants.{Set, Test, Enter}
use Rattle.statement_list.specs.Statements.{Listed, listed_methods}
use Rattle.source_lines.specs.Lines.{FileLines, line_at}
use Rattle.run_trace.specs.VariableValues.{variable_value, with_variable}

-- ---- statements

-- a statement: its method, and its number in it
pub record StepPlace : Type 0 where
  pub method : List ℕ
  pub statement : ℕ

-- the statement of a number of a method
abbrev pub step_place : List ℕ → ℕ → StepPlace
step_place m n = record { method = m; statement = n }

-- the number of a method: 0 is MAIN, and the others are counted from 1 in the order of the text
abbrev pub method_number : Flowchart → List ℕ → Option ℕ
method_number f m =
    if bytes_eq m main_name then Some 0 else option_map (λ k. k + 1) (number_of (method_names f.methods) m)

-- the statement of a place
abbrev pub listed_at : Flowchart → StepPlace → Option Listed
listed_at f p =
    option_and_then (λ k. option_and_then (λ l. slice_get l p.statement) (slice_get (listed_methods f) k))
    (method_number f p.method)

-- the line of the file on which it begins
abbrev pub source_line : Flowchart → FileLines → StepPlace → Option ℕ
source_line f lines p = option_and_then (λ k. line_at lines k p.statement) (method_number f p.method)

-- ---- the values that it reads

-- the value of a variable, behind what opens the values or a comma
abbrev pub operand_text : List ℕ → List ℕ → Bool → Option Decimal → List ℕ
operand_text opening x is_open None = []
operand_text opening x true (Some v) = codes ", " ++ (x ++ (codes " = " ++ plain_text v))
operand_text opening x false (Some v) = opening ++ (x ++ (codes " = " ++ plain_text v))

-- what opens some values, and what closes them
pub record Brackets : Type 0 where
  pub opening : List ℕ
  pub closing : List ℕ

-- these two
abbrev pub brackets : List ℕ → List ℕ → Brackets
brackets opening closing = record { opening = opening; closing = closing }

-- the values of the variables among some names, as NAME = VALUE with commas between, and behind them what closes them
abbrev pub more_operands : Flowchart → List Decimal → Brackets → Bool → List (List ℕ) → List ℕ
more_operands f values b is_open [] = if is_open then b.closing else []
more_operands f values b is_open (x ∷ xs) =
    operand_text b.opening x is_open (variable_value f values x)
    ++ more_operands f values b (is_open || is_some (variable_value f values x)) xs

-- round brackets, two spaces before them
abbrev pub round_brackets : Brackets
round_brackets = brackets (codes "  (") (codes ")")

-- the values in round brackets; nothing where none is a variable's
abbrev pub told_operands : Flowchart → List Decimal → List (List ℕ) → List ℕ
told_operands f values xs = more_operands f values round_brackets false xs

-- ---- lines

-- the line of the file, as line N
abbrev pub line_words : Option ℕ → List ℕ
line_words None = []
line_words (Some n) = codes "line " ++ (number n ++ codes "  ")

-- METHOD:N and the line of the file
abbrev pub place_words : Flowchart → FileLines → StepPlace → List ℕ
place_words f lines p =
    p.method ++ (codes ":" ++ (number p.statement ++ (codes "  " ++ line_words (source_line f lines p))))

-- an expression, what is told behind it, and the values of the variables that it reads
abbrev pub listed_words : Flowchart → List Decimal → List ℕ → Option Listed → List ℕ
listed_words f values behind None = behind
listed_words f values behind (Some s) = s.text ++ (behind ++ told_operands f values s.reads)

-- the line of a place, with what is told of it before its expression and behind it
abbrev pub told_line : Flowchart → FileLines → List Decimal → StepPlace → List ℕ → List ℕ → List ℕ
told_line f lines values p before behind =
    place_words f lines p ++ (before ++ (listed_words f values behind (listed_at f p) ++ codes "\n"))

-- how a test is answered
abbrev pub answer_words : Bool → List ℕ
answer_words true = codes " -> yes"
answer_words false = codes " -> no"

-- the line of a step, given the values before it: METHOD:N, the line of the file, and
--   set NAME = VALUE  by EXPRESSION, TEST -> yes or no, or execute METHOD
abbrev pub traced_line : Flowchart → FileLines → List Decimal → TraceStep → List ℕ
traced_line f lines values (Set m n x v) =
    told_line f lines values (step_place m n) (codes "set " ++ (x ++ (codes " = " ++ (plain_text v ++ codes "  by ")))) []
traced_line f lines values (Test m n holds) = told_line f lines values (step_place m n) [] (answer_words holds)
traced_line f lines values (Enter m n callee) =
    told_line f lines values (step_place m n) (codes "execute " ++ callee) []

-- the values behind a step
abbrev pub values_behind : Flowchart → List Decimal → TraceStep → List Decimal
values_behind f values (Set m n x v) = with_variable f values x v
values_behind f values (Test m n holds) = values
values_behind f values (Enter m n callee) = values

-- a line for each step, in order, from these values on
abbrev pub traced_lines : Flowchart → FileLines → List Decimal → List TraceStep → List ℕ
traced_lines f lines values [] = []
traced_lines f lines values (s ∷ steps) =
    traced_line f lines values s ++ traced_lines f lines (values_behind f values s) steps
