-- What a run did at each statement of a flowchart, as its drawings show it.
use Rattle.std.specs.Prelude.{ℕ, ◌+◌, ◌-◌, ◌==◌, Bool, true, false, not, ◌&&◌, nat_le, if◌then◌else◌, List, [], ◌∷◌, ◌++◌, length, take, map, filter, codes}
use Rattle.std.specs.List.{list_any}
use Rattle.std.specs.Option.{option_map_or}
use Rattle.std.specs.Fmt.{decimal as number}
use Rattle.scaled_decimal.specs.Decimals.{Decimal}
use Rattle.scaled_decimal.specs.PlainTexts.{plain_text}
use Rattle.pap_tree.specs.Flowchart.{Flowchart}
use Rattle.month_trace.specs.declared.step.TraceStep.{TraceStep}
use Rattle.month_trace.specs.declared.step.TraceStep.TheVariants.{Set, Test, Enter}
use Rattle.statement_list.specs.declared.statement.Form.{Form}
use Rattle.statement_list.specs.declared.statement.Form.TheVariants as form
use Rattle.statement_list.specs.Statements.{Listed, listed_methods}
use Rattle.flowchart_methods.specs.declared.kind.MarkKind.TheVariants.{Run}
use Rattle.flowchart_methods.specs.declared.kind.ExitKind.{ExitKind}
use Rattle.flowchart_methods.specs.declared.kind.ExitKind.TheVariants.{Open, Taken}
use Rattle.flowchart_methods.specs.Marks.{Marked, unmarked}
use Rattle.run_trace.specs.VariableValues.{begin_values}
use Rattle.run_trace.specs.StepLines.{Brackets, brackets, StepPlace, step_place, method_number, listed_at, more_operands, values_behind}
use Rattle.run_trace.specs.RunPages.{place_of, listed_reads, answer_arrow, entries_at_an_end, is_listed}

-- ---- executions

-- an execution of a statement: its number in the run, from 1, the values of the variables before it, and its step
pub record RunStep : Type 0 where
  pub number : ℕ
  pub values : List Decimal
  pub step : TraceStep

-- an execution of these parts
abbrev pub execution : ℕ → List Decimal → TraceStep → RunStep
execution k values s = record { number = k; values = values; step = s }

-- the executions of which some steps tell, from a number and from these values on
abbrev pub executions_from : Flowchart → ℕ → List Decimal → List TraceStep → List RunStep
executions_from f k values [] = []
executions_from f k values (s ∷ steps) = execution k values s ∷ executions_from f (k + 1) (values_behind f values s) steps

-- the executions of a run
abbrev pub executions_of : Flowchart → List Decimal → List TraceStep → List RunStep
executions_of f inputs steps = executions_from f 1 (begin_values f inputs) steps

-- the step is of the statement of this number of the method of this number
abbrev pub is_at : Flowchart → ℕ → ℕ → TraceStep → Bool
is_at f m n s =
    option_map_or (λ k. m == k && n == (place_of s).statement) (method_number f (place_of s).method) false

-- the executions of a statement among others, in order
abbrev pub executions_at : Flowchart → ℕ → ℕ → List RunStep → List RunStep
executions_at f m n es = filter (λ (e : RunStep). is_at f m n e.step) es

-- the step is a test that was answered so
abbrev pub has_answer : Bool → TraceStep → Bool
has_answer way (Set m n x v) = false
has_answer way (Test m n holds) = if way then holds else not holds
has_answer way (Enter m n callee) = false

-- ---- what is told of them

-- nothing before the values that a test reads, and a space behind them
abbrev pub no_brackets : Brackets
no_brackets = brackets [] (codes " ")

-- the values that the test of a place read, and how it was answered
abbrev pub test_mark : Flowchart → List Decimal → StepPlace → Bool → List ℕ
test_mark f values p holds =
    more_operands f values no_brackets false (listed_reads (listed_at f p)) ++ answer_arrow holds

-- what came of a step, given the values before it: the value that it put, or what its test read and how this was answered
abbrev pub step_mark : Flowchart → List Decimal → TraceStep → List ℕ
step_mark f values (Set m n x v) = plain_text v
step_mark f values (Test m n holds) = test_mark f values (step_place m n) holds
step_mark f values (Enter m n callee) = []

-- what came of an execution
abbrev pub execution_mark : Flowchart → RunStep → List ℕ
execution_mark f e = step_mark f e.values e.step

-- how many executions of a statement are told one by one
abbrev pub told_one_by_one : ℕ
told_one_by_one = 3

-- that there are more: N more; nothing where there aren't
abbrev pub more_words : ℕ → List (List ℕ)
more_words count =
    if nat_le count told_one_by_one then [] else (number (count - told_one_by_one) ++ codes " more") ∷ []

-- what came of the executions of a statement: of the first three, and how many more there are
abbrev pub told_marks : Flowchart → List RunStep → List (List ℕ)
told_marks f es = map (execution_mark f) (take told_one_by_one es) ++ more_words (length es)

-- a point at half height between two spaces, in UTF-8
abbrev pub middle_point : List ℕ
middle_point = 0x20 ∷ 0xC2 ∷ 0xB7 ∷ 0x20 ∷ []

-- some texts in one line, the first behind a lead and the others behind points
abbrev pub led_by : List ℕ → List (List ℕ) → List ℕ
led_by lead [] = []
led_by lead (text ∷ texts) = lead ++ (text ++ led_by middle_point texts)

-- the lines below a statement: of an assignment one with its values, of a test one for each answer, of an EXECUTE none
abbrev pub mark_lines : Form → List (List ℕ) → List (List ℕ)
mark_lines (form.Set x) texts = led_by (codes "= ") texts ∷ []
mark_lines form.Test texts = texts
mark_lines (form.Enter m) texts = []

-- ---- marks

-- the entry of the list of the run to which the entry of a number leads, of so many in all: itself, or the last one before those
-- that are left out
abbrev pub entry_shown : ℕ → ℕ → ℕ
entry_shown total k = if is_listed total k then k else entries_at_an_end

-- of an exit of a test, whether the run took it
abbrev pub exit_kind : Bool → ExitKind
exit_kind true = Taken
exit_kind false = Open

-- the mark of a statement of this form with these executions, in a run of so many
abbrev pub mark_of : Flowchart → ℕ → Form → List RunStep → Marked
mark_of f total what [] = unmarked
mark_of f total what (e ∷ es) = record {
  kind = Run (entry_shown total e.number);
  lines = mark_lines what (told_marks f (e ∷ es));
  yes = exit_kind (list_any (λ (x : RunStep). has_answer true x.step) (e ∷ es));
  no = exit_kind (list_any (λ (x : RunStep). has_answer false x.step) (e ∷ es));
}

-- for each item of a list, the first of which has a number, what a function has for its number and for it
abbrev pub by_number : {A B : Type 0} → (ℕ → A → B) → ℕ → List A → List B
by_number of k [] = []
by_number of k (x ∷ xs) = of k x ∷ by_number of (k + 1) xs

-- the marks of all statements of a flowchart with these executions, by their methods and numbers: MAIN first
abbrev pub marks_with : Flowchart → List RunStep → List (List Marked)
marks_with f es =
    by_number (λ m listed. by_number (λ n (s : Listed). mark_of f (length es) s.form (executions_at f m n es)) 0 listed)
    0 (listed_methods f)

-- the marks of a run of these steps
abbrev pub marks_of_run : Flowchart → List Decimal → List TraceStep → List (List Marked)
marks_of_run f inputs steps = marks_with f (executions_of f inputs steps)
