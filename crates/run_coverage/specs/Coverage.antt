-- How many runs came to each statement of a flowchart, and how many took each exit of its tests.
use Rattle.std.specs.Prelude.{ℕ, ◌+◌, ◌==◌, Bool, false, not, ◌&&◌, if◌then◌else◌, List, [], ◌∷◌, map, count_by, Option, Some}
use Rattle.std.specs.List.{list_any, range_with_len}
use Rattle.std.specs.Option.{option_map, option_map_or}
use Rattle.std.specs.Str.{bytes_eq}
use Rattle.pap_tree.specs.Names.{main_name}
use Rattle.pap_tree.specs.Flowchart.{Flowchart}
use Rattle.pap_types.specs.Scopes.{number_of}
use Rattle.pap_types.specs.Routines.{method_names}
use Rattle.month_trace.specs.declared.step.TraceStep.{TraceStep}
use Rattle.month_trace.specs.declared.step.TraceStep.TheVariants.{Set, Test, Enter}
use Rattle.run_coverage.specs.declared.runs.StatementRuns.{StatementRuns}

-- ---- the statement of a step

-- the method of a step's statement
abbrev pub step_name : TraceStep → List ℕ
step_name (Set m n x v) = m
step_name (Test m n holds) = m
step_name (Enter m n callee) = m

-- the number of a step's statement in its method
abbrev pub step_statement : TraceStep → ℕ
step_statement (Set m n x v) = n
step_statement (Test m n holds) = n
step_statement (Enter m n callee) = n

-- the number of a method: 0 is MAIN, and the others are counted from 1 in the order of the text
abbrev pub numbered : Flowchart → List ℕ → Option ℕ
numbered f m = if bytes_eq m main_name then Some 0 else option_map (λ k. k + 1) (number_of (method_names f.methods) m)

-- the number of the method of a step's statement
abbrev pub step_method : Flowchart → TraceStep → Option ℕ
step_method f s = numbered f (step_name s)

-- the step is of the statement of this number of the method of this number
abbrev pub is_step_of : Flowchart → ℕ → ℕ → TraceStep → Bool
is_step_of f m n s = option_map_or (λ k. m == k && n == step_statement s) (step_method f s) false

-- the step is a test that holds
abbrev pub is_yes : TraceStep → Bool
is_yes (Set m n x v) = false
is_yes (Test m n holds) = holds
is_yes (Enter m n callee) = false

-- the step is a test that doesn't hold
abbrev pub is_no : TraceStep → Bool
is_no (Set m n x v) = false
is_no (Test m n holds) = not holds
is_no (Enter m n callee) = false

-- ---- counts

-- how many of these traces have such a step
abbrev pub traces_with : (TraceStep → Bool) → List (List TraceStep) → ℕ
traces_with is traces = count_by (λ steps. list_any is steps) traces

-- how many of these traces have the statement, and how many have it with each answer
abbrev pub statement_runs : Flowchart → List (List TraceStep) → ℕ → ℕ → StatementRuns
statement_runs f traces m n = record {
  runs = traces_with (is_step_of f m n) traces;
  yes = traces_with (λ s. is_step_of f m n s && is_yes s) traces;
  no = traces_with (λ s. is_step_of f m n s && is_no s) traces;
}

-- for each statement of methods with so many statements, from the method of a number on, what a function has for it
abbrev pub by_statement : {A : Type 0} → (ℕ → ℕ → A) → ℕ → List ℕ → List (List A)
by_statement of m [] = []
by_statement of m (count ∷ counts) = map (of m) (range_with_len 0 count) ∷ by_statement of (m + 1) counts

-- what these traces cover of methods with so many statements: MAIN first, and then the others in the order of the text
abbrev pub coverage_of : Flowchart → List ℕ → List (List TraceStep) → List (List StatementRuns)
coverage_of f counts traces = by_statement (statement_runs f traces) 0 counts
