-- Under which condition each statement of a method stands.
use Rattle.std.specs.Prelude.{ℕ, Bool, true, false, Option, Some, None, unwrap_or, List, [], ◌∷◌, ◌++◌, slice_get}
use Rattle.pap_reader.specs.Trees.{RawBody, done, eval, branch, execute}
use Rattle.chart_layout.specs.Statements.{next_number, number_behind, statements_of}
use Rattle.flowchart_methods.specs.declared.conditions.Condition.{Condition}

-- the test of this number holds, or it doesn't
abbrev pub where_test : ℕ → Bool → Option Condition
where_test test holds = Some (record { test = test; holds = holds })

-- the conditions of the statements of a body whose first has a number, in the order of the file: those of a THEN stand where the test
-- of its IF holds, those of an ELSE where it doesn't, and the others where the body stands
abbrev pub conditions_in : Option Condition → ℕ → RawBody → List (Option Condition)
conditions_in here n done = []
conditions_in here n (eval text rest) = here ∷ conditions_in here (next_number n) rest
conditions_in here n (execute name rest) = here ∷ conditions_in here (next_number n) rest
conditions_in here n (branch text a b rest) =
    let in_else = number_behind (next_number n) (statements_of a) in
    here
    ∷ (conditions_in (where_test n true) (next_number n) a
    ++ (conditions_in (where_test n false) in_else b
    ++ conditions_in here (number_behind in_else (statements_of b)) rest))

-- those of a method, by the statements' numbers
abbrev pub conditions_of : RawBody → List (Option Condition)
conditions_of body = conditions_in None 0 body

-- that of the statement of a number, where it stands in a branch
abbrev pub condition_at : List (Option Condition) → ℕ → Option Condition
condition_at conditions number = unwrap_or (slice_get conditions number) None
