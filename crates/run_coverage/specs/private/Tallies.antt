-- Tallies, as they are counted.
use Rattle.std.specs.Prelude.{ℕ, zero, suc, ◌+◌, nat_lt, Bool, if◌then◌else◌, List, [], ◌∷◌, map}
use Rattle.std.specs.List.{fold, range_with_len}
use Rattle.std.specs.Option.{option_map_or}
use Rattle.pap_tree.specs.Flowchart.{Flowchart}
use Rattle.month_trace.specs.declared.step.TraceStep.{TraceStep}
use Rattle.run_coverage.specs.declared.runs.StatementRuns.{StatementRuns}
use Rattle.run_coverage.specs.declared.statement.StatementTally.{StatementTally}
use Rattle.run_coverage.specs.private.TallyStates.{TallyState}
use Rattle.run_coverage.specs.Coverage.{step_method, step_statement, is_yes, is_no}

-- no runs
abbrev pub no_tally : TallyState
no_tally = record { runs = 0; last = 0 }

-- a tally with the run of a number, which counts once
abbrev pub with_run : ℕ → TallyState → TallyState
with_run run t = if nat_lt t.last run then record { runs = t.runs + 1; last = run } else t

-- a tally with the run of a number where it hits
abbrev pub hit : Bool → ℕ → TallyState → TallyState
hit hits run t = if hits then with_run run t else t

-- no runs at a statement
abbrev pub no_statement : StatementTally
no_statement = record { all = no_tally; yes = no_tally; no = no_tally }

-- no runs at so many statements
abbrev pub no_statements : ℕ → List StatementTally
no_statements count = map (λ n. no_statement) (range_with_len 0 count)

-- a statement's tallies with a step of the run of a number
abbrev pub with_step : ℕ → TraceStep → StatementTally → StatementTally
with_step run s t = record {
  all = with_run run t.all;
  yes = hit (is_yes s) run t.yes;
  no = hit (is_no s) run t.no;
}

-- a list with one of its items changed; itself where it has no such item
abbrev pub touched : {A : Type 0} → ℕ → (A → A) → List A → List A
touched n g [] = []
touched zero g (x ∷ xs) = g x ∷ xs
touched (suc n) g (x ∷ xs) = x ∷ touched n g xs

-- the tallies of all statements with a step of the run of a number
abbrev pub after_step : Flowchart → ℕ → List (List StatementTally) → TraceStep → List (List StatementTally)
after_step f run methods s =
    option_map_or (λ m. touched m (touched (step_statement s) (with_step run s)) methods) (step_method f s) methods

-- the tallies of all statements, and the number of the last run
pub record BoardState : Type 0 where
  pub run : ℕ
  pub methods : List (List StatementTally)

-- tallies after the run of a number
abbrev pub board_state : ℕ → List (List StatementTally) → BoardState
board_state run methods = record { run = run; methods = methods }

-- the same with one run more
abbrev pub after_trace : Flowchart → BoardState → List TraceStep → BoardState
after_trace f b steps = record { run = b.run + 1; methods = fold (after_step f (b.run + 1)) b.methods steps }

-- how many runs came to a statement, and how many took each exit
abbrev pub runs_in : StatementTally → StatementRuns
runs_in t = record { runs = t.all.runs; yes = t.yes.runs; no = t.no.runs }
