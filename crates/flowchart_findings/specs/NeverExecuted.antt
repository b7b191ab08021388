-- What a finding says of the runs of a flowchart.
use Rattle.std.specs.Prelude.{◌≢◌, true, false, List, All, Option, Some, None, IfSome}
use Rattle.std.specs.Option.{option_map}
use Rattle.scaled_decimal.specs.Decimals.{Decimal}
use Rattle.pap_tree.specs.Flowchart.{Flowchart}
use Rattle.pap_types.specs.Scopes.{scope_of}
use Rattle.interval_walk.specs.Visits.{Execution, RunExecutes, TakesExit}
use Rattle.interval_analysis.specs.Surveys.{StatementPlace, ExitPlace, exit_statement}
use Rattle.flowchart_findings.specs.declared.finding.Finding.{Finding}
use Rattle.flowchart_findings.specs.declared.finding.Finding.TheVariants.{Unread, Unassigned, DeadMethod, DeadStatement, UnusedValue, NeverTrue, NeverFalse, LongCarry}

-- ---- statements

-- the statement of which a finding says that no run executes it: a dead one, the first of a dead method, or the first of the list of an
-- IF that is never taken, where it has one
abbrev pub idle_place : Finding → Option StatementPlace
idle_place (Unread site) = None
idle_place (Unassigned site) = None
idle_place (DeadMethod method number) = Some (method, 0)
idle_place (DeadStatement site) = Some (site.method, site.statement)
idle_place (UnusedValue site x) = None
idle_place (NeverTrue site first) = option_map (λ at. (site.method, at)) first
idle_place (NeverFalse site first) = option_map (λ at. (site.method, at)) first
idle_place (LongCarry site input places takes) = None

-- the run on these inputs never executes the statement
abbrev pub IsNeverExecuted : Flowchart → List Decimal → StatementPlace → Type 0
IsNeverExecuted f inputs p = (x : Execution) → RunExecutes f inputs x → (x.method, x.number) ≢ p

-- the run on these inputs executes no statement that one of the findings says to be idle
abbrev pub AreNeverExecuted : Flowchart → List Decimal → List Finding → Type 0
AreNeverExecuted f inputs found = All (λ d. IfSome (idle_place d) (IsNeverExecuted f inputs)) found

-- ---- exits of IFs

-- the exit of an IF of which a finding says that no run takes it
abbrev pub told_exit : Finding → Option ExitPlace
told_exit (Unread site) = None
told_exit (Unassigned site) = None
told_exit (DeadMethod method number) = None
told_exit (DeadStatement site) = None
told_exit (UnusedValue site x) = None
told_exit (NeverTrue site first) = Some (site.method, site.statement, true)
told_exit (NeverFalse site first) = Some (site.method, site.statement, false)
told_exit (LongCarry site input places takes) = None

-- the run on these inputs never takes the exit
abbrev pub IsNeverTaken : Flowchart → List Decimal → ExitPlace → Type 0
IsNeverTaken f inputs q =
    (x : Execution) → RunExecutes f inputs x → TakesExit (scope_of f) x.statement x.variables q.2
    → (x.method, x.number) ≢ exit_statement q

-- the run on these inputs takes no exit that one of the findings says to be never taken
abbrev pub AreNeverTaken : Flowchart → List Decimal → List Finding → Type 0
AreNeverTaken f inputs found = All (λ d. IfSome (told_exit d) (IsNeverTaken f inputs)) found
