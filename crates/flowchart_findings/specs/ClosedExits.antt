-- Of which exits of IFs the findings say that no run takes them: exactly of those of reached IFs that aren't open.
use Rattle.std.specs.Prelude.{◌≡◌, ℕ, ◌+◌, Bool, true, false, if◌then◌else◌, List, [], ◌∷◌, ◌++◌, filter, filter_map}
use Rattle.std.specs.BTreeSet.{BTreeSet}
use Rattle.pap_tree.specs.Flowchart.{Body, done, eval, branch, execute, Routine, Flowchart}
use Rattle.pap_tree.specs.Names.{main_name}
use Rattle.pap_tree.specs.Statements.{written}
use Rattle.interval_analysis.specs.Surveys.{StatementPlace, ExitPlace}
use Rattle.flowchart_findings.specs.declared.finding.Finding.{Finding}
use Rattle.flowchart_findings.specs.Findings.{begins_dead, is_dead_in, is_closed_exit}
use Rattle.flowchart_findings.specs.NeverExecuted.{told_exit}

-- the exits of an IF: that where its test holds, and that where it fails
abbrev pub if_exits : List ℕ → ℕ → List ExitPlace
if_exits method at = (method, at, true) ∷ (method, at, false) ∷ []

-- In a method of a name it is known which statements are dead.
module _ (method : List ℕ) (is_dead : ℕ → Bool) where
  -- the exits of the IFs among statements that are numbered from `at`, but for dead IFs and those inside them
  abbrev pub body_exits : ℕ → Body → List ExitPlace
  body_exits at done = []
  body_exits at (eval x e rest) = body_exits (at + 1) rest
  body_exits at (branch t a b rest) =
      (if is_dead at then [] else if_exits method at ++ (body_exits (at + 1) a ++ body_exits (at + 1 + written a) b))
      ++ body_exits (at + 1 + written a + written b) rest
  body_exits at (execute m rest) = body_exits (at + 1) rest

  -- those of a method other than MAIN; one whose first statement is dead has none
  abbrev pub method_exits : Body → List ExitPlace
  method_exits b = if begins_dead is_dead 0 b then [] else body_exits 0 b

-- those of some methods, given the statements that a run may execute
abbrev pub methods_exits : BTreeSet StatementPlace → List Routine → List ExitPlace
methods_exits reached [] = []
methods_exits reached (m ∷ ms) = method_exits m.name (is_dead_in reached m.name) m.body ++ methods_exits reached ms

-- the exits of a flowchart's IFs that a run may execute, given the statements that one may execute, in the order of the text
abbrev pub reached_exits : Flowchart → BTreeSet StatementPlace → List ExitPlace
reached_exits f reached = body_exits main_name (is_dead_in reached main_name) 0 f.main ++ methods_exits reached f.methods

-- The exits that findings say to be never taken are exactly those of reached IFs that aren't open, in the order of the text. Open are those
-- that a run may take.
abbrev pub TellClosedExits : Flowchart → BTreeSet StatementPlace → BTreeSet ExitPlace → List Finding → Type 0
TellClosedExits f reached exits found =
    filter_map told_exit found ≡ filter (is_closed_exit exits) (reached_exits f reached)
