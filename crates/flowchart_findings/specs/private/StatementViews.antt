-- The findings of a method's statements, as they are added.
use Rattle.std.specs.Prelude.{◌≡◌, ℕ, ◌+◌, Bool, false, List, ◌++◌, Result, Ok, Err, ⊤}
use Rattle.std.specs.declared.alloc.AllocError.{AllocError}
use Rattle.pap_tree.specs.Flowchart.{Body}
use Rattle.pap_tree.specs.Statements.{written}
use Rattle.flowchart_findings.specs.declared.finding.Finding.{Finding}
use Rattle.flowchart_findings.specs.declared.finding.StatementSite.{StatementSite}
use Rattle.flowchart_findings.specs.declared.statements.Inspection.{Inspection}
use Rattle.flowchart_findings.specs.Findings.{MethodFacts, known_site, dead_findings, value_findings, never_true_findings, never_false_findings, test_findings, body_findings, method_findings, method_facts}
use Rattle.flowchart_findings.specs.private.SetViews.{unused_by}

-- what is known of the method
abbrev pub facts_in : Inspection → MethodFacts
facts_in i = method_facts i.reached.now i.exits.now (unused_by i.names.now) i.method i.method_number

-- no run executes the statement of a number
abbrev pub dead_in : Inspection → ℕ → Bool
dead_in i = (facts_in i).is_dead

-- no run takes that exit of the IF of a number
abbrev pub closed_in : Inspection → ℕ → (holds : Bool) → Bool
closed_in i = (facts_in i).is_closed

-- the statement of a number
abbrev pub site_in : Inspection → ℕ → StatementSite
site_in i = known_site (facts_in i)

-- the parts of the findings
abbrev pub dead_found : Inspection → ℕ → Bool → List Finding
dead_found i = dead_findings (facts_in i)

abbrev pub value_found : Inspection → List ℕ → ℕ → List Finding
value_found i = value_findings (facts_in i)

abbrev pub tests_found : Inspection → ℕ → Body → ℕ → Body → List Finding
tests_found i = test_findings (facts_in i)

abbrev pub never_true_found : Inspection → ℕ → ℕ → Body → List Finding
never_true_found i = never_true_findings (facts_in i)

abbrev pub never_false_found : Inspection → ℕ → ℕ → Body → List Finding
never_false_found i = never_false_findings (facts_in i)

abbrev pub found_in : Inspection → ℕ → Bool → Body → List Finding
found_in i = body_findings (facts_in i)

abbrev pub found_inside : Inspection → ℕ → Body → Body → List Finding
found_inside i at a b =
    tests_found i at a (at + 1 + written a) b ++ (found_in i (at + 1) false a ++ found_in i (at + 1 + written a) false b)

-- the findings are added, and the number is the one behind the statements
pub record AddsFindings (more before after : List Finding) (next behind : ℕ) : Type 0 where
  pub added : after ≡ before ++ more
  pub number : next ≡ behind

-- those of a list of statements are
abbrev pub FindsInBody : Inspection → ℕ → Bool → Body → List Finding → List Finding → Result ℕ AllocError → Type 0
FindsInBody i at is_behind_dead b before after (Ok next) =
    AddsFindings (found_in i at is_behind_dead b) before after next (at + written b)
FindsInBody i at is_behind_dead b before after (Err e) = ⊤

-- those of an IF that may be executed are
abbrev pub FindsInBranches : Inspection → ℕ → Body → Body → List Finding → List Finding → Result ℕ AllocError → Type 0
FindsInBranches i at a b before after (Ok next) =
    AddsFindings (found_inside i at a b) before after next (at + 1 + written a + written b)
FindsInBranches i at a b before after (Err e) = ⊤

-- those of a method are
abbrev pub FindsInMethod : Inspection → Body → List Finding → List Finding → Type 0
FindsInMethod i b before after =
    after ≡ before ++ method_findings (facts_in i) b
