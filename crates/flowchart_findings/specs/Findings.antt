-- What the author of a flowchart may want to change. Which statements are dead and which exits of IFs are never taken is known from the
-- ranges of the inputs; which names nothing reads or assigns, from the text alone.
use Rattle.std.specs.Prelude.{ℕ, ◌+◌, Bool, true, false, not, ◌&&◌, if◌then◌else◌, List, [], ◌∷◌, ◌++◌, Option, Some, None}
use Rattle.std.specs.BTreeSet.{BTreeSet, contains}
use Rattle.pap_tree.specs.Declarations.{Declaration}
use Rattle.pap_tree.specs.Flowchart.{Body, done, eval, branch, execute, Routine, Flowchart}
use Rattle.pap_tree.specs.Names.{main_name}
use Rattle.pap_tree.specs.Statements.{written}
use Rattle.interval_analysis.specs.Surveys.{StatementPlace, place_cmp, ExitPlace, exit_cmp}
use Rattle.flowchart_findings.specs.declared.finding.Group.{Group}
use Rattle.flowchart_findings.specs.declared.finding.Group.TheVariants.{Input, Output, Internal, Constant}
use Rattle.flowchart_findings.specs.declared.finding.DeclarationSite.{DeclarationSite}
use Rattle.flowchart_findings.specs.declared.finding.StatementSite.{StatementSite}
use Rattle.flowchart_findings.specs.declared.finding.Finding.{Finding}
use Rattle.flowchart_findings.specs.declared.finding.Finding.TheVariants.{Unread, Unassigned, DeadMethod, DeadStatement, UnusedValue, NeverTrue, NeverFalse}
use Rattle.flowchart_findings.specs.Uses.{is_read, is_assigned, is_unused}

-- ---- declarations

-- what is declared there is of use only to expressions; an output is written out besides
abbrev pub serves_expressions : Group → Bool
serves_expressions Input = true
serves_expressions Output = false
serves_expressions Internal = true
serves_expressions Constant = true

-- what is declared there is to get its values from EVALs
abbrev pub is_for_assignment : Group → Bool
is_for_assignment Input = false
is_for_assignment Output = true
is_for_assignment Internal = true
is_for_assignment Constant = false

-- a declaration of use only to expressions whose name is in none
abbrev pub is_unread : (List ℕ → Bool) → DeclarationSite → Bool
is_unread is_read site = serves_expressions site.group && not (is_read site.name)

-- a declaration that is to be assigned, and never is
abbrev pub is_unassigned : (List ℕ → Bool) → DeclarationSite → Bool
is_unassigned is_assigned site = is_for_assignment site.group && not (is_assigned site.name)

-- the declaration of a number
abbrev pub declaration_site : Group → ℕ → Declaration → DeclarationSite
declaration_site group number d = record { group = group; number = number; name = d.name }

module _ (is_read is_assigned : List ℕ → Bool) where
  -- the finding of a declaration, if it has one: that nothing reads it goes before that nothing assigns it
  abbrev pub declaration_finding : DeclarationSite → List Finding
  declaration_finding site =
      if is_unread is_read site then Unread site ∷ []
      else if is_unassigned is_assigned site then Unassigned site ∷ []
      else []

  -- the findings of declarations that are numbered from `number`
  abbrev pub declaration_findings : Group → ℕ → List Declaration → List Finding
  declaration_findings group number [] = []
  declaration_findings group number (d ∷ ds) =
      declaration_finding (declaration_site group number d) ++ declaration_findings group (number + 1) ds

  -- those of all declarations of a flowchart
  abbrev pub declared_findings : Flowchart → List Finding
  declared_findings f =
      declaration_findings Input 0 f.inputs
      ++ (declaration_findings Output 0 f.outputs
      ++ (declaration_findings Internal 0 f.internals ++ declaration_findings Constant 0 f.constants))

-- ---- statements

-- a statement of a method: MAIN has number 0, and the others are counted from 1
abbrev pub statement_site : List ℕ → ℕ → ℕ → StatementSite
statement_site method number at = record { method = method; method_number = number; statement = at }

-- the first statement of a list is dead, where it has one; it has the number `at`
abbrev pub begins_dead : (ℕ → Bool) → ℕ → Body → Bool
begins_dead is_dead at done = false
begins_dead is_dead at (eval x e rest) = is_dead at
begins_dead is_dead at (branch t a b rest) = is_dead at
begins_dead is_dead at (execute m rest) = is_dead at

-- the number `at` of the first statement of a list, where it has one and that is dead
abbrev pub dead_first : (ℕ → Bool) → ℕ → Body → Option ℕ
dead_first is_dead at b = if begins_dead is_dead at b then Some at else None

-- what is known of a method of a name and a number: which of its statements no run executes, which exits of its IFs no run takes, by
-- whether the test holds there, and which names are assigned in vain
pub record MethodFacts : Type 0 where
  pub name : List ℕ
  pub number : ℕ
  pub is_dead : ℕ → Bool
  pub is_closed : ℕ → (holds : Bool) → Bool
  pub is_unused : List ℕ → Bool

module _ (known : MethodFacts) where
  -- a statement of the method
  abbrev pub known_site : ℕ → StatementSite
  known_site at = statement_site known.name known.number at

  -- a dead statement; of those that follow one another in a list the first is told
  abbrev pub dead_findings : ℕ → Bool → List Finding
  dead_findings at is_behind_dead = if is_behind_dead then [] else DeadStatement (known_site at) ∷ []

  -- an EVAL whose value nothing reads
  abbrev pub value_findings : List ℕ → ℕ → List Finding
  value_findings x at = if known.is_unused x then UnusedValue (known_site at) x ∷ [] else []

  -- a test that never holds; its first list is numbered from `first`
  abbrev pub never_true_findings : ℕ → ℕ → Body → List Finding
  never_true_findings at first a =
      if known.is_closed at true then NeverTrue (known_site at) (dead_first known.is_dead first a) ∷ [] else []

  -- a test that never fails; its second list is numbered from `first`
  abbrev pub never_false_findings : ℕ → ℕ → Body → List Finding
  never_false_findings at first b =
      if known.is_closed at false then NeverFalse (known_site at) (dead_first known.is_dead first b) ∷ [] else []

  -- the findings of a test; its second list is numbered from `second`
  abbrev pub test_findings : ℕ → Body → ℕ → Body → List Finding
  test_findings at a second b = never_true_findings at (at + 1) a ++ never_false_findings at second b

  -- The findings of statements that are numbered from `at`, behind a dead one or not. Inside a dead statement nothing is told.
  abbrev pub body_findings : ℕ → Bool → Body → List Finding
  body_findings at is_behind_dead done = []
  body_findings at is_behind_dead (eval x e rest) =
      (if known.is_dead at then dead_findings at is_behind_dead else value_findings x at)
      ++ body_findings (at + 1) (known.is_dead at) rest
  body_findings at is_behind_dead (branch t a b rest) =
      (if known.is_dead at then dead_findings at is_behind_dead
      else test_findings at a (at + 1 + written a) b
      ++ (body_findings (at + 1) false a ++ body_findings (at + 1 + written a) false b))
      ++ body_findings (at + 1 + written a + written b) (known.is_dead at) rest
  body_findings at is_behind_dead (execute m rest) =
      (if known.is_dead at then dead_findings at is_behind_dead else [])
      ++ body_findings (at + 1) (known.is_dead at) rest

  -- the findings of a method other than MAIN; of one whose first statement is dead that alone is told
  abbrev pub method_findings : Body → List Finding
  method_findings b =
      if begins_dead known.is_dead 0 b then DeadMethod known.name known.number ∷ [] else body_findings 0 false b

-- ---- the flowchart

-- no run executes the statement of a number, given those that one may execute
abbrev pub is_dead_in : BTreeSet StatementPlace → List ℕ → ℕ → Bool
is_dead_in reached method at = not (contains place_cmp reached (method, at))

-- no run takes an exit, given those that one may take
abbrev pub is_closed_exit : BTreeSet ExitPlace → ExitPlace → Bool
is_closed_exit exits q = not (contains exit_cmp exits q)

-- what is known of a method, given the statements that a run may execute and the exits that one may take
abbrev pub method_facts : BTreeSet StatementPlace → BTreeSet ExitPlace → (List ℕ → Bool) → List ℕ → ℕ → MethodFacts
method_facts reached exits is_unused method number = record {
  name = method;
  number = number;
  is_dead = is_dead_in reached method;
  is_closed = λ at holds. is_closed_exit exits (method, at, holds);
  is_unused = is_unused;
}

-- the findings of methods that are numbered from `number`
abbrev pub methods_findings : BTreeSet StatementPlace → BTreeSet ExitPlace → (List ℕ → Bool) → ℕ → List Routine → List Finding
methods_findings reached exits is_unused number [] = []
methods_findings reached exits is_unused number (m ∷ ms) =
    method_findings (method_facts reached exits is_unused m.name number) m.body
    ++ methods_findings reached exits is_unused (number + 1) ms

-- the findings of a flowchart, given the statements that a run may execute and the exits of IFs that one may take: of its
-- declarations, of MAIN, and of the other methods
abbrev pub findings_of : Flowchart → BTreeSet StatementPlace → BTreeSet ExitPlace → List Finding
findings_of f reached exits =
    declared_findings (is_read f) (is_assigned f) f
    ++ (body_findings (method_facts reached exits (is_unused f) main_name 0) 0 false f.main
    ++ methods_findings reached exits (is_unused f) 1 f.methods)
