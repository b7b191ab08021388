-- The findings of a flowchart's parts, as they are added.
use Rattle.std.specs.Prelude.{◌≡◌, false, List, ◌++◌}
use Rattle.std.specs.BTreeSet.{BTreeSet}
use Rattle.pap_tree.specs.Flowchart.{Flowchart, Routine}
use Rattle.pap_tree.specs.Names.{main_name}
use Rattle.interval_analysis.specs.Surveys.{StatementPlace, ExitPlace}
use Rattle.flowchart_findings.specs.declared.finding.Finding.{Finding}
use Rattle.flowchart_findings.specs.declared.name_sets.NameSets.{NameSets}
use Rattle.flowchart_findings.specs.Findings.{declared_findings, body_findings, method_facts, methods_findings}
use Rattle.flowchart_findings.specs.private.SetViews.{read_by, assigned_by, unused_by}

-- those of all declarations are added
abbrev pub AddsDeclarations : NameSets → Flowchart → List Finding → List Finding → Type 0
AddsDeclarations names f before after =
    after ≡ before ++ declared_findings (read_by names) (assigned_by names) f

-- those of the methods other than MAIN are added
abbrev pub AddsMethods : NameSets → BTreeSet StatementPlace → BTreeSet ExitPlace → List Routine → List Finding → List Finding
    → Type 0
AddsMethods names reached exits methods before after =
    after ≡ before ++ methods_findings reached exits (unused_by names) 1 methods

-- those of a flowchart are added
pub record AddsAll (names : NameSets) (reached : BTreeSet StatementPlace) (exits : BTreeSet ExitPlace) (f : Flowchart)
    (before after : List Finding) : Type 0 where
  pub added : after
      ≡ before
      ++ (declared_findings (read_by names) (assigned_by names) f
      ++ (body_findings (method_facts reached exits (unused_by names) main_name 0) 0 false f.main
      ++ methods_findings reached exits (unused_by names) 1 f.methods))
