use Rattle.std.proofs.Common.{◌≡◌, ◌++◌, drop, map}
use Rattle.pap_tree.specs.Declarations.{declaration_of}
use Rattle.flowchart_findings.specs.Findings.{declaration_findings}
use Rattle.flowchart_findings.specs.private.SetViews.{read_by, assigned_by}
use Rattle.flowchart_findings.proofs.name_sets.NameSets.add_declarations.Given as goal

abbrev pub invariant-loop-number : goal.invariant-loop-number
invariant-loop-number l =
    l.out.items
    ++ declaration_findings (read_by l.self) (assigned_by l.self) l.group l.number (map declaration_of (drop l.number l.declared))
    ≡ l.initial.out.items
    ++ declaration_findings (read_by l.self) (assigned_by l.self) l.group 0 (map declaration_of l.declared)
