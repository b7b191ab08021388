use Rattle.std.proofs.Common.{◌∙◌, ap, map}
use Rattle.pap_tree.specs.Declarations.{declaration_of}
use Rattle.pap_types.specs.Scopes.{names_of}
use Rattle.flowchart_findings.proofs.FindingLemmas.{renamed}
use Rattle.flowchart_findings.proofs.name_sets.NameSets.of.Goals as goal

pub returns : goal.returns
returns c = record {
  read = renamed _ _ _ (c.deref-2.ensures.value ∙ c.in_ok-uses.ensures.read) c.in_ok-read.ensures;
  assigned = renamed _ _ _ (c.deref-3.ensures.value ∙ c.in_ok-uses.ensures.assigned) c.in_ok-assigned.ensures;
  internals = renamed _ _ _
      (c.deref-4.ensures.value ∙ c.in_ok-names.ensures ∙ ap (λ l. names_of (map declaration_of l)) c.deref.ensures.value)
      c.in_ok-internals.ensures;
}
