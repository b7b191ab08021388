use Rattle.std.proofs.Common.{Some, None, sym, ◌∙◌}
use Rattle.pap_tree.specs.Flowchart.{flowchart_of}
use Rattle.pap_types.proofs.ScopeLemmas.{declared_by}
use Rattle.pap_types.proofs.scope.Scope.constant.Goals as goal

pub returns-in-None : goal.returns-in-None
returns-in-None c =
    declared_by (flowchart_of c.args.self.now.plan.now).constants c.args.name.now _ None c.requires.constants (sym c.in-None.is ∙ c.number_of.ensures)

pub returns-in-Some : goal.returns-in-Some
returns-in-Some c =
    c.constant_at.ensures ∙ declared_by (flowchart_of c.args.self.now.plan.now).constants c.args.name.now _ (Some c.in-Some.number) c.requires.constants (sym c.in-Some.is ∙ c.number_of.ensures)
