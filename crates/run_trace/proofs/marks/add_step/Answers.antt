use Rattle.std.proofs.lemmas.Result.{on_ok_weaker}
use Rattle.std.proofs.Common.{sym, ◌∙◌}
use Rattle.std.specs.Prelude.{Some, None}
use Rattle.pap_tree.specs.Flowchart.{flowchart_of}
use Rattle.run_trace.proofs.LineLemmas.{stepped_at}
use Rattle.run_trace.proofs.marks.add_step.Goals as goal

pub returns-in-Some : goal.returns-in-Some
returns-in-Some c =
    on_ok_weaker c.add_in.result
    (λ added. added ∙ stepped_at (flowchart_of c.args.telling.plan.now) c.args.step.now c.args.number c.args.values.now
    c.args.tallies.now c.place_of-name.result.0 c.place_of-name.result.1 (Some c.in-Some.method) c.place_of-name.ensures
    (sym c.in-Some.is ∙ c.method_number.ensures))
    c.add_in.ensures

pub returns-in-None : goal.returns-in-None
returns-in-None c =
    stepped_at (flowchart_of c.args.telling.plan.now) c.args.step.now c.args.number c.args.values.now c.args.tallies.now
    c.place_of-name.result.0 c.place_of-name.result.1 None c.place_of-name.ensures (sym c.in-None.is ∙ c.method_number.ensures)
