use Rattle.std.proofs.Common.{sym, ap, ◌∙◌, arith}
use Rattle.std.specs.Prelude.{slice_set}
use Rattle.std.proofs.lemmas.Result.{on_ok_weaker}
use Rattle.pap_tree.specs.Flowchart.{flowchart_of}
use Rattle.run_trace.specs.RunMarks.{execution}
use Rattle.run_trace.specs.private.MarkViews.{changed_at, with_execution}
use Rattle.run_trace.proofs.MarkLemmas.{changed_in, changed_out}
use Rattle.run_trace.proofs.marks.add_in.Goals as goal

pub returns-then-method-tallies : goal.returns-then-method-tallies
returns-then-method-tallies c =
    let one = changed_at c.args.place.1
    (with_execution (flowchart_of c.args.telling.plan.now) (execution c.args.number c.args.values.now c.args.step.now)) in
    sym (changed_out c.args.place.0 one c.args.tallies.now (omega arith))

pub returns : goal.returns
returns c =
    let one = changed_at c.args.place.1
    (with_execution (flowchart_of c.args.telling.plan.now) (execution c.args.number c.args.values.now c.args.step.now)) in
    on_ok_weaker c.add.result
    (λ added. ap (λ y. slice_set c.args.tallies.now c.args.place.0 y) added
    ∙ sym (changed_in c.args.place.0 one c.args.tallies.now c.index-tallies-method.result (omega arith)))
    c.add.ensures
