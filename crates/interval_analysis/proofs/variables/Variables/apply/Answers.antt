use Rattle.std.proofs.Common.{◌+◌, drop, ap, ◌∙◌, sym}
use Rattle.interval_analysis.specs.private.Changes.{changed}
use Rattle.interval_analysis.proofs.NoteLemmas.{noted_then, drop_there}
use Rattle.interval_analysis.proofs.variables.Variables.apply.Goals as goal

pub loop-change-preserved : goal.loop-change-preserved
loop-change-preserved c =
    let cs = c.args.changes.now in
    let i = c.loop-change.change-index in
    record {
      left =
          ap (λ ys. changed ys (drop (i + 1) cs)) c.in_ok-put.ensures.value
          ∙ ap (changed c.loop-change.self.ranges.items) (sym (drop_there cs i c.change-item.result c.loop-change-test.true c.change-item.is))
          ∙ c.loop-change.invariant.left;
      noted = noted_then c.args.self.now c.loop-change.self c.put.new.self c.loop-change.invariant.noted c.in_ok-put.ensures.noted;
      kept = c.in_ok-put.ensures.kept;
    }

pub returns-in_err-put-clause-noted : goal.returns-in_err-put-clause-noted
returns-in_err-put-clause-noted c = noted_then c.args.self.now c.loop-change.self c.put.new.self c.loop-change.invariant.noted c.in_err-put.ensures.noted
