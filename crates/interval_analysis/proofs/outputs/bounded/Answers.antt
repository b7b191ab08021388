use Rattle.std.proofs.Common.{[], ◌∷◌, Err, map, get_or, sym, ap, ◌∙◌, subst, arith}
use Rattle.interval_num.specs.Intervals.{Interval}
use Rattle.interval_walk.specs.Ranges.{NamedRange}
use Rattle.std.proofs.lemmas.List.{map-append}
use Rattle.interval_walk.specs.Analysis.{is_bounded}
use Rattle.interval_walk.specs.Failures.{output_fails}
use Rattle.interval_analysis.specs.Answers.{named_range}
use Rattle.interval_analysis.specs.private.StopViews.{FaultOf}
use Rattle.interval_analysis.proofs.OutputLemmas.{stops, goes_on, one_more, all_bounded}
use Rattle.interval_analysis.proofs.outputs.bounded.Goals as goal

pub returns-then-not-is_bounded : goal.returns-then-not-is_bounded
returns-then-not-is_bounded c =
    let stop = stops c.args.outputs.now c.args.ranges.now c.requires c.loop-i.i c.index-outputs-i.result c.index-ranges-i.result c.loop-i-test.true c.loop-i.invariant.left (ap is_bounded (sym c.index-ranges-i.is) ∙ sym c.is_bounded.ensures ∙ c.if-not-is_bounded.true) in
    let name = (get_or c.args.outputs.now c.loop-i.i c.index-outputs-i.result).name in
    subst (λ r. FaultOf r c.of_output.result) (sym stop)
    (subst (λ a. FaultOf (Err (output_fails name a)) c.of_output.result) c.index-ranges-i.is c.of_output.ensures)

pub loop-i-preserved : goal.loop-i-preserved
loop-i-preserved c =
    let ds = c.args.outputs.now in
    let rs = c.args.ranges.now in
    let i = c.loop-i.i in
    let d = c.index-outputs-i.result in
    let r = c.index-ranges-i.result in
    let l = c.loop-i-test.true in
    let make : Interval → NamedRange = λ x. record { name = (get_or ds i d).name; range = x } in
    record {
      done =
          ap (map named_range) c.in-Ok.ensures.items
          ∙ map-append named_range c.loop-i.bounded.items (_ ∷ [])
          ∙ one_more ds rs c.requires i d r l (map named_range c.loop-i.bounded.items) (named_range _) c.loop-i.invariant.done (ap make c.index-ranges-i.is);
      left = goes_on ds rs c.requires i d r l c.loop-i.invariant.left (ap is_bounded (sym c.index-ranges-i.is) ∙ sym c.is_bounded.ensures ∙ c.if-not-is_bounded.false);
    }

pub returns : goal.returns
returns c =
    all_bounded c.args.outputs.now c.args.ranges.now c.loop-i.i _ c.requires (omega (arith, c.loop-i-test.false)) c.loop-i.invariant.done c.loop-i.invariant.left
