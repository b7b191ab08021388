use Rattle.std.proofs.Common.{sym, ap, ◌∙◌, subst, map}
use Rattle.std.specs.Prelude.{All}
use Rattle.pap_tree.specs.Declarations.{declaration_of}
use Rattle.interval_walk.specs.Admission.{HasLimit}
use Rattle.failing_input.specs.private.SampleViews.{IsRangeOf}
use Rattle.failing_input.proofs.SampleLemmas.{declared_there, zip_more}
use Rattle.failing_input.proofs.samples.ranges_of.Goals as goal

pub range_of-requires : goal.range_of-requires
range_of-requires c =
    let limits = c.args.limits.now in
    let inputs = c.as_slice-inputs.ensures.value ∙ ap (λ p. p.inputs.items) c.plan.ensures.text in
    declared_there (HasLimit limits) c.as_slice-inputs.result.now c.loop-input.input-index c.input-item.result
    c.input-item.is c.loop-input-test.true
    (subst (λ ds. All (HasLimit limits) (map declaration_of ds)) (sym inputs) c.requires)

pub loop-input-preserved : goal.loop-input-preserved
loop-input-preserved c =
    rw c.in_ok-push.ensures.items
    (zip_more (λ d r. IsRangeOf c.args.limits.now (declaration_of d) r) c.as_slice-inputs.result.now
    c.loop-input.ranges.items c.loop-input.input-index c.input-item.result c.range_of.result c.loop-input-test.true
    c.input-item.is c.loop-input.invariant c.range_of.ensures)
