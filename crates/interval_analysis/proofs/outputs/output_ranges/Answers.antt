use Rattle.std.proofs.Common.{◌≡◌, ◌+◌, ◌-◌, length, take, drop, sym, ap, ap₂, ◌∙◌, subst, arith}
use Rattle.interval_walk.specs.Analysis.{unless_unbounded}
use Rattle.interval_analysis.specs.private.PlanViews.{with_names}
use Rattle.interval_analysis.specs.private.OutputViews.{OutputAnswer, output_names}
use Rattle.interval_analysis.proofs.OutputLemmas.{output_part}
use Rattle.interval_analysis.proofs.outputs.output_ranges.Goals as goal

pub returns : goal.returns
returns c =
    let p = c.args.plan.now in
    let rs = c.args.ranges.now in
    let text = c.plan-text.ensures.text in
    let ins = c.as_slice-inputs.ensures.value ∙ ap (λ t. t.inputs.items) text in
    let outs = c.as_slice-outputs.ensures.value ∙ ap (λ t. t.outputs.items) text in
    let is = c.bounded.ensures in
    let first = ap length ins in
    let count = ap length outs in
    let n = length c.as_slice-inputs.result.now in
    let k = length c.as_slice-outputs.result.now in
    let size : n + k - n ≡ length p.outputs.items = omega (arith, count) in
    let same =
    ap₂ (λ ds m. with_names (output_names ds) (take (n + k - n) (drop m rs))) outs first
    ∙ ap (λ j. with_names (output_names p.outputs.items) (take j (drop (length p.inputs.items) rs))) size in
    subst (λ r. OutputAnswer (unless_unbounded r) c.bounded.result) (same ∙ sym (output_part p rs c.requires)) is
