use Rattle.std.proofs.Common.{ap, ◌∙◌, map, subst, arith}
use Rattle.std.specs.Prelude.{All}
use Rattle.std.proofs.lemmas.List.{take_all}
use Rattle.pap_tree.specs.Declarations.{declaration_of}
use Rattle.interval_walk.specs.Admission.{HasLimit}
use Rattle.range_parts.proofs.LimitLemmas.{all_declared}
use Rattle.range_parts.proofs.limits.have_limits.Goals as goal

pub returns : goal.returns
returns c = λ _.
    let limits = c.args.limits.now in
    let ds = c.as_slice-inputs.result.now in
    let same = c.as_slice-inputs.ensures.value ∙ ap (λ p. p.inputs.items) c.plan.ensures.text in
    let whole = take_all c.loop-input.input-index ds (omega (arith, c.loop-input-test.false)) in
    subst (λ ds. All (HasLimit limits) (map declaration_of ds)) same
    (all_declared (HasLimit limits) ds
    (subst (All (λ d. HasLimit limits (declaration_of d))) whole c.loop-input.invariant))
