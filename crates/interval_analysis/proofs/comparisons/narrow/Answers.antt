use Rattle.std.proofs.Common.{◌≡◌, Some, sym, ◌∙◌, subst, arith}
use Rattle.interval_analysis.specs.private.Changes.{after_change}
use Rattle.interval_analysis.specs.private.ComparisonViews.{CanRefine}
use Rattle.interval_analysis.proofs.ChangeLemmas.{length-after_change}
use Rattle.interval_analysis.proofs.NoteLemmas.{within_of}
use Rattle.interval_analysis.proofs.comparisons.narrow.Goals as goal
use Rattle.interval_analysis.proofs.comparisons.narrow.Goals.{After-range_now-now}

pub range_now-now-requires : goal.range_now-now-requires
range_now-now-requires c =
    let after = after_change c.args.ranges.now c.args.earlier.now in
    let can = c.requires c.in-Some.number c.in-Some.is in
    let within = within_of after c.in-Some.number can.range can.there in
    let count = length-after_change c.args.ranges.now c.args.earlier.now in
    omega (arith, within, count)

refines : (c : After-range_now-now) → CanRefine c.args.against.whole c.range_now-now.result c.args.against.range
refines c =
    let can = c.requires c.in-Some.number c.in-Some.is in
    let one : Some can.range ≡ Some c.range_now-now.result = sym can.there ∙ c.range_now-now.ensures in
    let same : can.range ≡ c.range_now-now.result = cc in
    subst (λ v. CanRefine c.args.against.whole v c.args.against.range) same can.refines

pub refine-requires-clause-aligned : goal.refine-requires-clause-aligned
refine-requires-clause-aligned c = (refines c).aligned

pub refine-requires-clause-left_whole : goal.refine-requires-clause-left_whole
refine-requires-clause-left_whole c = (refines c).left_whole

pub refine-requires-clause-right_whole : goal.refine-requires-clause-right_whole
refine-requires-clause-right_whole c = (refines c).right_whole
