use Rattle.std.proofs.Common.{◌∙◌, ap}
use Rattle.pap_plan.specs.Plans.{flowchart}
use Rattle.open_runs.specs.private.Slots.{carries}
use Rattle.open_runs.proofs.FilledLemmas.{fills_slots}
use Rattle.open_runs.proofs.filled.fills.Goals as goal

pub returns : goal.returns
returns c =
    let name = c.args.name.now in
    c.carries.ensures
    ∙ (ap (λ slots. carries slots name) c.as_slice.ensures
    ∙ fills_slots c.args.plan.now.ranges name (flowchart c.args.plan.now).inputs c.spec.result.now.slots c.spec.ensures)
