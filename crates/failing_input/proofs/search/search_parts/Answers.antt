use Rattle.std.proofs.Common.{◌≡◌, length, arith}
use Rattle.std.proofs.lemmas.Grind.{common_steps}
use Rattle.pap_tree.specs.Flowchart.{flowchart_of}
use Rattle.failing_input.proofs.StateLemmas.{started, all_searched}
use Rattle.failing_input.proofs.search.search_parts.Goals as goal

pub loop-turn-init : goal.loop-turn-init
loop-turn-init c =
    started (flowchart_of c.args.t.now) c.args.limits.now c.in_ok-known.known c.requires.limits c.requires.sound
    c.in_ok-known.ensures

pub returns-in_default : goal.returns-in_default
returns-in_default c =
    let none : length c.loop-turn.known.left.items ≡ 0 =
    first_of (omega (arith, c.in_default.ensures.cases.0, c.loop-turn.known.left.ok.0), grind (arith, common_steps)) in
    all_searched (flowchart_of c.args.t.now) c.args.limits.now c.loop-turn.known.done.items c.loop-turn.known.left.items
    c.plan-typed.ensures.well_typed c.plan-typed.ensures.counted none c.loop-turn.invariant
