use Rattle.std.proofs.Common.{subst, arith, rules}
use Rattle.std.proofs.lemmas.Grind.{common_steps}
use Rattle.pap_tree.specs.Flowchart.{flowchart_of}
use Rattle.failing_input.specs.private.PartViews.{IsStep}
use Rattle.failing_input.proofs.StateLemmas.{part_of, put_done, put_split}
use Rattle.failing_input.proofs.PartLemmas.{fails_in}
use Rattle.failing_input.proofs.search.advance.Goals as goal

pub next_step-requires-clause-limits : goal.next_step-requires-clause-limits
next_step-requires-clause-limits c =
    (part_of (flowchart_of c.args.t.now) c.args.limits.now c.args.known.now.done.items c.args.known.now.left.items
    c.args.part c.requires.known).ranged

pub next_step-requires-clause-sound : goal.next_step-requires-clause-sound
next_step-requires-clause-sound c =
    (part_of (flowchart_of c.args.t.now) c.args.limits.now c.args.known.now.done.items c.args.known.now.left.items
    c.args.part c.requires.known).sound

pub returns-in-Fails : goal.returns-in-Fails
returns-in-Fails c =
    let f = flowchart_of c.args.t.now in
    fails_in f c.args.limits.now c.args.part c.in-Fails.field-0.inputs.items c.in-Fails.field-0.failure
    (part_of f c.args.limits.now c.args.known.now.done.items c.args.known.now.left.items c.args.part c.requires.known)
    (subst (IsStep f c.args.part) c.in-Fails.is c.in_ok-next_step.ensures)

pub returns-in_ok-push-in-Passes : goal.returns-in_ok-push-in-Passes
returns-in_ok-push-in-Passes c =
    let f = flowchart_of c.args.t.now in
    let passed = subst (IsStep f c.args.part) c.in-Passes.is c.in_ok-next_step.ensures in
    put_done f c.args.limits.now c.args.known.now.done.items c.args.known.now.left.items c.args.part c.requires.known
    passed _ _ (first_of (search rules, grind (arith, common_steps), cc)) (first_of (search rules, grind (arith, common_steps), cc))

pub returns-in_ok-push-in-Splits-2 : goal.returns-in_ok-push-in-Splits-2
returns-in_ok-push-in-Splits-2 c =
    let f = flowchart_of c.args.t.now in
    let parts = subst (IsStep f c.args.part) c.in-Splits.is c.in_ok-next_step.ensures in
    put_split f c.args.limits.now c.args.known.now.done.items c.args.known.now.left.items c.args.part c.requires.known
    c.in-Splits.field-0 parts _ _ (first_of (search rules, grind (arith, common_steps), cc))
    (first_of (search rules, grind (arith, common_steps), cc))
