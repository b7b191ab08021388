use Rattle.std.proofs.Common.{Ok, sym, subst, ◌∙◌}
use Rattle.std.proofs.lemmas.Result.{err_from_is_err_and}
use Rattle.toml.specs.View.{members_view}
use Rattle.limits_file.specs.Inputs.{InputSays}
use Rattle.limits_file.specs.Walks.{AllOrFirstFault}
use Rattle.limits_file.proofs.OrderLemmas.{ascends, input_named}
use Rattle.limits_file.proofs.LoopLemmas.{loop_more, loop_stop, loop_end}
use Rattle.limits_file.proofs.inputs.read_inputs.Goals as goal

pub returns-in_err-limit-clause-says : goal.returns-in_err-limit-clause-says
returns-in_err-limit-clause-says c =
    let p = err_from_is_err_and c.from_residual.result c.from_residual.ensures.1 in
    rw (p.1, p.2) (loop_stop InputSays c.loop-key.inputs.items c.len.result c.deref.result.now c.in-Some.key.now c.in-Some.value.now c.loop-key.key-iterator c.next.new.self c.args.entries.now.entries (c.len.ensures ∙ c.loop-key.inputs.ok.0) c.deref.ensures c.in-Some.ensures.steps c.loop-key.invariant c.in_err-limit.field-0.0 c.in_err-limit.ensures)

pub loop-key-preserved : goal.loop-key-preserved
loop-key-preserved c =
    loop_more InputSays c.loop-key.inputs.items c.len.result c.deref.result.now c.in-Some.key.now c.in-Some.value.now c.loop-key.key-iterator c.next.new.self c.args.entries.now.entries (c.len.ensures ∙ c.loop-key.inputs.ok.0) c.deref.ensures c.in-Some.ensures.steps c.loop-key.invariant c.in_ok-limit.limit c.push.new.self.items c.in_ok-push.ensures.items c.in_ok-limit.ensures

pub returns-clause-says : goal.returns-clause-says
returns-clause-says c =
    subst (λ said. AllOrFirstFault InputSays 0 (members_view c.args.entries.now.entries) (Ok said)) (sym c.from_vec.ensures) (loop_end InputSays c.loop-key.inputs.items c.loop-key.key-iterator c.args.entries.now.entries c.in-None.ensures.steps.0 c.loop-key.invariant)

pub returns-clause-in_order : goal.returns-clause-in_order
returns-clause-in_order c =
    let says = loop_end InputSays c.loop-key.inputs.items c.loop-key.key-iterator c.args.entries.now.entries c.in-None.ensures.steps.0 c.loop-key.invariant in
    rw c.from_vec.ensures (ascends InputSays (λ limit. limit.name) input_named 0 c.args.entries.now.entries c.loop-key.inputs.items says c.into_iter-key-iterator.ensures.into_iter_gives.5)
