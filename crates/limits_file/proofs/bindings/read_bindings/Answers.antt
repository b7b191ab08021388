use Rattle.std.proofs.Common.{Ok, length, refl, sym, subst}
use Rattle.std.proofs.lemmas.Result.{err_from_is_err_and}
use Rattle.toml.specs.View.{members_view}
use Rattle.limits_file.specs.Bindings.{BindingSays}
use Rattle.limits_file.specs.Walks.{AllOrFirstFault}
use Rattle.limits_file.proofs.OrderLemmas.{ascends, binding_named}
use Rattle.limits_file.proofs.LoopLemmas.{loop_more, loop_stop, loop_end}
use Rattle.limits_file.proofs.bindings.read_bindings.Goals as goal

pub returns-in_err-input-clause-says : goal.returns-in_err-input-clause-says
returns-in_err-input-clause-says c =
    let p = err_from_is_err_and c.from_residual.result c.from_residual.ensures.1 in
    rw (p.1, p.2) (loop_stop BindingSays c.loop-key.bindings.items (length c.loop-key.bindings.items) c.deref.result.now c.in-Some.key.now c.in-Some.value.now c.loop-key.key-iterator c.next.new.self c.args.entries.now.entries refl c.deref.ensures c.in-Some.ensures.steps c.loop-key.invariant c.in_err-input.field-0.0 (c.in_err-input.ensures (length c.loop-key.bindings.items)))

pub loop-key-preserved : goal.loop-key-preserved
loop-key-preserved c =
    loop_more BindingSays c.loop-key.bindings.items (length c.loop-key.bindings.items) c.deref.result.now c.in-Some.key.now c.in-Some.value.now c.loop-key.key-iterator c.next.new.self c.args.entries.now.entries refl c.deref.ensures c.in-Some.ensures.steps c.loop-key.invariant _ c.push.new.self.items c.in_ok-push.ensures.items (c.in_ok-input.ensures (length c.loop-key.bindings.items))

pub returns-clause-says : goal.returns-clause-says
returns-clause-says c =
    subst (λ said. AllOrFirstFault BindingSays 0 (members_view c.args.entries.now.entries) (Ok said)) (sym c.from_vec.ensures) (loop_end BindingSays c.loop-key.bindings.items c.loop-key.key-iterator c.args.entries.now.entries c.in-None.ensures.steps.0 c.loop-key.invariant)

pub returns-clause-in_order : goal.returns-clause-in_order
returns-clause-in_order c =
    let says = loop_end BindingSays c.loop-key.bindings.items c.loop-key.key-iterator c.args.entries.now.entries c.in-None.ensures.steps.0 c.loop-key.invariant in
    rw c.from_vec.ensures (ascends BindingSays (λ binding. binding.input) binding_named 0 c.args.entries.now.entries c.loop-key.bindings.items says c.into_iter-key-iterator.ensures.into_iter_gives.5)
