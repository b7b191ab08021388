use Rattle.std.proofs.Common.{suc, refl}
use Rattle.toml.specs.View.{view, members_view}
use Rattle.range_faults.specs.declared.fault.Section.TheVariants.{Bind}
use Rattle.range_faults.specs.EntryFaults.{AreBindingFaults, key_faults}
use Rattle.range_faults.proofs.AddLemmas.{begins, loop_on, loop_ends}
use Rattle.range_faults.proofs.entries.add_bindings.Goals as goal

pub loop-name-init : goal.loop-name-init
loop-name-init c = rw c.into_iter-name-iterator.ensures.into_iter_gives.0 (0, begins AreBindingFaults (members_view c.args.entries.now.entries) c.args.faults.now.items)

pub loop-name-preserved : goal.loop-name-preserved
loop-name-preserved c =
    let l = c.loop-name in
    let n = l.invariant.0 in (
      suc n,
      loop_on AreBindingFaults n c.deref.result.now c.in-Some.name.now c.in-Some.value.now l.name-iterator c.next.new.self c.args.entries.now.entries
          c.args.faults.now.items l.faults.items c.add_key_faults.new.faults.items c.deref.ensures c.in-Some.ensures.steps l.invariant.1 (record {
            own = key_faults Bind c.deref.result.now (view c.in-Some.value.now);
            are = refl;
            is = c.in_ok-add_key_faults.ensures;
          }),
    )

pub returns : goal.returns
returns c =
    let l = c.loop-name in
    loop_ends AreBindingFaults l.invariant.0 l.name-iterator c.args.entries.now.entries c.args.faults.now.items l.faults.items c.in-None.ensures.steps.0 l.invariant.1
