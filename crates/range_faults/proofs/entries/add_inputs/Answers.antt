use Rattle.std.proofs.Common.{◌≡◌, ◌-◌, suc, refl, arith}
use Rattle.toml.specs.View.{view, members_view}
use Rattle.pap_tree.specs.Limits.{most_inputs}
use Rattle.range_faults.specs.EntryFaults.{AreInputFaults}
use Rattle.range_faults.proofs.AddLemmas.{begins, loop_on, loop_ends}
use Rattle.range_faults.proofs.entries.add_inputs.Goals as goal

pub loop-name-init : goal.loop-name-init
loop-name-init c = rw c.into_iter-name-iterator.ensures.into_iter_gives.0 (0, refl, begins AreInputFaults (members_view c.args.entries.now.entries) c.args.faults.now.items)

pub loop-name-preserved : goal.loop-name-preserved
loop-name-preserved c =
    let l = c.loop-name in
    let n = l.invariant.0 in (
      suc n,
      omega (arith, c.saturating_sub-room.ensures, l.invariant.1),
      loop_on AreInputFaults n c.deref.result.now c.in-Some.name.now c.in-Some.value.now l.name-iterator c.next.new.self c.args.entries.now.entries
          c.args.faults.now.items l.faults.items c.add_input.new.faults.items c.deref.ensures c.in-Some.ensures.steps l.invariant.2
          (c.in_ok-add_input.ensures n l.invariant.1),
    )

pub returns : goal.returns
returns c =
    let l = c.loop-name in
    loop_ends AreInputFaults l.invariant.0 l.name-iterator c.args.entries.now.entries c.args.faults.now.items l.faults.items c.in-None.ensures.steps.0 l.invariant.2
