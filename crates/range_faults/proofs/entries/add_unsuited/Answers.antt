use Rattle.std.proofs.Common.{refl}
use Rattle.toml.specs.View.{members_view}
use Rattle.range_faults.specs.declared.fault.EntryFault.TheVariants.{Key}
use Rattle.range_faults.specs.EntryFaults.{entry_form}
use Rattle.range_faults.proofs.AddLemmas.{keys_on, keys_end}
use Rattle.range_faults.proofs.entries.add_unsuited.Goals as goal

pub loop-key-init : goal.loop-key-init
loop-key-init c = rw c.into_iter-key-iterator.ensures.into_iter_gives.0 refl

pub loop-key-preserved : goal.loop-key-preserved
loop-key-preserved c =
    let l = c.loop-key in
    let entries = c.args.entry.now.entries in
    keys_on ((entry_form c.args.section).suits (members_view entries)) (Key c.args.section c.args.name.now) c.deref.result.now
    c.in-Some.key.now c.in-Some.value.now l.key-iterator c.next.new.self entries c.args.faults.now.items l.faults.items c.add_key.new.faults.items
    c.deref.ensures c.in-Some.ensures.steps c.in_ok-add_key.ensures l.invariant

pub returns : goal.returns
returns c =
    let l = c.loop-key in
    let entries = c.args.entry.now.entries in
    keys_end ((entry_form c.args.section).suits (members_view entries)) (Key c.args.section c.args.name.now) l.key-iterator entries
    c.args.faults.now.items l.faults.items c.in-None.ensures.steps.0 l.invariant
