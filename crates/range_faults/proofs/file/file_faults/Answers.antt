use Rattle.std.proofs.Common.{suc, [], sym, subst}
use Rattle.toml.specs.View.{view, members_view}
use Rattle.range_faults.specs.FileFaults.{AreSectionFaults, AreTableFaults}
use Rattle.range_faults.proofs.AddLemmas.{Walks, begins, loop_on, loop_ends}
use Rattle.range_faults.proofs.file.file_faults.Goals as goal

pub loop-key-init : goal.loop-key-init
loop-key-init c =
    let all = members_view c.args.table.now.entries in
    rw c.into_iter-key-iterator.ensures.into_iter_gives.0 (0, subst (λ now. Walks AreSectionFaults 0 all all [] now) (sym c.new-faults.ensures.items) (begins AreSectionFaults all []))

pub loop-key-preserved : goal.loop-key-preserved
loop-key-preserved c =
    let l = c.loop-key in
    let n = l.invariant.0 in (
      suc n,
      loop_on AreSectionFaults n c.deref.result.now c.in-Some.key.now c.in-Some.value.now l.key-iterator c.next.new.self c.args.table.now.entries
          [] l.faults.items c.add_section.new.faults.items c.deref.ensures c.in-Some.ensures.steps l.invariant.1 (c.in_ok-add_section.ensures n),
    )

pub returns : goal.returns
returns c =
    let l = c.loop-key in
    let found = loop_ends AreSectionFaults l.invariant.0 l.key-iterator c.args.table.now.entries [] l.faults.items c.in-None.ensures.steps.0 l.invariant.1 in
    subst (AreTableFaults (members_view c.args.table.now.entries)) (sym found.is) found.are
