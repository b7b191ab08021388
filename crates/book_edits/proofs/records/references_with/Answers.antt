use Rattle.std.proofs.Common.{subst, sym, ap, ◌∙◌, take}
use Rattle.rising_lists.specs.Keyed.{IsRising}
use Rattle.payroll_records.specs.Orders.{day_cmp}
use Rattle.book_year.specs.Records.{put_run, record_day}
use Rattle.book_edits.specs.private.Groups.{put_runs}
use Rattle.book_edits.proofs.RecordLemmas.{puts_next, rising_puts}
use Rattle.book_edits.proofs.records.references_with.Goals as goal

pub put_reference-requires : goal.put_reference-requires
put_reference-requires c =
    subst (IsRising day_cmp record_day) (sym c.loop-item.invariant) (rising_puts (take c.loop-item.item-index c.args.items.now) c.args.records.now c.requires)

pub loop-item-preserved : goal.loop-item-preserved
loop-item-preserved c =
    let item = c.item-item.result in
    c.in_ok-put_reference.ensures.ok
    ∙ ap (put_run item) c.loop-item.invariant
    ∙ ap (λ t. put_run t (put_runs (take c.loop-item.item-index c.args.items.now) c.args.records.now)) c.item-item.is
    ∙ puts_next c.args.items.now c.loop-item.item-index item c.args.records.now c.loop-item-test.true
