use Rattle.std.proofs.Common.{sym}
use Rattle.rising_lists.specs.Places.{IsAt, IsGap}
use Rattle.payroll_records.specs.Orders.{day_cmp}
use Rattle.book_year.specs.Records.{record_day}
use Rattle.book_year.proofs.RecordLemmas.{without_at, without_in}
use Rattle.book_year.proofs.records.take_record.Goals as goal

pub returns-in-Ok-clause-items : goal.returns-in-Ok-clause-items
returns-in-Ok-clause-items c =
    let found : IsAt day_cmp record_day c.args.records.now.items c.args.day c.in-Ok.at = rw (← c.as_slice.ensures.value) c.in-Ok.ensures.found in
    rw c.remove-old.ensures.items (sym (without_at c.args.day c.args.records.now.items c.in-Ok.at found))

pub returns-in_default-clause-items : goal.returns-in_default-clause-items
returns-in_default-clause-items c =
    let gap : IsGap day_cmp record_day c.args.records.now.items c.args.day c.in_default.field-0 = rw (← c.as_slice.ensures.value) c.in_default.ensures.absent in
    sym (without_in c.args.day c.args.records.now.items c.in_default.field-0 gap)
