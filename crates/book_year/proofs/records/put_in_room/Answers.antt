use Rattle.std.proofs.Common.{sym}
use Rattle.rising_lists.specs.Places.{IsAt, IsGap}
use Rattle.payroll_records.specs.Orders.{day_cmp}
use Rattle.book_year.specs.Records.{record_day}
use Rattle.book_year.proofs.RecordLemmas.{put_at, put_in}
use Rattle.book_year.proofs.records.put_in_room.Goals as goal

pub returns-in-Ok-clause-items : goal.returns-in-Ok-clause-items
returns-in-Ok-clause-items c =
    let found : IsAt day_cmp record_day c.args.records.now.items c.args.item.day c.in-Ok.at = rw (← c.as_slice.ensures.value) c.in-Ok.ensures.found in
    sym (put_at c.args.item c.args.records.now.items c.in-Ok.at found)

pub returns-in-Err-clause-items : goal.returns-in-Err-clause-items
returns-in-Err-clause-items c =
    let gap : IsGap day_cmp record_day c.args.records.now.items c.args.item.day c.in-Err.at = rw (← c.as_slice.ensures.value) c.in-Err.ensures.absent in
    rw (c.insert.ensures.items, c.unwrap.ensures) (sym (put_in c.args.item c.args.records.now.items c.in-Err.at gap))
