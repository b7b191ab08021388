use Rattle.std.proofs.Common.{sym}
use Rattle.rising_lists.specs.Places.{IsAt, IsGap}
use Rattle.payroll_records.specs.Orders.{day_cmp}
use Rattle.book_year.specs.Records.{record_day}
use Rattle.book_year.proofs.RecordLemmas.{put_at, put_in}
use Rattle.book_year.proofs.records.put_record.Goals as goal

pub returns-in-Ok-clause-ok : goal.returns-in-Ok-clause-ok
returns-in-Ok-clause-ok c =
    let found : IsAt day_cmp record_day c.args.records.now.items c.args.item.day c.in-Ok.at = rw (← c.as_slice.ensures.value) c.in-Ok.ensures.found in
    sym (put_at c.args.item c.args.records.now.items c.in-Ok.at found)

pub returns-in_ok-insert-in-Err-clause-ok : goal.returns-in_ok-insert-in-Err-clause-ok
returns-in_ok-insert-in-Err-clause-ok c =
    let gap : IsGap day_cmp record_day c.args.records.now.items c.args.item.day c.in-Err.at = rw (← c.as_slice.ensures.value) c.in-Err.ensures.absent in
    rw c.in_ok-insert-in-Err.ensures.items (sym (put_in c.args.item c.args.records.now.items c.in-Err.at gap))
