use Rattle.rising_lists.specs.Places.{IsAt, IsGap}
use Rattle.payroll_records.specs.Orders.{day_cmp}
use Rattle.book_year.specs.private.Records.{reference_day}
use Rattle.book_year.proofs.RecordLemmas.{put_ref_at, put_ref_in}
use Rattle.book_year.proofs.records.put_reference.Goals as goal

pub returns-in-Ok-clause-ok : goal.returns-in-Ok-clause-ok
returns-in-Ok-clause-ok c =
    let found : IsAt day_cmp reference_day c.args.runs.now.items c.args.item.now.day c.in-Ok.at = rw (← c.as_slice.ensures.value) c.in-Ok.ensures.found in
    put_ref_at c.args.item c.args.runs.now.items c.in-Ok.at found

pub returns-in_ok-insert-in-Err-clause-ok : goal.returns-in_ok-insert-in-Err-clause-ok
returns-in_ok-insert-in-Err-clause-ok c =
    let gap : IsGap day_cmp reference_day c.args.runs.now.items c.args.item.now.day c.in-Err.at = rw (← c.as_slice.ensures.value) c.in-Err.ensures.absent in
    rw c.in_ok-insert-in-Err.ensures.items (put_ref_in c.args.item c.args.runs.now.items c.in-Err.at gap)
