use Rattle.std.proofs.Common.{rules}
use Rattle.std.proofs.lemmas.List.Sorted.{answers_always}
use Rattle.rising_lists.proofs.Laws.{searched}
use Rattle.payroll_records.specs.Orders.{day_cmp}
use Rattle.payroll_records.proofs.Laws.{day_total}
use Rattle.book_year.specs.Records.{record_day}
use Rattle.book_year.proofs.records.place_run.Goals as goal

pub returns : goal.returns
returns c =
    let facts = c.binary_search_by_key.ensures in
    let by_day = facts.position record_day (answers_always _ _ _ (λ f a r g called. search rules)) in
    searched day_cmp day_total record_day _ _ _ c.requires facts.bound by_day
