use Rattle.std.proofs.Common.{rules}
use Rattle.std.proofs.lemmas.List.Sorted.{answers_always}
use Rattle.rising_lists.proofs.Laws.{searched}
use Rattle.payroll_records.specs.Orders.{day_cmp}
use Rattle.payroll_records.proofs.Laws.{day_total}
use Rattle.book_year.specs.Records.{record_day}
use Rattle.book_year.specs.private.Records.{reference_day}
use Rattle.book_year.proofs.RecordLemmas.{rising_map, now_of}
use Rattle.book_year.proofs.records.place_reference.Goals as goal

pub returns : goal.returns
returns c =
    let facts = c.binary_search_by_key.ensures in
    let by_day = facts.position reference_day (answers_always _ _ _ (λ f a r g called. search rules)) in
    searched day_cmp day_total reference_day _ _ _ (rising_map day_cmp record_day now_of _ c.requires) facts.bound by_day
