use Rattle.std.proofs.Common.{rules}
use Rattle.std.proofs.lemmas.List.Sorted.{answers_always}
use Rattle.rising_lists.proofs.Laws.{found, searched}
use Rattle.payroll_records.specs.Orders.{day_cmp}
use Rattle.payroll_records.proofs.Laws.{day_total}
use Rattle.plan_calendar.specs.Picking.{day_of}
use Rattle.plan_calendar.proofs.calendar.place.Goals as goal

pub returns : goal.returns
returns g c =
    let facts = c.binary_search_by_key.ensures in
    let by_day = facts.position (day_of {P = g.row.P.Denot}) (answers_always _ _ _ (λ f a r g called. search rules)) in
    let places = searched day_cmp day_total (day_of {P = g.row.P.Denot}) _ _ _ c.requires.rising facts.bound by_day in
    let both = found day_cmp day_total (day_of {P = g.row.P.Denot}) _ _ _ c.requires.rising facts.bound by_day in
    record { at = places.found; found = both.0; gap = places.absent; absent = both.1 }
