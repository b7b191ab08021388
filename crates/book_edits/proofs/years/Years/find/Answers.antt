use Rattle.std.proofs.Common.{sym, ap, subst, ◌∙◌}
use Rattle.rising_lists.specs.Keyed.{at_key, IsRising}
use Rattle.payroll_records.specs.Orders.{day_cmp}
use Rattle.book_year.specs.Records.{record_day}
use Rattle.book_edits.specs.Books.{runs_key, runs_of, year_cmp, year_of}
use Rattle.book_edits.specs.Kept.{runs_in, runs_in_year}
use Rattle.book_edits.proofs.ListLemmas.{rising_map}
use Rattle.book_edits.proofs.MonthLemmas.{runs_rising}
use Rattle.book_edits.proofs.PlaceLemmas.{ok_is, run_found, run_missing, runs_found, year_missing, year_placed}
use Rattle.book_edits.proofs.years.Years.find.Goals as goal

pub place_year-requires : goal.place_year-requires
place_year-requires c =
    rw c.as_slice.ensures.value (rising_map year_cmp runs_key runs_in_year c.args.self.now.list.items c.requires.rising)

pub returns-in_err-at : goal.returns-in_err-at
returns-in_err-at c =
    let none = year_missing c.args.self.now.list.items c.as_slice.result.now (year_of c.args.key.now) c.year_of.result c.place_year.result c.as_slice.ensures.value c.year_of.ensures (sym c.ok.ensures.value ∙ c.in_err-at.was) c.place_year.ensures.absent in
    rw c.from_residual.ensures (ap (λ rs. at_key day_cmp record_day rs c.args.key.now.day) (sym none))

pub place_run-requires : goal.place_run-requires
place_run-requires c =
    let ys = c.args.self.now.list.items in
    let k = year_of c.args.key.now in
    let is = ok_is c.place_year.result c.in_ok-at.at (sym c.ok.ensures.value ∙ c.in_ok-at.was) in
    let found = year_placed ys c.as_slice.result.now k c.year_of.result c.place_year.result c.as_slice.ensures.value c.year_of.ensures c.in_ok-at.at c.index.result.now is c.place_year.ensures.found c.index.ensures in
    let runs = runs_found ys k c.in_ok-at.at c.index.result.now found in
    subst (IsRising day_cmp record_day) (runs ∙ sym c.as_slice-records.ensures.value) (runs_rising (runs_in ys) k c.requires)

pub returns-in_err-run : goal.returns-in_err-run
returns-in_err-run c =
    let ys = c.args.self.now.list.items in
    let k = year_of c.args.key.now in
    let is = ok_is c.place_year.result c.in_ok-at.at (sym c.ok.ensures.value ∙ c.in_ok-at.was) in
    let found = year_placed ys c.as_slice.result.now k c.year_of.result c.place_year.result c.as_slice.ensures.value c.year_of.ensures c.in_ok-at.at c.index.result.now is c.place_year.ensures.found c.index.ensures in
    let runs = runs_found ys k c.in_ok-at.at c.index.result.now found in
    let none = run_missing (runs_of (runs_in ys) k) c.as_slice-records.result.now c.args.key.now.day c.place_run.result (c.as_slice-records.ensures.value ∙ sym runs) (sym c.ok-2.ensures.value ∙ c.in_err-run.was) c.place_run.ensures.absent in
    rw c.from_residual-in_err-run.ensures (sym none)

pub returns : goal.returns
returns c =
    let ys = c.args.self.now.list.items in
    let k = year_of c.args.key.now in
    let is = ok_is c.place_year.result c.in_ok-at.at (sym c.ok.ensures.value ∙ c.in_ok-at.was) in
    let found = year_placed ys c.as_slice.result.now k c.year_of.result c.place_year.result c.as_slice.ensures.value c.year_of.ensures c.in_ok-at.at c.index.result.now is c.place_year.ensures.found c.index.ensures in
    let runs = runs_found ys k c.in_ok-at.at c.index.result.now found in
    let run = ok_is c.place_run.result c.in_ok-run.run' (sym c.ok-2.ensures.value ∙ c.in_ok-run.was) in
    run_found (runs_of (runs_in ys) k) c.as_slice-records.result.now c.args.key.now.day c.place_run.result c.in_ok-run.run' c.index-records-run.result (c.as_slice-records.ensures.value ∙ sym runs) run c.place_run.ensures.found c.index-records-run.is
