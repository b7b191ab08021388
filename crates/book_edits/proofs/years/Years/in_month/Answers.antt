use Rattle.std.proofs.Common.{filter, refl, sym, ap, ◌∙◌}
use Rattle.book_year.specs.declared.year.YearKey.{YearKey}
use Rattle.book_edits.specs.Books.{is_in_month, only_one, runs_key, year_cmp}
use Rattle.book_edits.specs.Kept.{runs_in_year}
use Rattle.book_edits.proofs.ListLemmas.{rising_map}
use Rattle.book_edits.proofs.PlaceLemmas.{runs_found, year_gap, year_placed}
use Rattle.book_edits.proofs.YearsLemmas.{runs_missed}
use Rattle.book_edits.proofs.years.Years.in_month.Goals as goal

pub place_year-requires : goal.place_year-requires
place_year-requires c =
    rw c.as_slice.ensures.value (rising_map year_cmp runs_key runs_in_year c.args.self.now.list.items c.requires.rising)

pub returns-in-Ok : goal.returns-in-Ok
returns-in-Ok c =
    let ys = c.args.self.now.list.items in
    let k : YearKey = record { employee = c.args.employee.now; year = c.args.month.year } in
    let found = year_placed ys c.as_slice.result.now k k c.place_year.result c.as_slice.ensures.value refl c.in-Ok.at c.index.result.now c.in-Ok.is c.place_year.ensures.found c.index.ensures in
    let runs = runs_found ys k c.in-Ok.at c.index.result.now found in
    c.only_one.ensures ∙ ap (λ rs. only_one (filter (λ r. is_in_month c.args.month.month r.day) rs)) (c.as_slice-in-Ok.ensures.value ∙ sym runs)

pub returns-in-Err : goal.returns-in-Err
returns-in-Err c =
    let ys = c.args.self.now.list.items in
    let k : YearKey = record { employee = c.args.employee.now; year = c.args.month.year } in
    let gap = year_gap ys c.as_slice.result.now k k c.place_year.result c.as_slice.ensures.value refl c.in-Err.field-0 c.in-Err.is c.place_year.ensures.absent in
    ap (λ rs. only_one (filter (λ r. is_in_month c.args.month.month r.day) rs)) (sym (runs_missed ys k gap.at))
