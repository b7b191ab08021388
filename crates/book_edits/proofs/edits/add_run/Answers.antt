use Rattle.std.proofs.Common.{Err, sym, ap, ◌∙◌, arith}
use Rattle.std.proofs.lemmas.Result.{err_from_is_err_and}
use Rattle.payroll_records.specs.Orders.{day_cmp}
use Rattle.payroll_records.specs.Tables.{key_of}
use Rattle.book_year.specs.Accepted.{plans_in}
use Rattle.book_year.specs.Records.{put_run, record_day}
use Rattle.book_edits.specs.Books.{year_of}
use Rattle.book_edits.proofs.EditLemmas.{cost_edited, counted_at, counted_in, edited_at, edited_in, runs_none, same_at}
use Rattle.book_edits.proofs.ListLemmas.{put_some}
use Rattle.book_edits.proofs.PlaceLemmas.{year_gap, year_placed}
use Rattle.book_edits.proofs.edits.add_run.Goals as goal

pub put-requires-clause-own : goal.put-requires-clause-own
put-requires-clause-own g c =
    let ys = c.args.years.now.items in
    let k = year_of (key_of c.args.item) in
    let y = c.index_mut-year.result.now in
    let found = year_placed ys c.as_slice.result.now k c.year_of-key.result c.place_year.result c.as_slice.ensures.value (c.year_of-key.ensures ∙ ap year_of c.key.ensures) c.in-Ok.at y c.in-Ok.is c.place_year.ensures.found c.index_mut-year.ensures.value in
    record { employee = sym (ap (λ t. t.employee) found.key); year = sym (ap (λ t. t.year) found.key) }

pub returns-in-Ok-clause-ok : goal.returns-in-Ok-clause-ok
returns-in-Ok-clause-ok g c =
    let ys = c.args.years.now.items in
    let k = year_of (key_of c.args.item) in
    let y = c.index_mut-year.result.now in
    let found = year_placed ys c.as_slice.result.now k c.year_of-key.result c.place_year.result c.as_slice.ensures.value (c.year_of-key.ensures ∙ ap year_of c.key.ensures) c.in-Ok.at y c.in-Ok.is c.place_year.ensures.found c.index_mut-year.ensures.value in
    edited_at (plans_in c.args.plans.now) ys k c.in-Ok.at y c.put.new.self c.put.result (put_run c.args.item) c.requires found c.put.ensures.ok (put_some day_cmp record_day c.args.item y.records.items)

pub returns-in-Ok-clause-err : goal.returns-in-Ok-clause-err
returns-in-Ok-clause-err g c =
    let ys = c.args.years.now.items in
    let k = year_of (key_of c.args.item) in
    let y = c.index_mut-year.result.now in
    let found = year_placed ys c.as_slice.result.now k c.year_of-key.result c.place_year.result c.as_slice.ensures.value (c.year_of-key.ensures ∙ ap year_of c.key.ensures) c.in-Ok.at y c.in-Ok.is c.place_year.ensures.found c.index_mut-year.ensures.value in
    same_at (plans_in c.args.plans.now) ys k c.in-Ok.at y c.put.new.self c.put.result (λ rs. rs) c.requires found c.put.ensures.err

pub returns-in-Ok-clause-counted : goal.returns-in-Ok-clause-counted
returns-in-Ok-clause-counted g c =
    let ys = c.args.years.now.items in
    let k = year_of (key_of c.args.item) in
    let y = c.index_mut-year.result.now in
    let found = year_placed ys c.as_slice.result.now k c.year_of-key.result c.place_year.result c.as_slice.ensures.value (c.year_of-key.ensures ∙ ap year_of c.key.ensures) c.in-Ok.at y c.in-Ok.is c.place_year.ensures.found c.index_mut-year.ensures.value in
    counted_at (plans_in c.args.plans.now) ys k c.in-Ok.at y c.put.new.self c.put.result (put_run c.args.item) c.requires found c.args.steps.now c.put.new.steps c.put.ensures.counted

-- ---- a new year

pub put-requires-in-Err-clause-year : goal.put-requires-in-Err-clause-year
put-requires-in-Err-clause-year g c = c.new-year.ensures.year (plans_in c.args.plans.now)

pub returns-in_err-work-in-Err-clause-counted : goal.returns-in_err-work-in-Err-clause-counted
returns-in_err-work-in-Err-clause-counted g c =
    let ys = c.args.years.now.items in
    let k = year_of (key_of c.args.item) in
    let key = c.year_of-key.ensures ∙ ap year_of c.key.ensures in
    let gap = year_gap ys c.as_slice.result.now k c.year_of-key.result c.place_year.result c.as_slice.ensures.value key c.in-Err.at c.in-Err.is c.place_year.ensures.absent in
    let y = c.new-year.result in
    let p = err_from_is_err_and c.from_residual.result c.from_residual.ensures.1 in
    rw p.1 (counted_in (plans_in c.args.plans.now) ys k c.in-Err.at y c.put-in-Err.new.self (Err p.0) (put_run c.args.item) c.requires gap (c.new-year.ensures.key ∙ key) c.new-year.ensures.none c.args.steps.now c.put-in-Err.new.steps c.in_err-work-in-Err.ensures.counted)

pub returns-in_err-insert-in-Err-clause-counted : goal.returns-in_err-insert-in-Err-clause-counted
returns-in_err-insert-in-Err-clause-counted g c =
    let ys = c.args.years.now.items in
    let k = year_of (key_of c.args.item) in
    let key = c.year_of-key.ensures ∙ ap year_of c.key.ensures in
    let gap = year_gap ys c.as_slice.result.now k c.year_of-key.result c.place_year.result c.as_slice.ensures.value key c.in-Err.at c.in-Err.is c.place_year.ensures.absent in
    let y = c.new-year.result in
    let runs = runs_none (plans_in c.args.plans.now) ys k c.in-Err.at y c.put-in-Err.new.self c.put-in-Err.result (put_run c.args.item) c.requires gap (c.new-year.ensures.key ∙ key) c.new-year.ensures.none in
    let cost = cost_edited (plans_in c.args.plans.now) ys k y (put_run c.args.item) c.requires runs in
    let p = err_from_is_err_and c.from_residual-in_err-insert-in-Err.result c.from_residual-in_err-insert-in-Err.ensures.1 in
    rw p.1 (omega (arith, cost, c.in_ok-work-in-Err.ensures.counted), omega (arith, cost, c.in_ok-work-in-Err.ensures.counted))

pub returns-in_ok-insert-in-Err-clause-ok : goal.returns-in_ok-insert-in-Err-clause-ok
returns-in_ok-insert-in-Err-clause-ok g c =
    let ys = c.args.years.now.items in
    let k = year_of (key_of c.args.item) in
    let key = c.year_of-key.ensures ∙ ap year_of c.key.ensures in
    let gap = year_gap ys c.as_slice.result.now k c.year_of-key.result c.place_year.result c.as_slice.ensures.value key c.in-Err.at c.in-Err.is c.place_year.ensures.absent in
    let y = c.new-year.result in
    rw c.in_ok-insert-in-Err.ensures.items (edited_in (plans_in c.args.plans.now) ys k c.in-Err.at y c.put-in-Err.new.self c.put-in-Err.result (put_run c.args.item) c.requires gap (c.new-year.ensures.key ∙ key) c.new-year.ensures.none c.in_ok-work-in-Err.work c.in_ok-work-in-Err.ensures.ok (put_some day_cmp record_day c.args.item y.records.items))

pub returns-in_ok-insert-in-Err-clause-counted : goal.returns-in_ok-insert-in-Err-clause-counted
returns-in_ok-insert-in-Err-clause-counted g c =
    let ys = c.args.years.now.items in
    let k = year_of (key_of c.args.item) in
    let key = c.year_of-key.ensures ∙ ap year_of c.key.ensures in
    let gap = year_gap ys c.as_slice.result.now k c.year_of-key.result c.place_year.result c.as_slice.ensures.value key c.in-Err.at c.in-Err.is c.place_year.ensures.absent in
    let y = c.new-year.result in
    let runs = runs_none (plans_in c.args.plans.now) ys k c.in-Err.at y c.put-in-Err.new.self c.put-in-Err.result (put_run c.args.item) c.requires gap (c.new-year.ensures.key ∙ key) c.new-year.ensures.none in
    omega (arith, cost_edited (plans_in c.args.plans.now) ys k y (put_run c.args.item) c.requires runs, c.in_ok-work-in-Err.ensures.counted)
