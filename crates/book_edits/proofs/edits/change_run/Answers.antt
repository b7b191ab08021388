use Rattle.std.proofs.Common.{sym, ap, ◌∙◌}
use Rattle.payroll_records.specs.Orders.{day_cmp}
use Rattle.payroll_records.specs.Tables.{key_of}
use Rattle.book_year.specs.Accepted.{plans_in}
use Rattle.book_year.specs.Records.{put_run, record_day, without_run}
use Rattle.book_edits.specs.Books.{year_of}
use Rattle.book_edits.proofs.EditLemmas.{counted_at, edited_at, same_at}
use Rattle.book_edits.proofs.ListLemmas.{put_some}
use Rattle.book_edits.proofs.PlaceLemmas.{year_placed, year_there}
use Rattle.book_edits.proofs.edits.change_run.Goals as goal

pub unwrap-at-requires : goal.unwrap-at-requires
unwrap-at-requires g c =
    year_there c.args.years.now.items c.as_slice.result.now (year_of (key_of c.args.item)) c.year_of-key.result c.args.from c.place_year.result c.as_slice.ensures.value (c.year_of-key.ensures ∙ ap year_of c.key.ensures) c.place_year.ensures.absent c.requires.there

pub change-requires-clause-own : goal.change-requires-clause-own
change-requires-clause-own g c =
    let ys = c.args.years.now.items in
    let k = year_of (key_of c.args.item) in
    let y = c.index_mut.result.now in
    let found = year_placed ys c.as_slice.result.now k c.year_of-key.result c.place_year.result c.as_slice.ensures.value (c.year_of-key.ensures ∙ ap year_of c.key.ensures) c.unwrap-at.result y c.unwrap-at.ensures c.place_year.ensures.found c.index_mut.ensures.value in
    record { employee = sym (ap (λ t. t.employee) found.key); year = sym (ap (λ t. t.year) found.key) }

pub returns-clause-ok : goal.returns-clause-ok
returns-clause-ok g c =
    let ys = c.args.years.now.items in
    let k = year_of (key_of c.args.item) in
    let y = c.index_mut.result.now in
    let found = year_placed ys c.as_slice.result.now k c.year_of-key.result c.place_year.result c.as_slice.ensures.value (c.year_of-key.ensures ∙ ap year_of c.key.ensures) c.unwrap-at.result y c.unwrap-at.ensures c.place_year.ensures.found c.index_mut.ensures.value in
    edited_at (plans_in c.args.plans.now) ys k c.unwrap-at.result y c.change.new.self c.change.result (λ rs. put_run c.args.item (without_run c.args.from rs)) c.requires.years found c.change.ensures.ok (put_some day_cmp record_day c.args.item (without_run c.args.from y.records.items))

pub returns-clause-err : goal.returns-clause-err
returns-clause-err g c =
    let ys = c.args.years.now.items in
    let k = year_of (key_of c.args.item) in
    let y = c.index_mut.result.now in
    let found = year_placed ys c.as_slice.result.now k c.year_of-key.result c.place_year.result c.as_slice.ensures.value (c.year_of-key.ensures ∙ ap year_of c.key.ensures) c.unwrap-at.result y c.unwrap-at.ensures c.place_year.ensures.found c.index_mut.ensures.value in
    same_at (plans_in c.args.plans.now) ys k c.unwrap-at.result y c.change.new.self c.change.result (λ rs. rs) c.requires.years found c.change.ensures.err

pub returns-clause-counted : goal.returns-clause-counted
returns-clause-counted g c =
    let ys = c.args.years.now.items in
    let k = year_of (key_of c.args.item) in
    let y = c.index_mut.result.now in
    let found = year_placed ys c.as_slice.result.now k c.year_of-key.result c.place_year.result c.as_slice.ensures.value (c.year_of-key.ensures ∙ ap year_of c.key.ensures) c.unwrap-at.result y c.unwrap-at.ensures c.place_year.ensures.found c.index_mut.ensures.value in
    counted_at (plans_in c.args.plans.now) ys k c.unwrap-at.result y c.change.new.self c.change.result (λ rs. put_run c.args.item (without_run c.args.from rs)) c.requires.years found c.args.steps.now c.change.new.steps c.change.ensures.counted
