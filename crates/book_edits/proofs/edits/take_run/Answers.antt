use Rattle.std.proofs.Common.{◌≡◌, length, IsSome, ap, subst, arith}
use Rattle.rising_lists.specs.Keyed.{at_key}
use Rattle.payroll_records.specs.Orders.{day_cmp}
use Rattle.book_year.specs.Accepted.{plans_in}
use Rattle.book_year.specs.Records.{record_day, without_run}
use Rattle.book_edits.specs.Books.{runs_of, year_of}
use Rattle.book_edits.specs.Kept.{runs_in}
use Rattle.book_edits.proofs.CountLemmas.{none_left, some_left}
use Rattle.book_edits.proofs.EditLemmas.{cost_none, counted_at, edited_at, removed_at, same_at}
use Rattle.book_edits.proofs.PlaceLemmas.{runs_found, year_placed, year_there}
use Rattle.book_edits.proofs.edits.take_run.Goals as goal

pub unwrap-at-requires : goal.unwrap-at-requires
unwrap-at-requires g c =
    year_there c.args.years.now.items c.as_slice.result.now (year_of c.args.key.now) c.year_of.result c.args.key.now.day c.place_year.result c.as_slice.ensures.value c.year_of.ensures c.place_year.ensures.absent c.requires.there

pub returns-then-len-eq1-clause-ok : goal.returns-then-len-eq1-clause-ok
returns-then-len-eq1-clause-ok g c =
    let ys = c.args.years.now.items in
    let k = year_of c.args.key.now in
    let day = c.args.key.now.day in
    let y = c.index.result.now in
    let found = year_placed ys c.as_slice.result.now k c.year_of.result c.place_year.result c.as_slice.ensures.value c.year_of.ensures c.unwrap-at.result y c.unwrap-at.ensures c.place_year.ensures.found c.index.ensures in
    let runs = runs_found ys k c.unwrap-at.result y found in
    let none = none_left day (runs_of (runs_in ys) k) c.requires.there (omega (arith, ap length runs, y.records.ok.0)) in
    rw c.remove-year.ensures.items (removed_at (plans_in c.args.plans.now) ys k c.unwrap-at.result y (without_run day) c.requires.years found none)

pub returns-then-len-eq1-clause-counted : goal.returns-then-len-eq1-clause-counted
returns-then-len-eq1-clause-counted g c =
    let ys = c.args.years.now.items in
    let k = year_of c.args.key.now in
    let day = c.args.key.now.day in
    let y = c.index.result.now in
    let found = year_placed ys c.as_slice.result.now k c.year_of.result c.place_year.result c.as_slice.ensures.value c.year_of.ensures c.unwrap-at.result y c.unwrap-at.ensures c.place_year.ensures.found c.index.ensures in
    let runs = runs_found ys k c.unwrap-at.result y found in
    let none = none_left day (runs_of (runs_in ys) k) c.requires.there (omega (arith, ap length runs, y.records.ok.0)) in
    omega (arith, cost_none (plans_in c.args.plans.now) ys k (without_run day) c.requires.years none)

pub returns-clause-ok : goal.returns-clause-ok
returns-clause-ok g c =
    let ys = c.args.years.now.items in
    let k = year_of c.args.key.now in
    let day = c.args.key.now.day in
    let was = c.index.result.now in
    let y = c.index_mut.result.now in
    let before = year_placed ys c.as_slice.result.now k c.year_of.result c.place_year.result c.as_slice.ensures.value c.year_of.ensures c.unwrap-at.result was c.unwrap-at.ensures c.place_year.ensures.found c.index.ensures in
    let found = year_placed ys c.as_slice.result.now k c.year_of.result c.place_year.result c.as_slice.ensures.value c.year_of.ensures c.unwrap-at.result y c.unwrap-at.ensures c.place_year.ensures.found c.index_mut.ensures.value in
    let runs = runs_found ys k c.unwrap-at.result was before in
    let same = runs_found ys k c.unwrap-at.result y found in
    let there : IsSome (at_key day_cmp record_day y.records.items day) = subst (λ rs. IsSome (at_key day_cmp record_day rs day)) same c.requires.there in
    let more : length y.records.items ≡ 1 → ⊥ = λ one. c.if-len-eq1.false (omega (arith, ap length runs, ap length same, was.records.ok.0, one)) in
    edited_at (plans_in c.args.plans.now) ys k c.unwrap-at.result y c.take.new.self c.take.result (without_run day) c.requires.years found c.take.ensures.ok (some_left day y.records.items there more)

pub returns-clause-err : goal.returns-clause-err
returns-clause-err g c =
    let ys = c.args.years.now.items in
    let k = year_of c.args.key.now in
    let y = c.index_mut.result.now in
    let found = year_placed ys c.as_slice.result.now k c.year_of.result c.place_year.result c.as_slice.ensures.value c.year_of.ensures c.unwrap-at.result y c.unwrap-at.ensures c.place_year.ensures.found c.index_mut.ensures.value in
    same_at (plans_in c.args.plans.now) ys k c.unwrap-at.result y c.take.new.self c.take.result (λ rs. rs) c.requires.years found c.take.ensures.err

pub returns-clause-counted : goal.returns-clause-counted
returns-clause-counted g c =
    let ys = c.args.years.now.items in
    let k = year_of c.args.key.now in
    let y = c.index_mut.result.now in
    let found = year_placed ys c.as_slice.result.now k c.year_of.result c.place_year.result c.as_slice.ensures.value c.year_of.ensures c.unwrap-at.result y c.unwrap-at.ensures c.place_year.ensures.found c.index_mut.ensures.value in
    counted_at (plans_in c.args.plans.now) ys k c.unwrap-at.result y c.take.new.self c.take.result (without_run c.args.key.now.day) c.requires.years found c.args.steps.now c.take.new.steps c.take.ensures.counted
