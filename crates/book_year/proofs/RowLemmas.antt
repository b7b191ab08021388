-- Laws of a year's runs.
use Rattle.std.proofs.Common.{◌≡◌, ◌+◌, ◌≤◌, List, [], ◌∷◌, ◌++◌, map, Option, Some, None, refl, ap, ◌∙◌, append_assoc, arith}
use Rattle.std.proofs.lemmas.List.{append-nil}
use Rattle.std.proofs.lemmas.List.Concat.{flat_map-append}
use Rattle.std.proofs.lemmas.List.Sums.{sum_by-append}
use Rattle.payroll_records.specs.declared.day.Day.{Day}
use Rattle.payroll_records.specs.declared.record.Record.{Record}
use Rattle.plan_calendar.specs.Picking.{Entry, plan_of}
use Rattle.carry_bindings.specs.declared.carried.Earlier.{Earlier}
use Rattle.carry_bindings.specs.declared.filling.Filled.{Filled}
use Rattle.carry_bindings.specs.declared.filling.Filled.TheVariants as filling
use Rattle.pay_run.specs.Runs.{filled}
use Rattle.book_year.specs.Accepted.{Accepted}
use Rattle.book_year.specs.Rows.{Planned, Job, Row, row_of, row_filled, rows, year_rows, earlier_of}
use Rattle.book_year.specs.Jobs.{new_job, new_jobs, total_cost, job_cost}

pub rows_append : (planned : Planned) (earlier : List Earlier) (xs ys : List Record) →
    rows planned earlier (xs ++ ys) ≡ rows planned earlier xs ++ rows planned (earlier ++ map earlier_of (rows planned earlier xs)) ys
rows_append planned earlier [] ys = rw append-nil
rows_append planned earlier (x ∷ xs) ys =
    let row = row_of (planned x.day) earlier x in
    let more = rows_append planned (earlier ++ earlier_of row ∷ []) xs ys in
    ap (λ t. row ∷ t) (more ∙ ap (λ e. rows planned (earlier ++ earlier_of row ∷ []) xs ++ rows planned e ys) (append_assoc earlier (earlier_of row ∷ []) _))

-- one run more
pub rows_more : (planned : Planned) (xs : List Record) (r : Record) →
    year_rows planned (xs ++ r ∷ []) ≡ year_rows planned xs ++ row_of (planned r.day) (map earlier_of (year_rows planned xs)) r ∷ []
rows_more planned xs r = rows_append planned [] xs (r ∷ [])

pub new_jobs_append : (old : Day → Option Job) (xs ys : List Row) → new_jobs old (xs ++ ys) ≡ new_jobs old xs ++ new_jobs old ys
new_jobs_append old xs ys = flat_map-append (λ (row : Row). new_job (old row.day) row.job) xs ys

pub total_append : (xs ys : List Job) → total_cost (xs ++ ys) ≡ total_cost xs + total_cost ys
total_append xs ys = sum_by-append job_cost xs ys

-- the cost of the first runs is within that of all
pub total_front : (planned : Planned) (old : Day → Option Job) (xs ys : List Record) →
    total_cost (new_jobs old (year_rows planned xs)) ≤ total_cost (new_jobs old (year_rows planned (xs ++ ys)))
total_front planned old xs ys =
    let e = ap (λ t. total_cost (new_jobs old t)) (rows_append planned [] xs ys) in
    let f = ap total_cost (new_jobs_append old (year_rows planned xs) (rows planned (map earlier_of (year_rows planned xs)) ys)) in
    let g = total_append (new_jobs old (year_rows planned xs)) (new_jobs old (rows planned (map earlier_of (year_rows planned xs)) ys)) in
    omega arith

row_filled_day : (e : Entry Accepted) (d : Day) (f : Filled) → (row_filled e d f).day ≡ d
row_filled_day e d (filling.Inputs is) = refl
row_filled_day e d (filling.State why) = refl

pub row_of_day : (o : Option (Entry Accepted)) (earlier : List Earlier) (r : Record) → (row_of o earlier r).day ≡ r.day
row_of_day None earlier r = refl
row_of_day (Some e) earlier r = row_filled_day e r.day (filled (plan_of e) r.values earlier)
