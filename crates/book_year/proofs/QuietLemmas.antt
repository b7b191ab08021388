-- A year whose plans and records stay has no new jobs.
use Rattle.std.proofs.Common.{◌≡◌, List, [], ◌∷◌, ◌++◌, true, refl, sym, ap, subst, ◌∙◌, if◌then◌else◌}
use Rattle.std.specs.Prelude.{Option, Some, None}
use Rattle.std.specs.List.{AllByRecursion}
use Rattle.std.specs.Str.{bytes_eq}
use Rattle.std.specs.Ordering.{is_eq}
use Rattle.std.specs.Cmp.{IsTotalOrder}
use Rattle.std.specs.declared.cmp.Ordering.{Ordering}
use Rattle.std.proofs.lemmas.Cmp.{tied_itself}
use Rattle.std.proofs.lemmas.Slice.Eq.{slice_eq-Decides, bytes_eq-Decides}
use Rattle.rising_lists.specs.Keyed.{at_key, AreAbove, IsRising}
use Rattle.payroll_records.specs.declared.day.Day.{Day}
use Rattle.payroll_records.specs.declared.record.Record.{Record}
use Rattle.payroll_records.specs.Orders.{day_cmp}
use Rattle.payroll_records.proofs.Laws.{day_total}
use Rattle.carry_bindings.specs.declared.carried.Earlier.{Earlier}
use Rattle.book_year.specs.Records.{record_day}
use Rattle.book_year.specs.Rows.{Planned, Job, Row, row_of, rows, year_rows, earlier_of}
use Rattle.book_year.specs.Jobs.{has_texts, same_inputs, same_job, new_job, new_jobs, job_at}
use Rattle.book_year.specs.Years.{year_jobs}
use Rattle.book_year.proofs.RowLemmas.{row_of_day}
use Rattle.book_year.proofs.OldLemmas.{row_day, next}
use Rattle.book_year.proofs.JobLemmas.{and_true, decimal_decides}

-- ---- the element at an element's own key is that element

module _ {K X : Type 0} (cmp : K → K → Ordering) (total : IsTotalOrder cmp) (key : X → K) where
  below : (x : X) (xs ys : List X) → AreAbove cmp key (key x) ys → AllByRecursion (λ y. at_key cmp key xs (key y) ≡ Some y) ys → AllByRecursion (λ y. at_key cmp key (x ∷ xs) (key y) ≡ Some y) ys
  below x xs [] above h = tt
  below x xs (y ∷ ys) above h = (ap (λ o. if is_eq o then Some x else at_key cmp key xs (key y)) above.0 ∙ h.0, below x xs ys above.1 h.1)

  own_keys : (xs : List X) → IsRising cmp key xs → AllByRecursion (λ x. at_key cmp key xs (key x) ≡ Some x) xs
  own_keys [] h = tt
  own_keys (x ∷ xs) h = (ap (λ o. if is_eq o then Some x else at_key cmp key xs (key x)) (tied_itself total (key x)), below x xs xs h.0 (own_keys xs h.1))

-- ---- the days of a year's runs rise

module _ (planned : Planned) where
  rows_above : (d : Day) (earlier : List Earlier) (rs : List Record) → AreAbove day_cmp record_day d rs → AreAbove day_cmp row_day d (rows planned earlier rs)
  rows_above d earlier [] h = tt
  rows_above d earlier (r ∷ rs) h = (ap (day_cmp d) (row_of_day (planned r.day) earlier r) ∙ h.0, rows_above d (next planned earlier r) rs h.1)

  pub rows_rising : (earlier : List Earlier) (rs : List Record) → IsRising day_cmp record_day rs → IsRising day_cmp row_day (rows planned earlier rs)
  rows_rising earlier [] h = tt
  rows_rising earlier (r ∷ rs) h = (
    subst (λ d. AreAbove day_cmp row_day d (rows planned (next planned earlier r) rs)) (sym (row_of_day (planned r.day) earlier r)) (rows_above r.day (next planned earlier r) rs h.0),
    rows_rising (next planned earlier r) rs h.1,
  )

-- ---- no new jobs

own_job : (j : Job) → same_job j j ≡ true
own_job j =
    let plan = (bytes_eq-Decides j.plan.plan j.plan.plan).1 refl in
    let limits = (bytes_eq-Decides j.plan.limits j.plan.limits).1 refl in
    let inputs = (slice_eq-Decides decimal_decides j.inputs j.inputs (same_inputs j.inputs j.inputs) refl).1 refl in
    and_true (has_texts j.plan j.plan) (same_inputs j.inputs j.inputs) (and_true (bytes_eq j.plan.plan j.plan.plan) (bytes_eq j.plan.limits j.plan.limits) plan limits) inputs

own_new : (o : Option Job) → new_job o o ≡ []
own_new None = refl
own_new (Some j) = ap (λ b. if b then [] else j ∷ []) (own_job j)

-- the run of the row's day is this row
abbrev pub IsFound : List Row → Row → Type 0
IsFound all row = at_key day_cmp row_day all (row_day row) ≡ Some row

pub own_rows : (planned : Planned) (rs : List Record) → IsRising day_cmp record_day rs → AllByRecursion (IsFound (year_rows planned rs)) (year_rows planned rs)
own_rows planned rs h = own_keys day_cmp day_total row_day (year_rows planned rs) (rows_rising planned [] rs h)

pub none_new : (all some : List Row) → AllByRecursion (IsFound all) some → new_jobs (job_at all) some ≡ []
none_new all [] h = refl
none_new all (row ∷ some) h =
    let at : job_at all row.day ≡ row.job = rw h.0 in
    ap (λ o. new_job o row.job ++ new_jobs (job_at all) some) at ∙ ap (λ t. t ++ new_jobs (job_at all) some) (own_new row.job) ∙ none_new all some h.1

pub year_quiet : (planned : Planned) (rs : List Record) → IsRising day_cmp record_day rs → year_jobs planned planned rs rs ≡ []
year_quiet planned rs h = none_new (year_rows planned rs) (year_rows planned rs) (own_rows planned rs h)

-- ---- plans that agree on a year's days give the same runs

pub rows_agree : (p q : Planned) (earlier : List Earlier) (rs : List Record) → AllByRecursion (λ r. p r.day ≡ q r.day) rs → rows p earlier rs ≡ rows q earlier rs
rows_agree p q earlier [] h = refl
rows_agree p q earlier (r ∷ rs) h =
    ap (λ o. row_of o earlier r ∷ rows p (earlier ++ earlier_of (row_of o earlier r) ∷ []) rs) h.0
    ∙ ap (λ t. row_of (q r.day) earlier r ∷ t) (rows_agree p q (next q earlier r) rs h.1)
