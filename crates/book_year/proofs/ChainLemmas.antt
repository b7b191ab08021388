-- One run more on the walk along a year.
use Rattle.std.proofs.Common.{◌≡◌, ℕ, ◌+◌, ◌*◌, ◌<◌, ◌≤◌, List, [], ◌∷◌, ◌++◌, length, map, Option, sym, ap, subst, ◌∙◌, arith}
use Rattle.std.proofs.Common.{take, drop, get_or, Result, Err, Bool, true, false, Some, None, refl}
use Rattle.std.specs.Prelude.{All}
use Rattle.std.specs.Bool.{OnFalse}
use Rattle.std.proofs.lemmas.List.Elements.{All-get_or}
use Rattle.std.specs.List.{AllByRecursion}
use Rattle.std.specs.Borrow.{Bor}
use Rattle.std.proofs.lemmas.List.{append-nil, length_push, map_push, length-append, take-append-drop, take_more, get_or-map, length-map, length-take-le}
use Rattle.pap_types.specs.Limits.{most_steps}
use Rattle.payroll_records.specs.declared.day.Day.{Day}
use Rattle.payroll_records.specs.declared.record.Record.{Record}
use Rattle.carry_bindings.specs.Conditions.{AreBounded}
use Rattle.carry_bindings.specs.declared.carried.Earlier.{Earlier}
use Rattle.book_year.specs.declared.outcome.Outcome.{Outcome}
use Rattle.book_year.specs.declared.outcome.Work.{Work}
use Rattle.book_year.specs.declared.chain.Ran.{Ran}
use Rattle.plan_calendar.specs.Picking.{Entry}
use Rattle.book_year.specs.Accepted.{Accepted}
use Rattle.book_year.specs.Rows.{Planned, Job, row_of, row_filled, year_rows, earlier_of, done_outputs}
use Rattle.book_year.specs.Records.{records_of}
use Rattle.book_year.specs.Jobs.{new_job, new_jobs, total_cost, Counts}
use Rattle.book_year.specs.Kept.{kept, IsBounded}
use Rattle.book_year.specs.private.ChainClauses.{IsRan, PlanReadsNothing, lent_if}
use Rattle.book_year.proofs.RowLemmas.{rows_more, new_jobs_append, total_append, total_front, row_of_day}
use Rattle.book_year.proofs.OldLemmas.{rows_length}

pub all_push : {X : Type 0} (P : X → Type 0) (xs : List X) (x : X) → AllByRecursion P xs → P x → AllByRecursion P (xs ++ x ∷ [])
all_push P [] x h p = (p, tt)
all_push P (y ∷ xs) x h p = (h.0, all_push P xs x h.1 p)

abbrev pub is_bounded : Earlier → Type 0
is_bounded e = AreBounded e.outputs

-- ---- what is lent

lent_append : (reads : Bool) (xs ys : List Earlier) → lent_if reads (xs ++ ys) ≡ lent_if reads xs ++ lent_if reads ys
lent_append true xs ys = refl
lent_append false xs ys = refl

lent_few : (reads : Bool) (xs : List Earlier) → length (lent_if reads xs) ≤ length xs
lent_few true xs = omega arith
lent_few false xs = omega arith

pub lent_bounded : (reads : Bool) (xs : List Earlier) → AllByRecursion is_bounded xs → AllByRecursion is_bounded (lent_if reads xs)
lent_bounded true xs h = h
lent_bounded false xs h = tt

lent_push : (reads : Bool) (xs : List Earlier) (e : Earlier) → AllByRecursion is_bounded xs → is_bounded e → AllByRecursion is_bounded (xs ++ lent_if reads (e ∷ []))
lent_push true xs e h p = all_push is_bounded xs e h p
lent_push false xs e h p = subst (λ t. AllByRecursion is_bounded t) (sym (append-nil xs)) h

-- a run whose plan reads nothing is the same with nothing lent
row_lent : (o : Option (Entry Accepted)) (reads : Bool) (all : List Earlier) (r : Record) → OnFalse reads (PlanReadsNothing o) → row_of o all r ≡ row_of o (lent_if reads all) r
row_lent o true all r h = refl
row_lent None false all r h = refl
row_lent (Some e) false all r h = ap (row_filled e r.day) (h r.values all)

-- what is known of all runs that are left is known of each
pub quiet_at : (P : Bor Record → Type 0) (reads : Bool) (items : List (Bor Record)) (j : ℕ) (x : Bor Record) → OnFalse reads (All P items) → j < length items → x ≡ get_or items j x → OnFalse reads (P x)
quiet_at P true items j x h l e = tt
quiet_at P false items j x h l e = subst P (sym e) (All-get_or P items j x l h)

-- the runs done so far: what came of them, what is lent to later ones, and the work
pub record IsWalk (planned : Planned) (old : Day → Option Job) (reads : Bool) (done : List Record) (outcomes : List Outcome) (earlier : List Earlier) (runs taken began now : ℕ) : Type 0 where
  pub outcomes_are : outcomes ≡ map kept (year_rows planned done)
  pub earlier_are : earlier ≡ lent_if reads (map earlier_of (year_rows planned done))
  pub kept_bounded : AllByRecursion IsBounded outcomes
  pub bounded : AllByRecursion is_bounded earlier
  pub runs_are : runs ≡ length (new_jobs old (year_rows planned done))
  pub taken_are : taken ≡ total_cost (new_jobs old (year_rows planned done))
  pub runs_few : runs ≤ length done
  pub taken_few : taken ≤ length done * most_steps
  pub counted : now ≡ began + taken

module _ (planned : Planned) (old : Day → Option Job) (reads : Bool) (done : List Record) (outcomes : List Outcome) (earlier : List Earlier) (runs taken began now : ℕ) (walk : IsWalk planned old reads done outcomes earlier runs taken began now) (r : Record) (ran : Ran) (quiet : OnFalse reads (PlanReadsNothing (planned r.day))) (is : IsRan (row_of (planned r.day) earlier r) (old r.day) ran) where
  abbrev new_next : List Job
  new_next = new_job (old r.day) (row_of (planned r.day) earlier r).job

  rows_next : year_rows planned (done ++ r ∷ []) ≡ year_rows planned done ++ row_of (planned r.day) earlier r ∷ []
  rows_next =
      let same = row_lent (planned r.day) reads (map earlier_of (year_rows planned done)) r quiet ∙ ap (λ t. row_of (planned r.day) t r) (sym walk.earlier_are) in
      rows_more planned done r ∙ ap (λ t. year_rows planned done ++ t ∷ []) same

  jobs_next : new_jobs old (year_rows planned (done ++ r ∷ [])) ≡ new_jobs old (year_rows planned done) ++ new_next
  jobs_next =
      ap (new_jobs old) rows_next ∙ new_jobs_append old (year_rows planned done) (row_of (planned r.day) earlier r ∷ []) ∙ ap (λ t. new_jobs old (year_rows planned done) ++ t) (append-nil _ ∙ ap (λ d. new_job (old d) (row_of (planned r.day) earlier r).job) (row_of_day (planned r.day) earlier r))

  pub taken_next : taken + ran.work.steps ≡ total_cost (new_jobs old (year_rows planned (done ++ r ∷ [])))
  taken_next =
      let work = ap (λ (w : Work). w.steps) is.work in
      omega (arith, ap total_cost jobs_next, total_append (new_jobs old (year_rows planned done)) new_next, walk.taken_are)

  pub runs_next : runs + ran.work.runs ≡ length (new_jobs old (year_rows planned (done ++ r ∷ [])))
  runs_next =
      let work = ap (λ (w : Work). w.runs) is.work in
      omega (arith, ap length jobs_next, length-append (new_jobs old (year_rows planned done)) new_next, walk.runs_are)

  pub walk_more : (e : Earlier) (now' : ℕ) → e ≡ record { day = r.day; outputs = done_outputs ran.outcome.state } → now' ≡ now + ran.work.steps →
      IsWalk planned old reads (done ++ r ∷ []) (outcomes ++ ran.outcome ∷ []) (earlier ++ lent_if reads (e ∷ [])) (runs + ran.work.runs) (taken + ran.work.steps) began now'
  walk_more e now' e_is now_is =
      let row = row_of (planned r.day) earlier r in
      let state : done_outputs ran.outcome.state ≡ done_outputs row.state = ap (λ (o : Outcome). done_outputs o.state) is.outcome in
      let read : e ≡ earlier_of row = e_is ∙ (λ i. record { day = sym (row_of_day (planned r.day) earlier r) i; outputs = state i }) in
      let long = length_push done r in
      record {
        outcomes_are = rw (rows_next, map_push kept (year_rows planned done) row, ← walk.outcomes_are, is.outcome);
        earlier_are =
            ap (λ t. earlier ++ lent_if reads (t ∷ [])) read ∙ ap (λ t. t ++ lent_if reads (earlier_of row ∷ [])) walk.earlier_are ∙ sym (lent_append reads (map earlier_of (year_rows planned done)) (earlier_of row ∷ []))
            ∙ sym (ap (lent_if reads) (ap (map earlier_of) rows_next ∙ map_push earlier_of (year_rows planned done) row));
        kept_bounded = all_push IsBounded outcomes ran.outcome walk.kept_bounded (subst AreBounded (sym state) is.bounded);
        bounded = lent_push reads earlier e walk.bounded (subst AreBounded (sym (ap (λ (x : Earlier). x.outputs) read)) is.bounded);
        runs_are = runs_next;
        taken_are = taken_next;
        runs_few = omega (arith, walk.runs_few, is.one);
        taken_few = omega (arith, walk.taken_few, is.cheap);
        counted = omega (arith, walk.counted);
      }

-- the first runs cost no more than all
pub front_le : (planned : Planned) (old : Day → Option Job) (rs : List Record) (n : ℕ) → total_cost (new_jobs old (year_rows planned (take n rs))) ≤ total_cost (new_jobs old (year_rows planned rs))
front_le planned old rs n = subst (λ t. total_cost (new_jobs old (year_rows planned (take n rs))) ≤ total_cost (new_jobs old (year_rows planned t))) (take-append-drop n rs) (total_front planned old (take n rs) (drop n rs))

pub take_step : (items : List (Bor Record)) (i : ℕ) (x : Bor Record) → i < length items → x ≡ get_or items i x → take (i + 1) (records_of items) ≡ take i (records_of items) ++ x.now ∷ []
take_step items i x l e =
    take_more (records_of items) i x.now (omega (arith, length-map items (λ (r : Bor Record). r.now))) ∙ ap (λ t. take i (records_of items) ++ t ∷ []) (get_or-map (λ (r : Bor Record). r.now) items i x x.now l ∙ ap (λ (r : Bor Record). r.now) (sym e))

pub counts_err : {T E : Type 0} (r : Result T E) (e : E) (before now total : ℕ) → r ≡ Err e → before ≤ now → now ≤ before + total → Counts r before now total
counts_err r e before now total is low high = rw is (low, high)

-- where memory ran out before a run, or after it
module _ (planned : Planned) (old : Day → Option Job) (reads : Bool) (items : List (Bor Record)) (i : ℕ) (outcomes : List Outcome) (earlier : List Earlier) (runs taken began now : ℕ) (walk : IsWalk planned old reads (take i (records_of items)) outcomes earlier runs taken began now) where
  abbrev all : ℕ
  all = total_cost (new_jobs old (year_rows planned (records_of items)))

  pub out_before : {T E : Type 0} (r : Result T E) (e : E) (now' : ℕ) → r ≡ Err e → now' ≡ now → Counts r began now' (total_cost (new_jobs old (year_rows planned (records_of items))))
  out_before r e now' is same = counts_err r e began now' all is (omega (arith, walk.counted)) (omega (arith, walk.counted, walk.taken_are, front_le planned old (records_of items) i))

  pub out_after : {T E : Type 0} (r : Result T E) (e : E) (now' : ℕ) (x : Bor Record) (ran : Ran) → r ≡ Err e → i < length items → x ≡ get_or items i x → OnFalse reads (PlanReadsNothing (planned x.now.day)) → IsRan (row_of (planned x.now.day) earlier x.now) (old x.now.day) ran → now' ≡ now + ran.work.steps →
      Counts r began now' (total_cost (new_jobs old (year_rows planned (records_of items))))
  out_after r e now' x ran is l read quiet went after =
      let step = take_step items i x l read in
      let taken' = taken_next planned old reads (take i (records_of items)) outcomes earlier runs taken began now walk x.now ran quiet went ∙ ap (λ t. total_cost (new_jobs old (year_rows planned t))) (sym step) in
      counts_err r e began now' all is (omega (arith, walk.counted)) (omega (arith, walk.counted, front_le planned old (records_of items) (i + 1)))

  pub earlier_few : length items ≤ 366 → i < length items → length earlier ≤ 366
  earlier_few few l =
      let rs = take i (records_of items) in
      omega (arith, ap length walk.earlier_are, lent_few reads (map earlier_of (year_rows planned rs)), length-map (year_rows planned rs) earlier_of, rows_length planned [] rs, length-take-le i (records_of items) (omega (arith, length-map items (λ (r : Bor Record). r.now))))
