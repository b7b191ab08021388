-- The front of a year that stays: its runs are taken as they are kept.
use Rattle.std.proofs.Common.{◌≡◌, ℕ, zero, suc, ◌+◌, ◌<◌, ◌≤◌, List, [], ◌∷◌, ◌++◌, map, length, take, drop, get_or, Bool, true, false, not, ◌&&◌, ◌==◌, Some, None, refl, sym, ap, subst, ◌∙◌, arith}
use Rattle.std.specs.Prelude.{◌-◌}
use Rattle.std.specs.List.{AllByRecursion}
use Rattle.std.specs.Borrow.{Bor}
use Rattle.std.specs.Ordering.{is_gt}
use Rattle.std.specs.declared.cmp.Ordering.TheVariants.{Less}
use Rattle.std.proofs.lemmas.List.{take_more, take-map, take-append-drop, take_all, take_at, take_rest, get_or-drop, get_or-map, get_or-take, length-drop, length-map, length-take, length-take-le, map_push}
use Rattle.payroll_records.specs.declared.day.Day.{Day}
use Rattle.payroll_records.specs.declared.record.Record.{Record}
use Rattle.payroll_records.specs.Orders.{day_cmp}
use Rattle.plan_calendar.specs.Picking.{Entry, pick, serves}
use Rattle.plan_calendar.specs.Edits.{is_by, moves}
use Rattle.carry_bindings.specs.declared.carried.Earlier.{Earlier}
use Rattle.book_year.specs.Accepted.{Accepted, plans_in}
use Rattle.book_year.specs.declared.outcome.Outcome.{Outcome}
use Rattle.book_year.specs.declared.outcome.State.TheVariants as state
use Rattle.book_year.specs.declared.chain.Old.{Old}
use Rattle.book_year.specs.declared.picks.Edit.{Edit}
use Rattle.book_year.specs.declared.picks.Picks.{Picks}
use Rattle.book_year.specs.Records.{records_of}
use Rattle.book_year.specs.Rows.{Planned, Row, rows, year_rows, earlier_of, done_outputs}
use Rattle.book_year.specs.Jobs.{new_jobs, total_cost}
use Rattle.book_year.specs.Kept.{AreKept, IsBounded, IsOld, kept}
use Rattle.book_year.specs.Picks.{planned_before, planned_after, after_by}
use Rattle.book_year.specs.ChainClauses.{KeepsFront, old_jobs}
use Rattle.book_year.proofs.RowLemmas.{rows_append, row_of_day}
use Rattle.book_year.proofs.OldLemmas.{next, rows_length}
use Rattle.book_year.proofs.QuietLemmas.{IsFound, own_rows, none_new, rows_agree}
use Rattle.book_year.proofs.BeforeLemmas.{IsBefore, day_back}
use Rattle.book_year.specs.private.ChainClauses.{lent_if}
use Rattle.book_year.proofs.ChainLemmas.{IsWalk, is_bounded, lent_bounded}

-- ---- plans

pub all_each : {X : Type 0} (P : X → Type 0) (xs : List X) → ((x : X) → P x) → AllByRecursion P xs
all_each P [] h = tt
all_each P (x ∷ xs) h = (h x, all_each P xs h)

all_turned : {X : Type 0} (P Q : X → Type 0) (xs : List X) → ((x : X) → P x → Q x) → AllByRecursion P xs → AllByRecursion Q xs
all_turned P Q [] f h = tt
all_turned P Q (x ∷ xs) f h = (f x h.0, all_turned P Q xs f h.1)

abbrev pub KeepsPlan : Picks → Record → Type 0
KeepsPlan p r = planned_after p r.day ≡ planned_before p r.day

pub all_front : {X : Type 0} (P : X → Type 0) (xs : List X) (n : ℕ) → AllByRecursion P xs → AllByRecursion P (take n xs)
all_front P xs zero h = tt
all_front P [] (suc n) h = tt
all_front P (x ∷ xs) (suc n) h = (h.0, all_front P xs n h.1)

and_no : (a b : Bool) → b ≡ false → (a && b) ≡ false
and_no true b e = e
and_no false b e = refl

-- an edit of the calendar leaves the days planned_before it
left_by : (plans : List (Entry Accepted)) (e : Edit) (d : Day) → day_cmp d e.day ≡ Less → after_by plans (Some e) d ≡ pick plans d
left_by plans e d l =
    let late = ap (λ o. not (is_gt o)) (day_back d e.day l) in
    let served : serves e.day d ≡ false = and_no (e.day.year == d.year) (not (is_gt (day_cmp e.day d))) late in
    let moved : moves plans e.day d ≡ false = ap (λ b. b && is_by (pick plans d) e.day) served in
    rw moved

pub plans_kept : (p : Picks) (e : Edit) (rs : List Record) → p.edit ≡ Some e → AllByRecursion (IsBefore e.day) rs → AllByRecursion (KeepsPlan p) rs
plans_kept p e rs is h =
    all_turned (IsBefore e.day) (KeepsPlan p) rs (λ r l. ap (λ o. after_by (plans_in p.plans.now) o r.day) is ∙ left_by (plans_in p.plans.now) e r.day l) h

pub plans_stay : (p : Picks) (rs : List Record) → p.edit ≡ None → AllByRecursion (KeepsPlan p) rs
plans_stay p rs is = all_each (KeepsPlan p) rs (λ r. ap (λ o. after_by (plans_in p.plans.now) o r.day) is)

pub front_is : (p : Picks) (old : Old) (items : List (Bor Record)) (rs new : List Record) (n : ℕ) → old.records.now ≡ rs → records_of items ≡ new → n ≤ length rs → take n new ≡ take n rs →
    AllByRecursion (KeepsPlan p) (take n rs) → KeepsFront p old items n
front_is p old items rs new n was now within same plans = record {
  within = subst (λ t. n ≤ length t) (sym was) within;
  records = ap (take n) now ∙ same ∙ ap (take n) (sym was);
  plans = subst (λ t. AllByRecursion (KeepsPlan p) (take n t)) (sym was) plans;
}

-- ---- rows

rows_day : (planned : Planned) (earlier : List Earlier) (rs : List Record) (i : ℕ) (d : Row) (r : Record) → i < length rs → (get_or (rows planned earlier rs) i d).day ≡ (get_or rs i r).day
rows_day planned earlier [] i d r l = absurd (omega (arith, l))
rows_day planned earlier (x ∷ rs) zero d r l = row_of_day (planned x.day) earlier x
rows_day planned earlier (x ∷ rs) (suc i) d r l = rows_day planned (next planned earlier x) rs i d r (omega (arith, l))

-- the runs of a front are a front of the runs
rows_front : (planned : Planned) (rs : List Record) (n : ℕ) → n ≤ length rs → year_rows planned (take n rs) ≡ take n (year_rows planned rs)
rows_front planned rs n l =
    let first = year_rows planned (take n rs) in
    let rest = rows planned (map earlier_of first) (drop n rs) in
    sym (ap (λ t. take n (year_rows planned t)) (sym (take-append-drop n rs)) ∙ ap (take n) (rows_append planned [] (take n rs) (drop n rs))
    ∙ take_at first rest n (rows_length planned [] (take n rs) ∙ length-take-le n rs l))

-- one more of the runs that are kept
pub read_more : (planned : Planned) (rs : List Record) (os : List Outcome) (i : ℕ) (was now : List Earlier) (r : Record) (o : Outcome) → AreKept planned rs os → i < length rs → was ≡ map earlier_of (take i (year_rows planned rs)) →
    r ≡ get_or rs i r → o ≡ get_or os i o → now ≡ was ++ record { day = r.day; outputs = done_outputs o.state } ∷ [] → now ≡ map earlier_of (take (i + 1) (year_rows planned rs))
read_more planned rs os i was now r o are l done at read push =
    let d : Row = record { day = r.day; plan = None; job = None; state = state.NoPlan } in
    let all = year_rows planned rs in
    let row = get_or all i d in
    let long : i < length all = omega (arith, rows_length planned [] rs) in
    let more = take_more all i d long in
    let same : o ≡ kept row = read ∙ ap (λ t. get_or t i o) are.are ∙ get_or-map kept all i d o long in
    let day : r.day ≡ row.day = ap (λ (x : Record). x.day) at ∙ sym (rows_day planned [] rs i d r l) in
    let one : ◌≡◌ {A = Earlier} (record { day = r.day; outputs = done_outputs o.state }) (earlier_of row) = λ j. record { day = day j; outputs = done_outputs (same j).state } in
    push ∙ (λ j. done j ++ one j ∷ []) ∙ sym (map_push earlier_of (take i all) row) ∙ ap (map earlier_of) (sym more)

-- one of the first outcomes
pub taken_read : (os : List Outcome) (n i : ℕ) (x : Outcome) → x ≡ get_or (take n os) i x → i < length (take n os) → x ≡ get_or os i x
taken_read os n i x at l = at ∙ get_or-take n os i x (omega (arith, l, length-take n os))

-- the runs behind the front
pub rest_within : (items : List (Bor Record)) (n j : ℕ) → j < length (take (length items - n) (drop n items)) → n + j < length items
rest_within items n j l = omega (arith, l, ap length (take_rest items n), length-drop n items)

pub rest_read : (items : List (Bor Record)) (n j : ℕ) (x : Bor Record) → x ≡ get_or (take (length items - n) (drop n items)) j x → x ≡ get_or items (n + j) x
rest_read items n j x e = e ∙ ap (λ t. get_or t j x) (take_rest items n) ∙ get_or-drop n items j x

-- all runs: those of the front and those behind it
pub all_taken : (items : List (Bor Record)) (n j : ℕ) → length (take (length items - n) (drop n items)) ≤ j → take (n + j) (records_of items) ≡ records_of items
all_taken items n j l = take_all (n + j) (records_of items) (omega (arith, l, ap length (take_rest items n), length-drop n items, length-map items (λ (r : Bor Record). r.now)))

-- ---- the walk begins behind the front

bounded_read : (xs : List Row) → AllByRecursion IsBounded (map kept xs) → AllByRecursion is_bounded (map earlier_of xs)
bounded_read [] h = tt
bounded_read (x ∷ xs) h = (h.0, bounded_read xs h.1)

pub walk_front : (p : Picks) (old : Old) (reads : Bool) (items : List (Bor Record)) (n : ℕ) (earlier : List Earlier) (began now : ℕ) → IsOld (planned_before p) old → KeepsFront p old items n →
    earlier ≡ lent_if reads (map earlier_of (take n (year_rows (planned_before p) old.records.now))) → now ≡ began → IsWalk (planned_after p) (old_jobs p old) reads (take n (records_of items)) (take n old.outcomes.now) earlier 0 0 began now
walk_front p old reads items n earlier began now is front are same =
    let rs = old.records.now in
    let all = year_rows (planned_before p) rs in
    let these : year_rows (planned_after p) (take n (records_of items)) ≡ take n all =
    ap (year_rows (planned_after p)) front.records ∙ rows_agree (planned_after p) (planned_before p) [] (take n rs) front.plans ∙ rows_front (planned_before p) rs n front.within in
    let none : new_jobs (old_jobs p old) (year_rows (planned_after p) (take n (records_of items))) ≡ [] =
    ap (new_jobs (old_jobs p old)) these ∙ none_new all (take n all) (all_front (IsFound all) all n (own_rows (planned_before p) rs is.rising)) in
    let first : take n old.outcomes.now ≡ map kept (take n all) = ap (take n) is.are ∙ take-map kept n all in
    let bounded = all_front IsBounded old.outcomes.now n is.bounded in
    record {
      outcomes_are = first ∙ ap (map kept) (sym these);
      earlier_are = are ∙ ap (λ t. lent_if reads (map earlier_of t)) (sym these);
      kept_bounded = bounded;
      bounded = subst (λ t. AllByRecursion is_bounded t) (sym are) (lent_bounded reads (map earlier_of (take n all)) (bounded_read (take n all) (subst (λ t. AllByRecursion IsBounded t) first bounded)));
      runs_are = sym (ap length none);
      taken_are = sym (ap total_cost none);
      runs_few = omega arith;
      taken_few = omega arith;
      counted = omega (arith, same);
    }
