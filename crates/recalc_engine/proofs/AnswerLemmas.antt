-- An edit has one answer.
use Rattle.std.proofs.Common.{◌≡◌, ℕ, ◌+◌, inl, inr, List, length, Option, Some, None, Result, Ok, Err, IsSome, IsNone, is_some, true, false, Bool, if◌then◌else◌, refl, sym, ap, subst, ◌∙◌, arith, rules}
use Rattle.std.proofs.Math.Bridge.{le_prop}
use Rattle.std.proofs.Math.Dec.{T_prop}
use Rattle.std.proofs.lemmas.Bool.{cases_lt}
use Rattle.rising_lists.proofs.Laws.{none_some, some_same}
use Rattle.payroll_records.specs.declared.day.Day.{Day}
use Rattle.payroll_records.specs.declared.month.Month.{Month}
use Rattle.payroll_records.specs.declared.record.Key.{Key}
use Rattle.payroll_records.specs.declared.record.Record.{Record}
use Rattle.payroll_records.specs.declared.when.When.{When}
use Rattle.payroll_records.specs.declared.when.When.TheVariants as when
use Rattle.payroll_records.specs.Days.{IsMonth}
use Rattle.payroll_records.specs.Tables.{key_of}
use Rattle.plan_calendar.specs.Picking.{Entry, day_of, entry_at}
use Rattle.book_year.specs.Accepted.{Accepted}
use Rattle.book_edits.specs.declared.in_month.InMonth.{InMonth}
use Rattle.book_edits.specs.declared.in_month.InMonth.TheVariants.{Empty, One, Several}
use Rattle.book_edits.specs.declared.refusal.EditRefusal.{EditRefusal}
use Rattle.book_edits.specs.declared.refusal.EditRefusal.TheVariants as refusal
use Rattle.book_edits.specs.Books.{run_at, run_count, source_of, withdrawal}
use Rattle.book_edits.specs.Refusals.{CanAdd, HasMostRecords, IsMonthOf, IsOne, most_records}
use Rattle.book_edits.specs.Replans.{HasMostPlans, most_plans}
use Rattle.book_edits.specs.Loads.{CanLoad, IsOver, first_present}
use Rattle.recalc_engine.specs.Contents.{Contents}
use Rattle.recalc_engine.specs.EditAnswers.{add, change, withdraw, load, put, drop, EditAnswers, EditsHaveOneAnswer, EditHasOneAnswer, edited_book}

none_or_some : {X : Type 0} (o : Option X) → IsNone o → IsSome o → ⊥
none_or_some None n s = cc
none_or_some (Some x) n s = cc

abbrev Answer : Type 0
Answer = Result Contents EditRefusal

-- ---- a run added

module _ (book : Contents) (r : Record) where
  add_taken : IsSome (run_at book.years (key_of r)) → EditHasOneAnswer book (add r)
  add_taken there = record { answer = Err (refusal.Present (key_of r)); says = (refl, there); alone = by }
    where
      by : (other : Answer) → EditAnswers book (add r) other → other ≡ Err (refusal.Present (key_of r))
      by (Ok next) h = absurd (none_or_some (run_at book.years (key_of r)) h.0.free there)
      by (Err (refusal.Present k)) h = ap (λ t. Err (refusal.Present t)) h.0
      by (Err refusal.Records) h = absurd (none_or_some (run_at book.years (key_of r)) h.free there)
      by (Err (refusal.Memory x)) h = absurd h
      by (Err (refusal.Absent e w)) h = absurd h
      by (Err (refusal.Several e m)) h = absurd h
      by (Err refusal.Plans) h = absurd h
      by (Err (refusal.NoPlanThere d)) h = absurd h

  add_full : HasMostRecords book.years r → EditHasOneAnswer book (add r)
  add_full full = record { answer = Err refusal.Records; says = full; alone = by }
    where
      by : (other : Answer) → EditAnswers book (add r) other → other ≡ Err refusal.Records
      by (Ok next) h = absurd (omega (arith, full.full, h.0.room))
      by (Err (refusal.Present k)) h =
          absurd (none_or_some (run_at book.years (key_of r)) full.free (subst (λ t. IsSome (run_at book.years t)) h.0 h.1))
      by (Err refusal.Records) h = refl
      by (Err (refusal.Memory x)) h = absurd h
      by (Err (refusal.Absent e w)) h = absurd h
      by (Err (refusal.Several e m)) h = absurd h
      by (Err refusal.Plans) h = absurd h
      by (Err (refusal.NoPlanThere d)) h = absurd h

  add_made : CanAdd book.years r → EditHasOneAnswer book (add r)
  add_made can = record { answer = Ok (edited_book (add r) book); says = (can, refl); alone = by }
    where
      by : (other : Answer) → EditAnswers book (add r) other → other ≡ Ok (edited_book (add r) book)
      by (Ok next) h = ap (λ t. Ok t) h.1
      by (Err (refusal.Present k)) h =
          absurd (none_or_some (run_at book.years (key_of r)) can.free (subst (λ t. IsSome (run_at book.years t)) h.0 h.1))
      by (Err refusal.Records) h = absurd (omega (arith, can.room, h.full))
      by (Err (refusal.Memory x)) h = absurd h
      by (Err (refusal.Absent e w)) h = absurd h
      by (Err (refusal.Several e m)) h = absurd h
      by (Err refusal.Plans) h = absurd h
      by (Err (refusal.NoPlanThere d)) h = absurd h

  add_free : IsNone (run_at book.years (key_of r)) → EditHasOneAnswer book (add r)
  add_free free = elim (cases_lt most_records (run_count book.years + 1)) [
    | inl over ↦ add_full (record { free = free; full = over })
    | inr not_over ↦ add_made (record { free = free; room = omega arith })
  ]

  add_once : EditHasOneAnswer book (add r)
  add_once = by (run_at book.years (key_of r)) refl
    where
      by : (o : Option Record) → run_at book.years (key_of r) ≡ o → EditHasOneAnswer book (add r)
      by None e = add_free (subst IsNone (sym e) refl)
      by (Some s) e = add_taken (subst IsSome (sym e) refl)

-- ---- a run changed

month_prop : (year month : ℕ) → IsProp (IsMonth year month)
month_prop year month = hlevel (le_prop, T_prop)

abbrev make_month : (year month : ℕ) → IsMonth year month → Month
make_month year month x = record { year = year; month = month; exists = x }

day_month : (d : Day) → IsMonth d.year d.month
day_month d = search rules

-- the month of a day
abbrev month_of : Day → Month
month_of d = make_month d.year d.month (day_month d)

same_month : (y m : ℕ) (x : IsMonth y m) (y' m' : ℕ) → y ≡ y' → m ≡ m' → (x' : IsMonth y' m') →
    make_month y m x ≡ make_month y' m' x'
same_month y m x y' m' ey em =
    subst (λ (b : ℕ). (z : IsMonth y' b) → make_month y m x ≡ make_month y' b z) em
    (subst (λ (a : ℕ). (z : IsMonth a m) → make_month y m x ≡ make_month a m z) ey (λ z. ap (make_month y m) (month_prop y m x z)))

month_is : (d : Day) (w : When) → IsMonthOf d w → w ≡ when.Month (month_of d)
month_is d (when.Month m) h =
    ap (λ t. when.Month t) (same_month m.year m.month m.exists d.year d.month h.0 h.1 (month_of d).exists)
month_is d (when.Day e) h = absurd h

module _ (book : Contents) (r : Record) where
  change_absent : source_of book.years r ≡ Empty → EditHasOneAnswer book (change r)
  change_absent none =
      record { answer = Err (refusal.Absent r.employee (when.Month (month_of r.day))); says = (refl, (refl, refl), none); alone = by }
    where
      by : (other : Answer) → EditAnswers book (change r) other →
          other ≡ Err (refusal.Absent r.employee (when.Month (month_of r.day)))
      by (Ok next) h = absurd (subst IsOne none h.0)
      by (Err (refusal.Absent e w)) h = λ i. Err (refusal.Absent (h.0 i) (month_is r.day w h.1 i))
      by (Err (refusal.Several e m)) h = absurd (let p = h.2 in cc)
      by (Err (refusal.Present k)) h = absurd h
      by (Err refusal.Records) h = absurd h
      by (Err (refusal.Memory x)) h = absurd h
      by (Err refusal.Plans) h = absurd h
      by (Err (refusal.NoPlanThere d)) h = absurd h

  change_several : source_of book.years r ≡ Several → EditHasOneAnswer book (change r)
  change_several some =
      record { answer = Err (refusal.Several r.employee (month_of r.day)); says = (refl, (refl, refl), some); alone = by }
    where
      by : (other : Answer) → EditAnswers book (change r) other →
          other ≡ Err (refusal.Several r.employee (month_of r.day))
      by (Ok next) h = absurd (subst IsOne some h.0)
      by (Err (refusal.Absent e w)) h = absurd (let p = h.2 in cc)
      by (Err (refusal.Several e m)) h =
          λ i. Err (refusal.Several (h.0 i) (same_month m.year m.month m.exists r.day.year r.day.month h.1.0 h.1.1 (month_of r.day).exists i))
      by (Err (refusal.Present k)) h = absurd h
      by (Err refusal.Records) h = absurd h
      by (Err (refusal.Memory x)) h = absurd h
      by (Err refusal.Plans) h = absurd h
      by (Err (refusal.NoPlanThere d)) h = absurd h

  change_made : (k : Key) → source_of book.years r ≡ One k → EditHasOneAnswer book (change r)
  change_made k one =
      record { answer = Ok (edited_book (change r) book); says = (subst IsOne (sym one) tt, refl); alone = by }
    where
      by : (other : Answer) → EditAnswers book (change r) other → other ≡ Ok (edited_book (change r) book)
      by (Ok next) h = ap (λ t. Ok t) h.1
      by (Err (refusal.Absent e w)) h = absurd (let p = h.2 in cc)
      by (Err (refusal.Several e m)) h = absurd (let p = h.2 in cc)
      by (Err (refusal.Present k)) h = absurd h
      by (Err refusal.Records) h = absurd h
      by (Err (refusal.Memory x)) h = absurd h
      by (Err refusal.Plans) h = absurd h
      by (Err (refusal.NoPlanThere d)) h = absurd h

  change_once : EditHasOneAnswer book (change r)
  change_once = by (source_of book.years r) refl
    where
      by : (found : InMonth) → source_of book.years r ≡ found → EditHasOneAnswer book (change r)
      by Empty e = change_absent e
      by (One k) e = change_made k e
      by Several e = change_several e

-- ---- a run taken away

module _ (book : Contents) (e : List ℕ) (w : When) where
  withdraw_absent : withdrawal book.years e w ≡ Empty → EditHasOneAnswer book (withdraw e w)
  withdraw_absent none = record { answer = Err (refusal.Absent e w); says = (refl, refl, none); alone = by }
    where
      by : (other : Answer) → EditAnswers book (withdraw e w) other → other ≡ Err (refusal.Absent e w)
      by (Ok next) h = absurd (subst IsOne none h.0)
      by (Err (refusal.Absent e' w')) h = λ i. Err (refusal.Absent (h.0 i) (h.1 i))
      by (Err (refusal.Several e' m)) h = absurd (let p = h.2 in cc)
      by (Err (refusal.Present k)) h = absurd h
      by (Err refusal.Records) h = absurd h
      by (Err (refusal.Memory x)) h = absurd h
      by (Err refusal.Plans) h = absurd h
      by (Err (refusal.NoPlanThere d)) h = absurd h

  withdraw_made : (k : Key) → withdrawal book.years e w ≡ One k → EditHasOneAnswer book (withdraw e w)
  withdraw_made k one =
      record { answer = Ok (edited_book (withdraw e w) book); says = (subst IsOne (sym one) tt, refl); alone = by }
    where
      by : (other : Answer) → EditAnswers book (withdraw e w) other → other ≡ Ok (edited_book (withdraw e w) book)
      by (Ok next) h = ap (λ t. Ok t) h.1
      by (Err (refusal.Absent e' w')) h = absurd (let p = h.2 in cc)
      by (Err (refusal.Several e' m)) h = absurd (let p = h.2 in cc)
      by (Err (refusal.Present k)) h = absurd h
      by (Err refusal.Records) h = absurd h
      by (Err (refusal.Memory x)) h = absurd h
      by (Err refusal.Plans) h = absurd h
      by (Err (refusal.NoPlanThere d)) h = absurd h

  withdraw_several : (m : Month) → w ≡ when.Month m → withdrawal book.years e w ≡ Several →
      EditHasOneAnswer book (withdraw e w)
  withdraw_several m month some = record { answer = Err (refusal.Several e m); says = (refl, month, some); alone = by }
    where
      one_month : (a b : Month) → when.Month a ≡ when.Month b → a ≡ b
      one_month a b h = cc

      by : (other : Answer) → EditAnswers book (withdraw e w) other → other ≡ Err (refusal.Several e m)
      by (Ok next) h = absurd (subst IsOne some h.0)
      by (Err (refusal.Absent e' w')) h = absurd (let p = h.2 in cc)
      by (Err (refusal.Several e' m')) h = λ i. Err (refusal.Several (h.0 i) (one_month m' m (sym h.1 ∙ month) i))
      by (Err (refusal.Present k)) h = absurd h
      by (Err refusal.Records) h = absurd h
      by (Err (refusal.Memory x)) h = absurd h
      by (Err refusal.Plans) h = absurd h
      by (Err (refusal.NoPlanThere d)) h = absurd h

not_several : (b : Bool) (k : Key) → (if b then One k else Empty) ≡ Several → ⊥
not_several true k h = cc
not_several false k h = cc

withdraw_of_several : (book : Contents) (e : List ℕ) (w : When) → withdrawal book.years e w ≡ Several →
    EditHasOneAnswer book (withdraw e w)
withdraw_of_several book e (when.Month m) h = withdraw_several book e (when.Month m) m refl h
withdraw_of_several book e (when.Day d) h =
    let k : Key = record { employee = e; day = d } in
    absurd (not_several (is_some (run_at book.years k)) k h)

withdraw_once : (book : Contents) (e : List ℕ) (w : When) → EditHasOneAnswer book (withdraw e w)
withdraw_once book e w = by (withdrawal book.years e w) refl
  where
    by : (found : InMonth) → withdrawal book.years e w ≡ found → EditHasOneAnswer book (withdraw e w)
    by Empty h = withdraw_absent book e w h
    by (One k) h = withdraw_made book e w k h
    by Several h = withdraw_of_several book e w h

-- ---- many runs loaded

module _ (book : Contents) (items : List Record) where
  load_taken : (k : Key) → first_present book.years items ≡ Some k → EditHasOneAnswer book (load items)
  load_taken k first = record { answer = Err (refusal.Present k); says = first; alone = by }
    where
      by : (other : Answer) → EditAnswers book (load items) other → other ≡ Err (refusal.Present k)
      by (Ok next) h = absurd (none_some k (sym h.0.free ∙ first))
      by (Err (refusal.Present l)) h = ap (λ t. Err (refusal.Present t)) (some_same l k (sym h ∙ first))
      by (Err refusal.Records) h = absurd (none_some k (sym h.free ∙ first))
      by (Err (refusal.Memory x)) h = absurd h
      by (Err (refusal.Absent e w)) h = absurd h
      by (Err (refusal.Several e m)) h = absurd h
      by (Err refusal.Plans) h = absurd h
      by (Err (refusal.NoPlanThere d)) h = absurd h

  load_over : IsOver book.years items → EditHasOneAnswer book (load items)
  load_over over = record { answer = Err refusal.Records; says = over; alone = by }
    where
      by : (other : Answer) → EditAnswers book (load items) other → other ≡ Err refusal.Records
      by (Ok next) h = absurd (omega (arith, h.0.room, over.over))
      by (Err (refusal.Present k)) h = absurd (none_some k (sym over.free ∙ h))
      by (Err refusal.Records) h = refl
      by (Err (refusal.Memory x)) h = absurd h
      by (Err (refusal.Absent e w)) h = absurd h
      by (Err (refusal.Several e m)) h = absurd h
      by (Err refusal.Plans) h = absurd h
      by (Err (refusal.NoPlanThere d)) h = absurd h

  load_made : CanLoad book.years items → EditHasOneAnswer book (load items)
  load_made can = record { answer = Ok (edited_book (load items) book); says = (can, refl); alone = by }
    where
      by : (other : Answer) → EditAnswers book (load items) other → other ≡ Ok (edited_book (load items) book)
      by (Ok next) h = ap (λ t. Ok t) h.1
      by (Err (refusal.Present k)) h = absurd (none_some k (sym can.free ∙ h))
      by (Err refusal.Records) h = absurd (omega (arith, can.room, h.over))
      by (Err (refusal.Memory x)) h = absurd h
      by (Err (refusal.Absent e w)) h = absurd h
      by (Err (refusal.Several e m)) h = absurd h
      by (Err refusal.Plans) h = absurd h
      by (Err (refusal.NoPlanThere d)) h = absurd h

  load_free : first_present book.years items ≡ None → EditHasOneAnswer book (load items)
  load_free free = elim (cases_lt most_records (run_count book.years + length items)) [
    | inl over ↦ load_over (record { free = free; over = over })
    | inr not_over ↦ load_made (record { free = free; room = omega arith })
  ]

  load_once : EditHasOneAnswer book (load items)
  load_once = by (first_present book.years items) refl
    where
      by : (o : Option Key) → first_present book.years items ≡ o → EditHasOneAnswer book (load items)
      by (Some k) e = load_taken k e
      by None e = load_free e

-- ---- plans

module _ (book : Contents) (p : Entry Accepted) where
  put_full : HasMostPlans book.plans (day_of p) → EditHasOneAnswer book (put p)
  put_full full = record { answer = Err refusal.Plans; says = full; alone = by }
    where
      by : (other : Answer) → EditAnswers book (put p) other → other ≡ Err refusal.Plans
      by (Ok next) h = absurd (h.0 full)
      by (Err refusal.Plans) h = refl
      by (Err (refusal.Present k)) h = absurd h
      by (Err refusal.Records) h = absurd h
      by (Err (refusal.Memory x)) h = absurd h
      by (Err (refusal.Absent e w)) h = absurd h
      by (Err (refusal.Several e m)) h = absurd h
      by (Err (refusal.NoPlanThere d)) h = absurd h

  put_made : (HasMostPlans book.plans (day_of p) → ⊥) → EditHasOneAnswer book (put p)
  put_made room = record { answer = Ok (edited_book (put p) book); says = (room, refl); alone = by }
    where
      by : (other : Answer) → EditAnswers book (put p) other → other ≡ Ok (edited_book (put p) book)
      by (Ok next) h = ap (λ t. Ok t) h.1
      by (Err refusal.Plans) h = absurd (room h)
      by (Err (refusal.Present k)) h = absurd h
      by (Err refusal.Records) h = absurd h
      by (Err (refusal.Memory x)) h = absurd h
      by (Err (refusal.Absent e w)) h = absurd h
      by (Err (refusal.Several e m)) h = absurd h
      by (Err (refusal.NoPlanThere d)) h = absurd h

  put_new : IsNone (entry_at book.plans (day_of p)) → EditHasOneAnswer book (put p)
  put_new free = elim (cases_lt most_plans (length book.plans + 1)) [
    | inl over ↦ put_full (record { free = free; full = over })
    | inr not_over ↦ put_made (λ full. absurd (omega (arith, full.full)))
  ]

  put_once : EditHasOneAnswer book (put p)
  put_once = by (entry_at book.plans (day_of p)) refl
    where
      by : (o : Option (Entry Accepted)) → entry_at book.plans (day_of p) ≡ o → EditHasOneAnswer book (put p)
      by None e = put_new (subst IsNone (sym e) refl)
      by (Some q) e =
          put_made (λ full. none_or_some (entry_at book.plans (day_of p)) full.free (subst IsSome (sym e) refl))

module _ (book : Contents) (d : Day) where
  drop_none : IsNone (entry_at book.plans d) → EditHasOneAnswer book (drop d)
  drop_none none = record { answer = Err (refusal.NoPlanThere d); says = (refl, none); alone = by }
    where
      by : (other : Answer) → EditAnswers book (drop d) other → other ≡ Err (refusal.NoPlanThere d)
      by (Ok next) h = absurd (none_or_some (entry_at book.plans d) none h.0)
      by (Err (refusal.NoPlanThere e)) h = ap (λ t. Err (refusal.NoPlanThere t)) h.0
      by (Err refusal.Plans) h = absurd h
      by (Err (refusal.Present k)) h = absurd h
      by (Err refusal.Records) h = absurd h
      by (Err (refusal.Memory x)) h = absurd h
      by (Err (refusal.Absent e w)) h = absurd h
      by (Err (refusal.Several e m)) h = absurd h

  drop_made : IsSome (entry_at book.plans d) → EditHasOneAnswer book (drop d)
  drop_made there = record { answer = Ok (edited_book (drop d) book); says = (there, refl); alone = by }
    where
      by : (other : Answer) → EditAnswers book (drop d) other → other ≡ Ok (edited_book (drop d) book)
      by (Ok next) h = ap (λ t. Ok t) h.1
      by (Err (refusal.NoPlanThere e)) h = absurd (none_or_some (entry_at book.plans d) h.1 there)
      by (Err refusal.Plans) h = absurd h
      by (Err (refusal.Present k)) h = absurd h
      by (Err refusal.Records) h = absurd h
      by (Err (refusal.Memory x)) h = absurd h
      by (Err (refusal.Absent e w)) h = absurd h
      by (Err (refusal.Several e m)) h = absurd h

  drop_once : EditHasOneAnswer book (drop d)
  drop_once = by (entry_at book.plans d) refl
    where
      by : (o : Option (Entry Accepted)) → entry_at book.plans d ≡ o → EditHasOneAnswer book (drop d)
      by None e = drop_none (subst IsNone (sym e) refl)
      by (Some q) e = drop_made (subst IsSome (sym e) refl)

pub one_answer : EditsHaveOneAnswer
one_answer book (add r) = add_once book r
one_answer book (change r) = change_once book r
one_answer book (withdraw e w) = withdraw_once book e w
one_answer book (load items) = load_once book items
one_answer book (put p) = put_once book p
one_answer book (drop d) = drop_once book d
