-- Each edit of a book that can be saved leaves one that can be saved.
use Rattle.std.proofs.Common.{◌≡◌, ℕ, ◌+◌, ◌≤◌, List, [], ◌∷◌, ◌++◌, length, refl, sym, subst, arith, length-append, inl, inr}
use Rattle.std.specs.Prelude.{Option, Some, None, IsNone, Ok, ⊤, sum_by}
use Rattle.std.specs.List.{AllByRecursion, flat_map}
use Rattle.std.proofs.lemmas.Bool.{cases_lt}
use Rattle.std.proofs.lemmas.List.{length-map}
use Rattle.std.proofs.lemmas.List.Sums.{sum_by-cons}
use Rattle.rising_lists.proofs.Laws.{put_rising, without_rising}
use Rattle.payroll_records.specs.declared.day.Day.{Day}
use Rattle.payroll_records.specs.declared.record.Record.{Record}
use Rattle.payroll_records.specs.Orders.{day_cmp}
use Rattle.payroll_records.proofs.Laws.{day_total}
use Rattle.plan_calendar.specs.Picking.{AreEntries, Entry, day_of, entry_at, pick, plan_of, with_entry, without_day}
use Rattle.saved_items.specs.SavedBooks.{IsRun, IsWork}
use Rattle.saved_items.specs.SavedBooks as saved
use Rattle.book_year.specs.Accepted.{Accepted}
use Rattle.book_edits.specs.Books.{YearRuns, run_count, source_of, withdrawal}
use Rattle.book_edits.specs.Replans.{HasMostPlans}
use Rattle.book_edits.proofs.Laws.{all_put, all_without, length_put, map_rising, sum_put}
use Rattle.book_file.specs.BookTexts.{IsTextOf, saved_entry}
use Rattle.book_file.specs.Saving.{SaveSays}
use Rattle.recalc_engine.specs.BookLaws.{AreAcceptedPlans, HasOwnRuns, IsBook, IsAcceptedPlan}
use Rattle.recalc_engine.specs.private.BookLaws.{HasPlan}
use Rattle.recalc_engine.specs.Contents.{Contents}
use Rattle.recalc_engine.specs.EditAnswers.{CanEdit, Edit, add, change, drop, edited_book, load, put, withdraw, with_edit}
use Rattle.recalc_engine.proofs.Laws.{picked_plan, runs_rise}
use Rattle.script_steps.specs.GoingOn.{IsSavable}
use Rattle.script_steps.proofs.CostLemmas.{work_fits}
use Rattle.script_steps.proofs.YearLemmas.{AreSoundYears, HasSoundRuns, add_count, add_sound, changed_count, changed_sound}
use Rattle.script_steps.proofs.YearLemmas.{load_count, load_sound, without_most, withdrawn_count, withdrawn_sound}

-- a book that can be saved, part by part
pub record IsSound (book : Contents) : Type 0 where
  pub years : AreSoundYears book.years
  pub few : run_count book.years ≤ 50000
  pub entries : AreEntries book.plans
  pub plans : AreAcceptedPlans book.plans
  pub work : IsWork book.last.runs book.last.steps

-- ---- it is one, and one is it

all_both : (rs ss : List Record) → AllByRecursion IsRun rs → AllByRecursion IsRun ss → AllByRecursion IsRun (rs ++ ss)
all_both [] ss h k = k
all_both (r ∷ rs) ss h k = (h.0, all_both rs ss h.1 k)

all_parts : (rs ss : List Record) → AllByRecursion IsRun (rs ++ ss) → AllByRecursion IsRun rs × AllByRecursion IsRun ss
all_parts [] ss h = (tt, h)
all_parts (r ∷ rs) ss h = let more = all_parts rs ss h.1 in ((h.0, more.0), more.1)

abbrev listed : List YearRuns → List Record
listed years = flat_map (λ y. y.runs) years

texts_listed : (years : List YearRuns) → AllByRecursion HasSoundRuns years → AllByRecursion IsRun (listed years)
texts_listed [] h = tt
texts_listed (y ∷ years) h = all_both y.runs (listed years) h.0.texts (texts_listed years h.1)

own_runs : (years : List YearRuns) → AllByRecursion HasSoundRuns years → AllByRecursion HasOwnRuns years
own_runs [] h = tt
own_runs (y ∷ years) h = (h.0.own, own_runs years h.1)

sound_runs : (years : List YearRuns) → AllByRecursion HasOwnRuns years → AllByRecursion IsRun (listed years)
    → AllByRecursion HasSoundRuns years
sound_runs [] own texts = tt
sound_runs (y ∷ years) own texts =
    let parts = all_parts y.runs (listed years) texts in
    (record { own = own.0; texts = parts.0 }, sound_runs years own.1 parts.1)

count_listed : (years : List YearRuns) → length (listed years) ≡ run_count years
count_listed [] = refl
count_listed (y ∷ years) =
    omega (arith, length-append y.runs (listed years), count_listed years, sum_by-cons (λ (y : YearRuns). length y.runs) y years)

book_of_sound : (book : Contents) → IsSound book → IsBook book
book_of_sound book h = record {
  order = h.years.order;
  own = own_runs book.years h.years.runs;
  few = h.few;
  entries = h.entries;
  plans = h.plans;
}

pub savable : (book : Contents) → IsSound book → IsSavable book
savable book h = record {
  book_is = book_of_sound book h;
  saved = record {
    work = h.work;
    plans = record {
      rising = map_rising day_cmp saved.saved_day saved_entry book.plans h.entries.rising;
      few = omega (arith, length-map book.plans saved_entry, h.entries.few);
    };
    records = record {
      rising = runs_rise book (book_of_sound book h);
      each = texts_listed book.years h.years.runs;
      few = omega (arith, count_listed book.years, h.few);
    };
  };
}

pub opened_sound : (text : List ℕ) (book : Contents) → IsTextOf text book → IsSound book
opened_sound text book h = record {
  years = record {
    order = h.book_is.order;
    runs = sound_runs book.years h.book_is.own h.text.sound.records.each;
  };
  few = h.book_is.few;
  entries = h.book_is.entries;
  plans = h.book_is.plans;
  work = h.text.sound.work;
}

-- ---- plans

all_plans : (plans : List (Entry Accepted)) → AreEntries plans → AreAcceptedPlans plans → (d : Day) → HasPlan (pick plans d)
all_plans plans entries all d = picked_plan plans d entries all

ones : {X : Type 0} (xs : List X) → length xs ≡ sum_by (λ x. 1) xs
ones [] = refl
ones (x ∷ xs) = omega (arith, ones xs, sum_by-cons (λ x. 1) x xs)

-- a plan put in place of another, or where there is room
put_few : (e : Entry Accepted) (plans : List (Entry Accepted)) → AreEntries plans → (HasMostPlans plans (day_of e) → ⊥)
    → length (with_entry e plans) ≤ 64
put_few e plans h room = by (entry_at plans (day_of e)) refl
  where
    by : (o : Option (Entry Accepted)) → entry_at plans (day_of e) ≡ o → length (with_entry e plans) ≤ 64
    by None none = elim (cases_lt 64 (length plans + 1)) [
      | inl full ↦ absurd (room (record { free = subst (λ o. IsNone o) (sym none) refl; full = full }))
      | inr fits ↦ omega (arith, fits, length_put day_cmp day_total day_of e plans h.rising none)
    ]
    by (Some x) there =
        let s = rw there at (sum_put day_cmp day_total day_of (λ x. 1) e plans h.rising) in
        omega (arith, s, ones (with_entry e plans), ones plans, h.few)

put_entries : (e : Entry Accepted) (plans : List (Entry Accepted)) → AreEntries plans →
    (HasMostPlans plans (day_of e) → ⊥)
    → AreEntries (with_entry e plans)
put_entries e plans h room =
    record { rising = put_rising day_cmp day_total day_of e plans h.rising; few = put_few e plans h room }

drop_entries : (d : Day) (plans : List (Entry Accepted)) → AreEntries plans → AreEntries (without_day d plans)
drop_entries d plans h = record {
  rising = without_rising day_cmp day_total day_of d plans h.rising;
  few = omega (arith, without_most day_cmp day_of d plans, h.few);
}

abbrev HasPlanText : Entry Accepted → Type 0
HasPlanText e = IsAcceptedPlan (plan_of e)

-- ---- edits

-- what an edit brings can be saved
abbrev pub IsSoundEdit : Edit → Type 0
IsSoundEdit (add r) = IsRun r
IsSoundEdit (change r) = IsRun r
IsSoundEdit (withdraw e w) = ⊤
IsSoundEdit (load rs) = AllByRecursion IsRun rs
IsSoundEdit (put e) = IsAcceptedPlan (plan_of e)
IsSoundEdit (drop d) = ⊤

-- the runs and the plans of a book
record AreSoundParts (book : Contents) : Type 0 where
  years : AreSoundYears book.years
  few : run_count book.years ≤ 50000
  entries : AreEntries book.plans
  plans : AreAcceptedPlans book.plans

with_parts : (book : Contents) (e : Edit) → IsSound book → IsSoundEdit e → CanEdit book e → AreSoundParts (with_edit e book)
with_parts book (add r) h s can = record {
  years = add_sound r book.years s h.years;
  few = omega (arith, add_count r book.years h.years, can.room);
  entries = h.entries;
  plans = h.plans;
}
with_parts book (change r) h s can = record {
  years = changed_sound (source_of book.years r) r book.years s h.years;
  few = omega (arith, changed_count (source_of book.years r) r book.years refl h.years, h.few);
  entries = h.entries;
  plans = h.plans;
}
with_parts book (withdraw e w) h s can = record {
  years = withdrawn_sound (withdrawal book.years e w) book.years h.years;
  few = omega (arith, withdrawn_count (withdrawal book.years e w) book.years h.years, h.few);
  entries = h.entries;
  plans = h.plans;
}
with_parts book (load rs) h s can = record {
  years = load_sound rs book.years s h.years;
  few = omega (arith, load_count rs book.years s h.years, can.room);
  entries = h.entries;
  plans = h.plans;
}
with_parts book (put e) h s can = record {
  years = h.years;
  few = h.few;
  entries = put_entries e book.plans h.entries can;
  plans = all_put day_cmp day_of HasPlanText e book.plans s h.plans;
}
with_parts book (drop d) h s can = record {
  years = h.years;
  few = h.few;
  entries = drop_entries d book.plans h.entries;
  plans = all_without day_cmp day_of HasPlanText d book.plans h.plans;
}

pub edit_sound : (book : Contents) (e : Edit) → IsSound book → IsSoundEdit e → CanEdit book e →
    IsSound (edited_book e book)
edit_sound book e h s can =
    let next = with_edit e book in
    let parts = with_parts book e h s can in record {
      years = parts.years;
      few = parts.few;
      entries = parts.entries;
      plans = parts.plans;
      work = work_fits book next (all_plans next.plans parts.entries parts.plans) parts.few;
    }

-- ---- the text that is saved

pub saved_text_of : (book : Contents) (text : List ℕ) → IsSavable book → SaveSays book (Ok text) → IsTextOf text book
saved_text_of book text h says = record {
  few = says.1;
  book_is = h.book_is;
  text = record { sound = h.saved; text = says.0 };
}
