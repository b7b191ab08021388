-- The book of a table's runs.
use Rattle.std.proofs.Common.{◌≡◌, ℕ, ◌≤◌, List, [], ◌∷◌, length, refl, sym, ap, ◌∙◌, arith}
use Rattle.std.specs.Prelude.{Option, Some, None, Ok, Err}
use Rattle.std.proofs.lemmas.Int.{ints}
use Rattle.payroll_records.specs.Days.{IsDay}
use Rattle.payroll_records.specs.declared.day.Day.{Day}
use Rattle.payroll_records.specs.declared.record.Record.{Record}
use Rattle.plan_calendar.specs.Picking.{Entry, with_entry}
use Rattle.book_year.specs.Accepted.{Accepted}
use Rattle.book_year.specs.declared.outcome.Work.{Work}
use Rattle.book_edits.specs.declared.refusal.EditRefusal.{EditRefusal}
use Rattle.book_edits.specs.declared.refusal.EditRefusal.TheVariants as edits
use Rattle.book_edits.specs.Books.{loaded, run_count}
use Rattle.book_edits.specs.Loads.{first_present}
use Rattle.recalc_engine.specs.Contents.{Contents}
use Rattle.recalc_engine.specs.EditAnswers.{IsEdited, put, load}
use Rattle.table_coverage.specs.TableCoverages.{IsFirstDay, IsBookOf}
use Rattle.table_coverage.specs.private.Parts.{IsMemoryFault, IsWithoutBook, load_stop}

-- ---- the day

-- each year has a first day
pub new_year : (year : ℕ) → 1900 ≤ year → year ≤ 2999 → IsDay year 1 1
new_year year least most = record {
  years = (least, most);
  exists = ((omega (arith, ints), omega (arith, ints)), (omega (arith, ints), omega (arith, ints)), (omega (arith, ints), omega (arith, ints)));
}

-- ---- the plan

-- a plan that is put into a book without plans is its only one
pub put_plans : (old new : Contents) (e : Entry Accepted) (work : Work) → old.plans ≡ [] → IsEdited old (put e) new (Ok work)
    → new.plans ≡ e ∷ []
put_plans old new e work plans h = ap (λ (b : Contents). b.plans) h.0.1 ∙ ap (λ es. with_entry e es) plans

pub put_years : (old new : Contents) (e : Entry Accepted) (work : Work) → old.years ≡ [] → IsEdited old (put e) new (Ok work)
    → new.years ≡ []
put_years old new e work years h = ap (λ (b : Contents). b.years) h.0.1 ∙ years

-- putting a plan into a book without plans fails only for lack of memory
pub put_refused : (old new : Contents) (e : Entry Accepted) (why : EditRefusal) → old.plans ≡ []
    → IsEdited old (put e) new (Err why) → IsMemoryFault why
put_refused old new e edits.Plans plans h = let none = ap (λ ps. length ps) plans in omega (arith, h.0.full, none)
put_refused old new e (edits.Memory error) plans h = tt
put_refused old new e (edits.Present key) plans h = absurd h.0
put_refused old new e edits.Records plans h = absurd h.0
put_refused old new e (edits.Absent employee when) plans h = absurd h.0
put_refused old new e (edits.Several employee month) plans h = absurd h.0
put_refused old new e (edits.NoPlanThere day) plans h = absurd h.0

-- ---- the runs

-- the runs that are loaded into a book without runs are its runs
pub load_plans : (old new : Contents) (rs : List Record) (work : Work) → IsEdited old (load rs) new (Ok work)
    → new.plans ≡ old.plans
load_plans old new rs work h = ap (λ (b : Contents). b.plans) h.0.1

pub load_years : (old new : Contents) (rs : List Record) (work : Work) → old.years ≡ [] → IsEdited old (load rs) new (Ok work)
    → new.years ≡ loaded rs []
load_years old new rs work years h = ap (λ (b : Contents). b.years) h.0.1 ∙ ap (λ ys. loaded rs ys) years

-- a book without runs has none at their keys
none_present : (rs : List Record) → first_present [] rs ≡ None
none_present [] = refl
none_present (r ∷ rs) = none_present rs

-- so they are refused only where they are too many
pub load_refused : (old new : Contents) (rs : List Record) (why : EditRefusal) → old.years ≡ []
    → IsEdited old (load rs) new (Err why) → IsWithoutBook rs (load_stop why)
load_refused old new rs (edits.Present key) years h =
    let none = sym (none_present rs) ∙ ap (λ ys. first_present ys rs) (sym years) ∙ h.0 in absurd (cc none)
load_refused old new rs edits.Records years h =
    let none = ap (λ ys. run_count ys) years in omega (arith, h.0.over, none)
load_refused old new rs (edits.Memory error) years h = tt
load_refused old new rs (edits.Absent employee when) years h = absurd h.0
load_refused old new rs (edits.Several employee month) years h = absurd h.0
load_refused old new rs edits.Plans years h = absurd h.0
load_refused old new rs (edits.NoPlanThere day) years h = absurd h.0

-- ---- both

pub loaded_is : (p : Accepted) (runs : List Record) (day : Day) (planned book : Contents) → IsFirstDay runs day
    → planned.plans ≡ (day, p) ∷ [] → book.plans ≡ planned.plans → book.years ≡ loaded runs [] → IsBookOf p runs book
loaded_is p runs day planned book first plans same years = record { day = day; first = first; plans = same ∙ plans; years = years }
