-- What private contracts see of a book that is read: its plans, and the items of its text.
use Rattle.std.specs.Prelude.{◌≡◌, ◌⊎◌, ◌≤◌, ◌+◌, ℕ, List, map, Result, Ok, Err, ⊤}
use Rattle.plan_calendar.specs.Picking.{Entry}
use Rattle.saved_items.specs.SavedBooks.{Saved, SavedPlan}
use Rattle.pap_plan.specs.AcceptanceClauses.{IsAcceptedAs}
use Rattle.pap_plan.specs.Plans.{Seen}
use Rattle.book_year.specs.Accepted.{Accepted}
use Rattle.book_year.specs.declared.outcome.Work.{Work}
use Rattle.recalc_engine.specs.declared.book.RestoredBook.{RestoredBook}
use Rattle.recalc_engine.specs.BookLaws.{AreAcceptedPlans}
use Rattle.recalc_engine.specs.Contents.{Contents, book_of, whole_cost}
use Rattle.book_file.specs.BookSays.{IsFirstRefused, IsUnacceptable}
use Rattle.book_file.specs.BookTexts.{saved_entry}
use Rattle.book_file.specs.declared.refusal.BookFault.{BookFault}
use Rattle.book_file.specs.declared.refusal.BookFault.TheVariants as fault

-- ---- plans

-- the plan is that of these two texts, which are accepted
abbrev pub IsPlanOf : SavedPlan → Seen → Type 0
IsPlanOf p seen = IsAcceptedAs p.plan p.limits seen

-- the fault is the day of the plan, whose texts are refused; that memory ran out may be answered of any
abbrev pub IsNoPlan : SavedPlan → BookFault → Type 0
IsNoPlan p (fault.Plan day) = IsUnacceptable p × (day ≡ p.day)
IsNoPlan p (fault.Memory e) = ⊤
IsNoPlan p _ = ⊥

-- entries with the days and the texts of these plans, all accepted
pub record AreEntriesOf (ps : List SavedPlan) (es : List (Entry Accepted)) : Type 0 where
  pub plans : AreAcceptedPlans es
  pub texts : map saved_entry es ≡ ps

-- the fault is the day of the first plan whose texts are refused; that memory ran out may be answered of any
abbrev pub HasNoPlan : List SavedPlan → BookFault → Type 0
HasNoPlan ps (fault.Plan day) = IsFirstRefused ps day
HasNoPlan ps (fault.Memory e) = ⊤
HasNoPlan ps _ = ⊥

-- ---- the book of what is saved

abbrev pub saved_work : Saved → Work
saved_work s = record { runs = s.runs; steps = s.steps }

abbrev pub book_of_saved : Saved → List (Entry Accepted) → Contents
book_of_saved s es = book_of s.records es (saved_work s)

-- the book is that of what is saved, with its plans accepted
pub record IsBookOf (s : Saved) (book : Contents) : Type 0 where
  pub entries : List (Entry Accepted)
  pub are : AreEntriesOf s.plans entries
  pub book_is : book ≡ book_of_saved s entries

-- a counter rose by at most the cost of all jobs of that book
pub record IsPartlyMade (s : Saved) (before now : ℕ) : Type 0 where
  pub book : Contents
  pub of : IsBookOf s book
  pub later : before ≤ now
  pub most : now ≤ before + whole_cost book

-- a counter rose by the cost of all jobs of the book that was made; it stayed where a plan was refused; where memory ran out it
-- stayed, or it rose by at most that
abbrev pub CountsMade : Saved → Result RestoredBook BookFault → ℕ → ℕ → Type 0
CountsMade s (Ok restored) before now = now ≡ before + whole_cost restored.book
CountsMade s (Err (fault.Memory e)) before now = (now ≡ before) ⊎ IsPartlyMade s before now
CountsMade s (Err why) before now = now ≡ before
