-- What a book answers to an edit: the book that comes of it, or why the edit is refused.
use Rattle.std.specs.Prelude.{ℕ, ◌≡◌, List, IsSome, Result, Ok, Err}
use Rattle.payroll_records.specs.declared.day.Day.{Day}
use Rattle.payroll_records.specs.declared.record.Record.{Record}
use Rattle.payroll_records.specs.declared.when.When.{When}
use Rattle.plan_calendar.specs.Picking.{Entry, day_of, entry_at, with_entry, without_day}
use Rattle.book_year.specs.Accepted.{Accepted}
use Rattle.book_year.specs.declared.outcome.Work.{Work}
use Rattle.book_year.specs.Jobs.{work_of}
use Rattle.book_edits.specs.declared.refusal.EditRefusal.{EditRefusal}
use Rattle.book_edits.specs.declared.refusal.EditRefusal.TheVariants as refusal
use Rattle.book_edits.specs.Books.{added, loaded, source_of, withdrawal}
use Rattle.book_edits.specs.Refusals.{CanAdd, IsAddRefused, IsChangeRefused, IsOne, IsWithdrawRefused}
use Rattle.book_edits.specs.Replans.{IsDropRefused, HasMostPlans, IsPutRefused}
use Rattle.book_edits.specs.Loads.{CanLoad, IsLoadRefused}
use Rattle.recalc_engine.specs.Contents.{Contents, jobs_between, with_plans, with_years}
use Rattle.recalc_engine.specs.Edits.{with_change, with_withdrawal}

-- an edit of a book: a run added, changed or taken away, many runs loaded, a plan put or taken away
pub data Edit : Type 0 where
  add : Record → Edit
  change : Record → Edit
  withdraw : List ℕ → When → Edit
  load : List Record → Edit
  put : Entry Accepted → Edit
  drop : Day → Edit

-- the book with the edit, its last work as it was
abbrev pub with_edit : Edit → Contents → Contents
with_edit (add r) book = with_years (added r book.years) book
with_edit (change r) book = with_change r book
with_edit (withdraw e w) book = with_withdrawal e w book
with_edit (load rs) book = with_years (loaded rs book.years) book
with_edit (put e) book = with_plans (with_entry e book.plans) book
with_edit (drop d) book = with_plans (without_day d book.plans) book

-- the book with the edit, whose last work is that of the jobs that it made new
abbrev pub edited_book : Edit → Contents → Contents
edited_book e book =
    let next = with_edit e book in
    record { years = next.years; plans = next.plans; last = work_of (jobs_between book next) }

-- nothing stands against the edit
abbrev pub CanEdit : Contents → Edit → Type 0
CanEdit book (add r) = CanAdd book.years r
CanEdit book (change r) = IsOne (source_of book.years r)
CanEdit book (withdraw e w) = IsOne (withdrawal book.years e w)
CanEdit book (load rs) = CanLoad book.years rs
CanEdit book (put e) = HasMostPlans book.plans (day_of e) → ⊥
CanEdit book (drop d) = IsSome (entry_at book.plans d)

-- this stands against the edit
abbrev pub IsEditRefused : Contents → Edit → EditRefusal → Type 0
IsEditRefused book (add r) why = IsAddRefused book.years r why
IsEditRefused book (change r) why = IsChangeRefused book.years r why
IsEditRefused book (withdraw e w) why = IsWithdrawRefused book.years e w why
IsEditRefused book (load rs) why = IsLoadRefused book.years rs why
IsEditRefused book (put e) why = IsPutRefused book.plans (day_of e) why
IsEditRefused book (drop d) why = IsDropRefused book.plans d why

-- the book that comes of an edit, or why it is refused; a book never answers that memory ran out
abbrev pub EditAnswers : Contents → Edit → Result Contents EditRefusal → Type 0
EditAnswers book e (Ok next) = CanEdit book e × (next ≡ edited_book e book)
EditAnswers book e (Err (refusal.Memory error)) = ⊥
EditAnswers book e (Err why) = IsEditRefused book e why

-- an edit has one answer
pub record EditHasOneAnswer (book : Contents) (e : Edit) : Type 0 where
  pub answer : Result Contents EditRefusal
  pub says : EditAnswers book e answer
  pub alone : (other : Result Contents EditRefusal) → EditAnswers book e other → other ≡ answer

-- what a call that makes an edit comes to; out of memory the book is as before, though the edit has one
abbrev pub IsEdited : Contents → Edit → Contents → Result Work EditRefusal → Type 0
IsEdited old e new (Ok work) = EditAnswers old e (Ok new) × (work ≡ new.last)
IsEdited old e new (Err (refusal.Memory error)) =
    EditAnswers old e (Ok (edited_book e old)) × (new ≡ old)
IsEdited old e new (Err why) = EditAnswers old e (Err why) × (new ≡ old)

-- ---- a law

-- every edit of every book has one answer
abbrev pub EditsHaveOneAnswer : Type 0
EditsHaveOneAnswer = (book : Contents) (e : Edit) → EditHasOneAnswer book e
