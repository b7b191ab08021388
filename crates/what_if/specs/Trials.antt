-- The trial of a plan: what putting it at its day would change of a book. Source: docs/PROFILE.md, "Scripts", the
-- line `try`.
use Rattle.std.specs.Prelude.{ℕ, ◌≡◌, ◌+◌, ◌≤◌, Result, Ok, Err}
use Rattle.plan_calendar.specs.Picking.{Entry, day_of}
use Rattle.book_year.specs.Accepted.{Accepted}
use Rattle.book_edits.specs.Replans.{HasMostPlans}
use Rattle.recalc_engine.specs.Contents.{Contents}
use Rattle.recalc_engine.specs.EditAnswers.{CanEdit, edited_book, put}
use Rattle.what_if.specs.declared.trial.Trial.{Trial}
use Rattle.what_if.specs.declared.trial.TryRefusal.{TryRefusal}
use Rattle.what_if.specs.declared.trial.TryRefusal.TheVariants as trying
use Rattle.what_if.specs.Changes.{changes_between}

-- the book with the plan put at its day
abbrev pub book_with : Contents → Entry Accepted → Contents
book_with book e = edited_book (put e) book

-- what differs between the book and the book with the plan, run by run, and the work of putting it
abbrev pub trial_of : Contents → Entry Accepted → Trial
trial_of book e = record {
  rows = changes_between book (book_with book e);
  work = (book_with book e).last;
}

-- why a plan is not tried: there would be too many; memory may run out only where nothing else stands against it
abbrev pub IsTryRefused : Contents → Entry Accepted → TryRefusal → Type 0
IsTryRefused book e trying.Plans = HasMostPlans book.plans (day_of e)
IsTryRefused book e (trying.Memory error) = CanEdit book (put e)

-- a counter rose by exactly the steps of the work, by at most those where memory ran out, and by none after a refusal
abbrev pub CountsTry : Result Trial TryRefusal → ℕ → ℕ → ℕ → Type 0
CountsTry (Ok trial) before now total = now ≡ before + total
CountsTry (Err trying.Plans) before now total = now ≡ before
CountsTry (Err (trying.Memory error)) before now total = (before ≤ now) × (now ≤ before + total)
