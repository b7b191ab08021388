-- What the years computed anew beside those that are kept promise.
use Rattle.std.specs.Prelude.{◌≡◌, ◌≤◌, ◌*◌, Option, Some, None, Vec}
use Rattle.std.specs.declared.alloc.Global.{Global}
use Rattle.pap_types.specs.Limits.{most_steps}
use Rattle.book_year.specs.declared.outcome.Outcome.{Outcome}
use Rattle.book_year.specs.declared.year.Year.{Year}
use Rattle.book_year.specs.Jobs.{work_of}
use Rattle.book_year.specs.Kept.{AreKept, most_runs}
use Rattle.book_year.specs.Rows.{Planned}
use Rattle.book_year.specs.Years.{year_jobs}
use Rattle.book_edits.specs.declared.redone.RedoneYear.{RedoneYear}

-- the new outcomes of a year, where it has some
abbrev pub New : Type 0
New = Option (Vec Outcome Global)

-- the year with its new outcomes
abbrev pub with_new : Year → New → Year
with_new y None = y
with_new y (Some outcomes) = record y { outcomes = outcomes }

-- what is kept of the year is what computing it anew gives, where these are the plans of the days
abbrev pub YearKept : Planned → Year → Type 0
YearKept planned y = AreKept planned y.records.items y.outcomes.items

-- a year computed anew, and the work of its new jobs
pub record IsYearRedone (before after : Planned) (y : Year) (redone : RedoneYear) : Type 0 where
  pub kept : YearKept after (with_new y redone.outcomes)
  pub work_is : redone.work ≡ work_of (year_jobs before after y.records.items y.records.items)
  pub few : redone.work.runs ≤ most_runs
  pub cheap : redone.work.steps ≤ most_runs * most_steps
