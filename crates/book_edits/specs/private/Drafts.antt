-- What is computed of the touched years beside the book.
use Rattle.std.specs.Prelude.{ℕ, ◌≡◌, ◌+◌, ◌*◌, ◌<◌, ◌≤◌, List, [], length, map, vec_len, vec_capacity}
use Rattle.std.proofs.Common.{Vec, Global}
use Rattle.std.specs.List.{AllByRecursion}
use Rattle.pap_types.specs.Limits.{most_steps}
use Rattle.plan_calendar.specs.Picking.{Entry, pick}
use Rattle.book_year.specs.Accepted.{Accepted}
use Rattle.book_year.specs.Jobs.{total_cost, work_of}
use Rattle.book_year.specs.Kept.{AreKept, most_runs}
use Rattle.book_year.specs.Rows.{Job}
use Rattle.book_year.specs.Years.{IsOwn, year_jobs}
use Rattle.book_edits.specs.Books.{YearRuns, runs_of}
use Rattle.book_edits.specs.Kept.{jobs_in}
use Rattle.payroll_records.specs.declared.record.Record.{Record}
use Rattle.book_year.specs.declared.year.YearKey.{YearKey}
use Rattle.book_edits.specs.declared.drafts.Computed.{Computed}
use Rattle.book_edits.specs.declared.drafts.Draft.{Draft}
use Rattle.book_edits.specs.declared.drafts.Drafted.{Drafted}
use Rattle.book_edits.specs.declared.groups.Group.{Group}
use Rattle.book_edits.specs.private.Groups.{group_year, group_years, year_with}

-- the jobs of a year that are new against the old years
abbrev pub new_in : List (Entry Accepted) → List YearRuns → YearRuns → List Job
new_in plans old y = year_jobs (pick plans) (pick plans) (runs_of old y.key) y.runs

abbrev pub group_jobs : List (Entry Accepted) → List YearRuns → Group → List Job
group_jobs plans old g = new_in plans old (group_year old g)

abbrev pub group_cost : List (Entry Accepted) → List YearRuns → Group → ℕ
group_cost plans old g = total_cost (group_jobs plans old g)

-- the new jobs of several groups
abbrev pub groups_jobs : List (Entry Accepted) → List YearRuns → List Group → List Job
groups_jobs plans old gs = jobs_in (pick plans) (pick plans) old (group_years old gs)

abbrev pub groups_cost : List (Entry Accepted) → List YearRuns → List Group → ℕ
groups_cost plans old gs = total_cost (groups_jobs plans old gs)

-- nothing is in a vector that has room for a year's old runs and so many new ones
pub record HasRoom (old : ℕ) (new : ℕ) (room : Vec Record Global) : Type 0 where
  pub none : room.items ≡ []
  pub bare : vec_len room ≡ 0
  pub enough : old + new ≤ vec_capacity room

-- what a group's year comes to
pub record IsComputedGroup
    (plans : List (Entry Accepted)) (old : List YearRuns) (g : Group) (c : Computed) : Type 0 where
  pub kept : AreKept (pick plans) (group_year old g).runs c.outcomes.items
  pub own : AllByRecursion (IsOwn g.key) (group_year old g).runs
  pub some : 0 < length (group_year old g).runs
  pub room : HasRoom (length (runs_of old g.key)) (vec_len g.items) c.room
  pub work : c.work ≡ work_of (group_jobs plans old g)
  pub few : c.work.runs ≤ most_runs
  pub cheap : c.work.steps ≤ most_runs * most_steps

abbrev pub draft_key : Draft → YearKey
draft_key d = d.key

abbrev pub draft_year : List YearRuns → Draft → YearRuns
draft_year old d = year_with old d.key d.items.items

-- what is kept of a draft's year is what computing its runs anew gives
pub record IsYearDraft (plans : List (Entry Accepted)) (old : List YearRuns)
    (d : Draft) : Type 0 where
  pub kept : AreKept (pick plans) (draft_year old d).runs d.outcomes.items
  pub own : AllByRecursion (IsOwn d.key) (draft_year old d).runs
  pub some : 0 < length (draft_year old d).runs

-- a draft has room for all runs of its year
abbrev pub IsRoomy : List YearRuns → Draft → Type 0
IsRoomy old d = HasRoom (length (runs_of old d.key)) (vec_len d.items) d.room

-- the drafts of these groups, and the work of their new jobs
pub record AreDrafted
    (plans : List (Entry Accepted)) (old : List YearRuns) (gs : List Group)
    (r : Drafted) : Type 0 where
  pub years : map (draft_year old) r.drafts.items ≡ group_years old gs
  pub each : AllByRecursion (IsYearDraft plans old) r.drafts.items
  pub rooms : AllByRecursion (IsRoomy old) r.drafts.items
  pub work : r.work ≡ work_of (groups_jobs plans old gs)
