-- Years and drafts made one list.
use Rattle.std.specs.Prelude.{◌≡◌, List, ◌∷◌, map}
use Rattle.std.specs.List.{AllByRecursion}
use Rattle.rising_lists.specs.Keyed.{IsRising}
use Rattle.payroll_records.specs.Orders.{day_cmp}
use Rattle.plan_calendar.specs.Picking.{Entry}
use Rattle.book_year.specs.Accepted.{Accepted}
use Rattle.book_year.specs.declared.year.Year.{Year}
use Rattle.book_year.specs.Records.{record_day}
use Rattle.book_year.specs.Years.{IsYear}
use Rattle.book_edits.specs.Books.{YearRuns, year_cmp}
use Rattle.book_edits.specs.Kept.{HasRuns, kept_key, runs_in, runs_in_year}
use Rattle.book_edits.specs.declared.drafts.Draft.{Draft}
use Rattle.book_edits.specs.private.Drafts.{IsYearDraft, IsRoomy, draft_key, draft_year}
use Rattle.book_edits.specs.private.Groups.{put_years}

-- both lists rise, the days of each year do, and each draft has room for the runs of its year
pub record CanMerge (olds : List Year) (drafts : List Draft) : Type 0 where
  pub olds_rise : IsRising year_cmp kept_key olds
  pub drafts_rise : IsRising year_cmp draft_key drafts
  pub days : AllByRecursion (λ y. IsRising day_cmp record_day y.records.items) olds
  pub rooms : AllByRecursion (IsRoomy (runs_in olds)) drafts

-- the runs of the years, with each draft at its key
abbrev pub merged_runs : List Year → List Draft → List YearRuns
merged_runs olds drafts = put_years (map (draft_year (runs_in olds)) drafts) (runs_in olds)

-- what is kept of a year, which has a run
pub record IsKeptYear (plans : List (Entry Accepted)) (y : Year) : Type 0 where
  pub year : IsYear plans y
  pub some : HasRuns y

pub record AreMergeable
    (plans : List (Entry Accepted)) (olds : List Year) (drafts : List Draft) : Type 0 where
  pub years : AllByRecursion (IsKeptYear plans) olds
  pub new : AllByRecursion (IsYearDraft plans (runs_in olds)) drafts

-- a year is the first of all, and these are left
pub record IsFirst
    (olds : List Year) (drafts : List Draft) (olds' : List Year) (drafts' : List Draft)
    (y : Year) : Type 0 where
  pub can : CanMerge olds' drafts'
  pub runs : merged_runs olds drafts ≡ runs_in_year y ∷ merged_runs olds' drafts'
  pub kept : (plans : List (Entry Accepted)) → AreMergeable plans olds drafts → IsKeptYear plans y
  pub left : (plans : List (Entry Accepted)) → AreMergeable plans olds drafts
      → AreMergeable plans olds' drafts'
