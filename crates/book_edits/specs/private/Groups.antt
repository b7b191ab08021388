-- The new runs by year, and what a year holds once its own are put.
use Rattle.std.specs.Prelude.{◌≡◌, ◌<◌, ◌≤◌, List, [], ◌∷◌, ◌++◌, Option, Some, None, length, map}
use Rattle.std.specs.List.{AllByRecursion}
use Rattle.rising_lists.specs.Keyed.{at_key, put, IsRising}
use Rattle.payroll_records.specs.declared.record.Record.{Record}
use Rattle.payroll_records.specs.Tables.{key_of}
use Rattle.book_year.specs.declared.year.YearKey.{YearKey}
use Rattle.book_year.specs.Records.{put_run}
use Rattle.book_year.specs.Years.{IsOwn}
use Rattle.book_edits.specs.Books.{YearRuns, loaded, runs_key, runs_of, year_cmp, year_of}
use Rattle.book_edits.specs.declared.groups.Group.{Group}
use Rattle.book_edits.specs.private.Puts.{puts}

-- a year's runs with each of these put, one after another
abbrev pub put_runs : List Record → List Record → List Record
put_runs [] rs = rs
put_runs (i ∷ is) rs = put_runs is (put_run i rs)

-- the years with each of these years at its key
abbrev pub put_years : List YearRuns → List YearRuns → List YearRuns
put_years ds years = puts year_cmp runs_key ds years

-- a year once these runs are put into it
abbrev pub year_with : List YearRuns → YearKey → List Record → YearRuns
year_with old k items = record { key = k; runs = put_runs items (runs_of old k) }

abbrev pub group_key : Group → YearKey
group_key g = g.key

abbrev pub group_year : List YearRuns → Group → YearRuns
group_year old g = year_with old g.key g.items.items

abbrev pub group_years : List YearRuns → List Group → List YearRuns
group_years old gs = map (group_year old) gs

-- a group has a run, and all are of its year
pub record IsGroup (g : Group) : Type 0 where
  pub own : AllByRecursion (IsOwn g.key) g.items.items
  pub some : 0 < length g.items.items

-- the groups of these runs: to put each year of them is to put each run
pub record AreGroups (items : List Record) (groups : List Group) : Type 0 where
  pub rising : IsRising year_cmp group_key groups
  pub each : AllByRecursion IsGroup groups
  pub few : length groups ≤ length items
  pub are : (old : List YearRuns) → put_years (group_years old groups) old ≡ loaded items old

-- ---- one more run

abbrev pub items_or_none : Option Group → List Record
items_or_none None = []
items_or_none (Some g) = g.items.items

-- the runs of the group of a year
abbrev pub items_of : List Group → YearKey → List Record
items_of groups k = items_or_none (at_key year_cmp group_key groups k)

-- the run is behind those of its group
pub record IsPutGroup (r : Record) (before after : List Group) : Type 0 where
  pub group : Group
  pub key : group.key ≡ year_of (key_of r)
  pub items : group.items.items ≡ items_of before (year_of (key_of r)) ++ r ∷ []
  pub are : after ≡ put year_cmp group_key group before
