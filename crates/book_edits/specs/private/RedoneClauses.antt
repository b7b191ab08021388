-- What private contracts cite beside the definitions of RedoneClauses.
use Rattle.std.specs.Prelude.{◌≡◌, List, [], ◌∷◌}
use Rattle.std.specs.List.{AllZip}
use Rattle.plan_calendar.specs.Picking.{Entry, pick}
use Rattle.book_year.specs.Accepted.{Accepted}
use Rattle.book_year.specs.declared.year.Year.{Year}
use Rattle.book_year.specs.Jobs.{work_of}
use Rattle.book_year.specs.Rows.{Planned}
use Rattle.book_edits.specs.declared.years.Years.{Years}
use Rattle.book_edits.specs.Kept.{jobs_in, years_of}
use Rattle.book_edits.specs.declared.redone.Redone.{Redone}
use Rattle.book_edits.specs.RedoneClauses.{New, YearKept, with_new}

-- the years with their new outcomes, one after another
abbrev pub merged : List Year → List New → List Year
merged [] news = []
merged (y ∷ ys) [] = y ∷ ys
merged (y ∷ ys) (new ∷ news) = with_new y new ∷ merged ys news

-- so it is of each year with its new outcomes
abbrev pub AllRedone : Planned → List Year → List New → Type 0
AllRedone planned years news = AllZip (λ y new. YearKept planned (with_new y new)) years news

-- the years computed anew, and the work of their new jobs
pub record AreRedone (before after : Planned) (years : Years) (redone : Redone) : Type 0 where
  pub all : AllRedone after years.list.items redone.outcomes.items
  pub work_is : redone.work ≡ work_of (jobs_in before after (years_of years) (years_of years))

-- the same where one calendar becomes another
abbrev pub AreRedoneFor : List (Entry Accepted) → List (Entry Accepted) → Years → Redone → Type 0
AreRedoneFor old new years redone = AreRedone (pick old) (pick new) years redone
