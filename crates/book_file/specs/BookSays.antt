-- What the text of a saved book says: a book, or what is wrong with it first.
use Rattle.std.specs.Prelude.{◌≡◌, ◌≤◌, ◌<◌, ℕ, List, ◌∷◌, ◌++◌, length, Result, Ok, Err}
use Rattle.std.specs.List.{AllByRecursion}
use Rattle.payroll_records.specs.declared.day.Day.{Day}
use Rattle.saved_items.specs.SavedBooks.{Saved, SavedPlan}
use Rattle.saved_items.specs.Texts.{Stop, TextSays}
use Rattle.pap_plan.specs.declared.refusal.PlanRefusal.{PlanRefusal}
use Rattle.pap_plan.specs.Acceptance.{IsAccepted, IsRefused, Meaning}
use Rattle.recalc_engine.specs.Contents.{Contents}
use Rattle.book_file.specs.BookTexts.{IsTextOf}
use Rattle.book_file.specs.Limits.{most_book_text}
use Rattle.book_file.specs.declared.refusal.BookFault.{BookFault}
use Rattle.book_file.specs.declared.refusal.BookFault.TheVariants as fault

-- the two texts of a saved plan are accepted
abbrev pub IsAcceptable : SavedPlan → Type 0
IsAcceptable p = (m : Meaning) × IsAccepted p.plan p.limits m

-- the plan of a saved book is refused
abbrev pub IsUnacceptable : SavedPlan → Type 0
IsUnacceptable p = (why : PlanRefusal) × IsRefused p.plan p.limits why

-- the first of these plans whose texts are refused is that of this day
pub record IsFirstRefused (plans : List SavedPlan) (day : Day) : Type 0 where
  pub before : List SavedPlan
  pub plan : SavedPlan
  pub after : List SavedPlan
  pub parts : plans ≡ before ++ plan ∷ after
  pub accepted : AllByRecursion IsAcceptable before
  pub refused : IsUnacceptable plan
  pub day_is : day ≡ plan.day

-- the plans that are read before the text ends or breaks
abbrev pub plans_read : Result Saved Stop → List SavedPlan
plans_read (Ok saved) = saved.plans
plans_read (Err stop) = stop.plans

-- the item isn't of its form after the items before it, and the plans among these are accepted
pub record BreaksAtItem (bytes : List ℕ) (item : ℕ) : Type 0 where
  pub few : length bytes ≤ most_book_text
  pub stop : Stop
  pub says : TextSays bytes (Err stop)
  pub accepted : AllByRecursion IsAcceptable stop.plans
  pub item_is : item ≡ stop.item

-- the texts of the plan of this day are refused; the items up to it are of their form, and the plans before it are accepted
pub record HasRefusedPlan (bytes : List ℕ) (day : Day) : Type 0 where
  pub few : length bytes ≤ most_book_text
  pub said : Result Saved Stop
  pub says : TextSays bytes said
  pub first : IsFirstRefused (plans_read said) day

-- the book whose text these bytes are, or what is wrong with them: they are too many, or else the first item that is
-- wrong; a text never says that memory ran out
abbrev pub BookSays : List ℕ → Result Contents BookFault → Type 0
BookSays bytes (Ok book) = IsTextOf bytes book
BookSays bytes (Err fault.Long) = most_book_text < length bytes
BookSays bytes (Err (fault.Form item)) = BreaksAtItem bytes item
BookSays bytes (Err (fault.Plan day)) = HasRefusedPlan bytes day
BookSays bytes (Err (fault.Memory e)) = ⊥
