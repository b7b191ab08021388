-- What a text says: a saved book, or the first item that isn't of its form.
use Rattle.std.specs.Prelude.{◌≡◌, ◌≢◌, ℕ, ◌+◌, List, ◌++◌, length, Result, Ok, Err}
use Rattle.payroll_records.specs.Tables.{Text}
use Rattle.saved_items.specs.Fronts.{FirstItems, items_in, plans_of_first, front_text, AreFirstItems}
use Rattle.saved_items.specs.SavedBooks.{SavedPlan, Saved, IsSavedText}

-- the bytes begin with these items
pub record BeginsWithItems (bytes : Text) (front : FirstItems) : Type 0 where
  pub sound : AreFirstItems front
  pub rest : Text
  pub begins : bytes ≡ front_text front ++ rest

-- the number of an item, counted from 1, the byte at which it would begin, and the plans of the items before it
pub record Stop : Type 0 where
  pub item : ℕ
  pub at : ℕ
  pub plans : List SavedPlan

-- the item of this number isn't of its form after the earlier ones: the bytes begin with those, and with no more; nor are
-- they a whole text, whose last item is its last line with nothing after it
pub record StopsAtItem (bytes : Text) (stop : Stop) : Type 0 where
  pub front : FirstItems
  pub shown : BeginsWithItems bytes front
  pub item : stop.item ≡ items_in front + 1
  pub at : stop.at ≡ length (front_text front)
  pub plans : stop.plans ≡ plans_of_first front
  pub stuck : (longer : FirstItems) → BeginsWithItems bytes longer → items_in longer ≢ stop.item
  pub unfinished : (s : Saved) → IsSavedText bytes s → ⊥

-- what a text says: a saved book, or the first item that isn't of its form
abbrev pub TextSays : Text → Result Saved Stop → Type 0
TextSays bytes (Ok s) = IsSavedText bytes s
TextSays bytes (Err stop) = StopsAtItem bytes stop

-- a text says one thing
pub record SavedTextHasOneAnswer (bytes : Text) : Type 0 where
  pub answer : Result Saved Stop
  pub says : TextSays bytes answer
  pub alone : (other : Result Saved Stop) → TextSays bytes other → other ≡ answer
