-- The first item of a text that isn't of its form: in which line it would begin, what stands there, and what has to.
use Rattle.std.specs.Prelude.{◌≡◌, ◌↔◌, ℕ, Bool, ◌+◌, ◌==◌, not, nat_lt, if◌then◌else◌, length, IsTrue}
use Rattle.std.specs.List.{count_by, take_while}
use Rattle.payroll_records.specs.Tables.{Text}
use Rattle.saved_items.specs.Fronts.{FirstItems, nothing, titled, worked, planning, running, front_text}
use Rattle.saved_items.specs.SavedBooks.{Saved, IsSavedText}
use Rattle.saved_items.specs.Texts.{Stop, StopsAtItem}
use Rattle.saved_items.specs.declared.wrong_items.Wanted.{Wanted}
use Rattle.saved_items.specs.declared.wrong_items.Wanted.TheVariants as wants
use Rattle.saved_items.specs.declared.wrong_items.WrongItem.{WrongItem}

-- the text is a saved book
abbrev pub IsSavedBook : Text → Type 0
IsSavedBook bytes = (s : Saved) × IsSavedText bytes s

-- the byte goes on with a line
abbrev pub is_in_line : ℕ → Bool
is_in_line b = not (b == 10)

-- what stands before the first line feed, or all where there is none
abbrev pub front_line : Text → Text
front_line bytes = take_while is_in_line bytes

-- the line behind some bytes, counted from 1: one more than their line feeds
abbrev pub line_behind : Text → ℕ
line_behind before = count_by (λ b. b == 10) before + 1

-- what has to stand behind these items: one more plan or run as long as there are fewer than their number says
abbrev pub wanted_behind : FirstItems → Wanted
wanted_behind nothing = wants.Title
wanted_behind titled = wants.Work
wanted_behind (worked runs steps) = wants.PlanCount
wanted_behind (planning runs steps count plans) =
    if nat_lt (length plans) count then wants.Plan else wants.RunCount
wanted_behind (running runs steps plans count records) =
    if nat_lt (length records) count then wants.Run else wants.End

-- what is told is the first item that isn't of its form: its number, the line in which it would begin, what that line has,
-- whether the text ends in it, and what has to stand there
pub record IsWrongItem (bytes : Text) (wrong : WrongItem) : Type 0 where
  pub stop : Stop
  pub stops : StopsAtItem bytes stop
  pub item : wrong.item ≡ stop.item
  pub line : wrong.line ≡ line_behind (front_text stops.front)
  pub found : wrong.found.now ≡ front_line stops.shown.rest
  pub cut : IsTrue wrong.is_cut ↔ (wrong.found.now ≡ stops.shown.rest)
  pub wanted : wrong.wanted ≡ wanted_behind stops.front
