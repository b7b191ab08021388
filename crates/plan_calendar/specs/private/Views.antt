-- What private contracts cite beside the definitions of Picks.
use Rattle.std.specs.Prelude.{ℕ, List, [], ◌∷◌, Option, Some, None, ◌==◌, if◌then◌else◌}
use denote.Bor.{Bor}
use Rattle.plan_calendar.specs.Picking.{Entry, day_of}

-- the last entry, where its day is of this year
abbrev pub last_of_year : {P : Type 0} → List (Entry P) → ℕ → Option (Entry P)
last_of_year [] year = None
last_of_year (e ∷ []) year = if (day_of e).year == year then Some e else None
last_of_year (e ∷ (f ∷ es)) year = last_of_year (f ∷ es) year
