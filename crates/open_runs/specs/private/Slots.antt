-- The inputs of an accepted flowchart, with what they carry over.
use Rattle.std.specs.Prelude.{ℕ, List, Bool, ◌&&◌, is_some}
use Rattle.std.specs.List.{list_any}
use Rattle.std.specs.Str.{bytes_eq}
use Rattle.limits_file.specs.declared.slots.Slot.{Slot}

-- an input of this name carries over
abbrev pub carries : List Slot → List ℕ → Bool
carries slots name = list_any (λ s. bytes_eq s.name name && is_some s.carry) slots
