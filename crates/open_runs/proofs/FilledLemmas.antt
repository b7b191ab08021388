-- The inputs of an accepted flowchart carry over exactly what its range file binds.
use Rattle.std.proofs.Common.{◌≡◌, ◌∙◌, ℕ, List, [], ◌∷◌, Bool, ◌&&◌, ◌||◌, ap, refl}
use Rattle.std.specs.Prelude.{is_some}
use Rattle.std.specs.List.{list_any}
use Rattle.std.specs.Str.{bytes_eq}
use Rattle.pap_tree.specs.Declarations.{Declaration}
use Rattle.limits_file.specs.declared.limits.Limits.{Limits}
use Rattle.limits_file.specs.declared.slots.Slot.{Slot}
use Rattle.pap_plan.specs.Inputs.{AreSlots, carry_named}
use Rattle.open_runs.specs.private.Slots.{carries}

-- an input of this name carries over exactly where one is declared that the range file binds
pub fills_slots : (l : Limits) (name : List ℕ) (ds : List Declaration) (ss : List Slot) → AreSlots l ds ss →
    carries ss name ≡ list_any (λ d. bytes_eq d.name name && is_some (carry_named l d.name)) ds
fills_slots l name [] [] are = refl
fills_slots l name [] (s ∷ ss) are = absurd are
fills_slots l name (d ∷ ds) [] are = absurd are
fills_slots l name (d ∷ ds) (s ∷ ss) are =
    ap (λ x. bytes_eq x name && is_some s.carry || carries ss name) are.0.name
    ∙ (ap (λ x. bytes_eq d.name name && is_some x || carries ss name) are.0.carry
    ∙ ap (λ x. bytes_eq d.name name && is_some (carry_named l d.name) || x) (fills_slots l name ds ss are.1))
