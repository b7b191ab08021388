-- How much there is of what, counted from shape to shape.
use Rattle.std.specs.Prelude.{ℕ, suc, ◌-◌, List, [], ◌∷◌}
use Rattle.pap_reader.specs.declared.element.Element.TheVariants.{If}
use Rattle.pap_reader.specs.declared.fault.Which.{Which}
use Rattle.pap_reader.specs.declared.fault.Which.TheVariants as which
use Rattle.pap_reader.specs.Structure.{Shape, opens, closes}
use Rattle.pap_reader.specs.Limits.{amount}

-- how many IFs are open after one shape more
abbrev pub deeper : ℕ → Shape → ℕ
deeper d (opens If) = suc d
deeper d (closes If) = d - 1
deeper d _ = d

-- the same after all of the shapes
abbrev pub depth_from : ℕ → List Shape → ℕ
depth_from d [] = d
depth_from d (s ∷ ss) = depth_from (deeper d s) ss

-- what the counts come to; where the shapes are nested, it is the amount
abbrev pub tally : Which → List Shape → ℕ
tally which.Depth ss = depth_from 0 ss
tally w ss = amount w ss
