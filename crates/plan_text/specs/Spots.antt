-- The place of an expression's text as it is printed.
use Rattle.std.specs.Prelude.{ℕ, List, ◌∷◌, ◌++◌}
use Rattle.std.specs.Fmt.{decimal}
use Rattle.plan_text.specs.declared.fault.Spot.{Spot}
use Rattle.plan_text.specs.declared.fault.Spot.TheVariants.{Statement, Declared}

-- METHOD:STATEMENT, or the declared name
abbrev pub spot_text : Spot → List ℕ
spot_text (Statement method stmt) = method ++ 58 ∷ decimal stmt
spot_text (Declared name) = name
