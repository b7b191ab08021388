-- What is joined where two branches meet.
use Rattle.std.specs.Prelude.{◌≡◌, ℕ, Bool, ◌&&◌, nat_eq, nat_le, int_le, List, Result, Ok, Err, ⊤}
use Rattle.interval_num.specs.Intervals.{Interval}
use Rattle.interval_analysis.specs.declared.expressions.Stop.{Stop}
use Rattle.interval_analysis.specs.declared.expressions.Stop.TheVariants as stops
use Rattle.interval_analysis.specs.private.StatementViews.{joined_lists}

-- the ranges behind two branches are joined
abbrev pub MeetsAnswer : ℕ → List Interval → List Interval → List Interval → Result (Unit {0}) Stop → Type 0
MeetsAnswer root rs ss new (Ok u) = joined_lists rs ss ≡ Ok new
MeetsAnswer root rs ss new (Err (stops.At node cause)) = (node ≡ root) × (joined_lists rs ss ≡ Err cause)
MeetsAnswer root rs ss new (Err (stops.AtOne node cause a)) = ⊥
MeetsAnswer root rs ss new (Err (stops.AtTwo node cause a b)) = ⊥
MeetsAnswer root rs ss new (Err stops.Memory) = ⊤

-- an interval contains another at the same places
abbrev pub is_around : Interval → Interval → Bool
is_around a b = nat_eq a.s_hi b.s_hi && (nat_le a.s_lo b.s_lo && (int_le a.lo b.lo && int_le b.hi a.hi))
