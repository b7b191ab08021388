-- What the answer of a private function tells.
use Rattle.std.specs.Prelude.{ℕ, List, Result, Ok, Err, ⊤}
use Rattle.limits_file.specs.declared.fault.LimitsFault.{LimitsFault}
use Rattle.limits_file.specs.declared.fault.LimitsFault.TheVariants as answered
use Rattle.limits_file.specs.RangeFiles.{IsNoToml}
use Rattle.limits_file.specs.Faults.{Fault, too_long, no_toml, bad_key, bad_bound}

-- the answer is so; that memory ran out says nothing
abbrev pub Tells : {A : Type 0} → (Result A Fault → Type 0) → Result A LimitsFault → Type 0
Tells IsSo (Ok value) = IsSo (Ok value)
Tells IsSo (Err answered.Toml) = IsSo (Err no_toml)
Tells IsSo (Err (answered.Key label)) = IsSo (Err (bad_key label))
Tells IsSo (Err (answered.Bound label)) = IsSo (Err (bad_bound label))
Tells IsSo (Err answered.LimitsLong) = IsSo (Err too_long)
Tells IsSo (Err (answered.Memory e)) = ⊤

-- what a fault of the text as a whole tells
abbrev pub IsNoTomlOrMemory : List ℕ → LimitsFault → Type 0
IsNoTomlOrMemory bytes answered.Toml = IsNoToml bytes
IsNoTomlOrMemory bytes (answered.Memory e) = ⊤
IsNoTomlOrMemory bytes other = ⊥
