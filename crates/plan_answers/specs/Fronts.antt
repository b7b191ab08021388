-- What is read of a plan's file and a range file, and which of them may be missing.
use Rattle.std.specs.Prelude.{◌≡◌, ◌+◌, ◌⊎◌, ℕ, List, take, Option, Some, IsSome}
use Rattle.std.specs.Option.{ForSome}
use Rattle.outside.specs.Told.{FileMap}
use Rattle.pap_reader.specs.declared.fault.Which.TheVariants.{Bytes}
use Rattle.pap_reader.specs.Limits.{most}
use Rattle.limits_file.specs.Limits.{longest_limits}

-- both files are there, and these are their first bytes: of each at most one byte more than its limit
pub record AreFronts (files : FileMap) (plan limits plan_front limits_front : List ℕ) : Type 0 where
  pub plan_bytes : List ℕ
  pub limits_bytes : List ℕ
  pub plan_there : files plan ≡ Some plan_bytes
  pub limits_there : files limits ≡ Some limits_bytes
  pub plan_read : plan_front ≡ take (most Bytes + 1) plan_bytes
  pub limits_read : limits_front ≡ take (longest_limits + 1) limits_bytes

-- the name at which the files failed: the plan's, or the range file's where the plan is there
abbrev pub IsMissing : Option FileMap → List ℕ → List ℕ → Option (List ℕ) → Type 0
IsMissing told plan limits failed =
    (failed ≡ Some plan) ⊎ ((failed ≡ Some limits) × ForSome told (λ files. IsSome (files plan)))
