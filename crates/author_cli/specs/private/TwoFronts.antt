-- What is read of two plans' files.
use Rattle.std.specs.Prelude.{◌≡◌, ◌+◌, ℕ, List, take, Some}
use Rattle.outside.specs.Told.{FileMap}
use Rattle.pap_reader.specs.declared.fault.Which.TheVariants.{Bytes}
use Rattle.pap_reader.specs.Limits.{most}

-- both files are there, and these are their first bytes: of each at most one byte more than its limit
pub record AreTwoFronts (files : FileMap) (old new old_front new_front : List ℕ) : Type 0 where
  pub old_bytes : List ℕ
  pub new_bytes : List ℕ
  pub old_there : files old ≡ Some old_bytes
  pub new_there : files new ≡ Some new_bytes
  pub old_read : old_front ≡ take (most Bytes + 1) old_bytes
  pub new_read : new_front ≡ take (most Bytes + 1) new_bytes
