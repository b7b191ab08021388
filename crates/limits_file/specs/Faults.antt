-- What can be wrong with a range file.
use Rattle.std.specs.Prelude.{ℕ, List}

-- the fault of a range file: its text has too many bytes or isn't TOML, or it is the label of a key or of an
-- input
pub data Fault : Type 0 where
  too_long : Fault
  no_toml : Fault
  bad_key : List ℕ → Fault
  bad_bound : List ℕ → Fault
