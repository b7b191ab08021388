-- What the private functions of a table say of the reader's rows.
use Rattle.std.specs.Prelude.{◌≡◌, ◌+◌, ℕ, Bool, false, List, [], ◌∷◌, length, Option, Some, None, IsSome}
use Rattle.std.specs.Bool.{MatchBool}
use Rattle.csv.specs.Machine.{ends_at_end}
use Rattle.csv.specs.Reading.{Ready, default_config, records_from, source_of}
use Rattle.csv.specs.declared.parser.State.{State}
use Rattle.csv.specs.declared.reader.Reader.{Reader}
use Rattle.csv.specs.declared.reader.Trim.TheVariants as trim

-- the rows of a text from a state on
abbrev pub rows_from : State → List ℕ → List (List (List ℕ))
rows_from s xs = records_from default_config (length xs + 1) s xs

abbrev pub rows_of_known : State → Option (List ℕ) → List (List (List ℕ))
rows_of_known s None = []
rows_of_known s (Some xs) = rows_from s xs

-- the rows that a reader has left
abbrev pub rows_left : {R : Type 0} → (R → Option (List ℕ)) → Reader R → List (List (List ℕ))
rows_left rem r = rows_of_known r.state (source_of rem r)

-- a reader with the default settings that stands between two rows of a known text
pub record IsBetweenRows {R : Type 0} (rem : R → Option (List ℕ)) (r : Reader R) : Type 0 where
  pub trim : r.trim ≡ trim.None
  pub ready : Ready r
  pub config : r.config ≡ default_config
  pub known : IsSome (source_of rem r)
  pub between : ends_at_end r.state ≡ false

pub record TakesRow {R : Type 0} (rem : R → Option (List ℕ)) (old new : Reader R)
    (row : List (List ℕ)) : Type 0 where
  pub reader : IsBetweenRows rem new
  pub rows : rows_left rem old ≡ row ∷ rows_left rem new

-- a read took the next row, or there was none
abbrev pub ReadsRow : {R : Type 0} →
    (R → Option (List ℕ)) → Reader R → Reader R → Bool → List (List ℕ) → Type 0
ReadsRow rem old new found row = MatchBool found (TakesRow rem old new row) (rows_left rem old ≡ [])
