-- Where the words of a reason turn from what is wrong to what helps.
use Rattle.std.specs.Prelude.{◌≡◌, ℕ, ◌+◌, ◌<◌, Bool, false, List, [], ◌∷◌, ◌++◌, Option, None, Some, ◌==◌, not, if◌then◌else◌, codes, drop, length, take}
use Rattle.std.specs.Borrow.{Bor}

-- so far a quotation was begun and not ended: the number of backticks is odd
abbrev pub is_quoted : List ℕ → Bool
is_quoted [] = false
is_quoted (byte ∷ rest) = if byte == 0x60 then not (is_quoted rest) else is_quoted rest

-- a semicolon and a space stand there, outside of a quotation
pub record IsTurn (reason : List ℕ) (at : ℕ) : Type 0 where
  pub outside : is_quoted (take at reason) ≡ false
  pub mark : drop at reason ≡ codes "; " ++ drop (at + 2) reason

-- nothing in these words says what helps
abbrev pub HasNoTurn : List ℕ → Type 0
HasNoTurn reason = (at : ℕ) → ¬ (IsTurn reason at)

-- they turn there, and not before
pub record IsFirstTurn (reason : List ℕ) (at : ℕ) : Type 0 where
  pub turn : IsTurn reason at
  pub first : (before : ℕ) → before < at → ¬ (IsTurn reason before)

-- what helps stands behind the first turn of the words; they have none where nothing helps
abbrev pub IsCutAtTurn : List ℕ → Option (Bor (List ℕ)) → Type 0
IsCutAtTurn wrong None = HasNoTurn wrong
IsCutAtTurn wrong (Some help) = IsFirstTurn (wrong ++ (codes "; " ++ help.now)) (length wrong)
