-- Texts that stand in a page one behind another.
use Rattle.std.specs.Prelude.{◌≡◌, ℕ, List, [], ◌∷◌, ◌++◌, ⊤}

-- the texts stand in the page in this order, each behind the one before it, with anything between them
abbrev pub StandInTurn : List (List ℕ) → List ℕ → Type 0
StandInTurn [] page = ⊤
StandInTurn (text ∷ texts) page =
    (before : List ℕ) × (behind : List ℕ) × (page ≡ before ++ (text ++ behind)) × StandInTurn texts behind

-- a page is gone on with, and these texts stand in what comes
pub record AddsInTurn (texts : List (List ℕ)) (old new : List ℕ) : Type 0 where
  pub more : List ℕ
  pub grown : new ≡ old ++ more
  pub stand : StandInTurn texts more
