-- The places of names, and what is proposed by them.
use Rattle.std.specs.Prelude.{◌≡◌, ◌<◌, ℕ, List, length, map, slice_index_or, Option, Some, None, IsSome}
use Rattle.std.specs.Borrow.{Bor}
use Rattle.std.specs.BTreeMap.{BTreeMap, get_by}
use Rattle.std.specs.Cmp.Lexicographic.{slice_cmp}
use Rattle.std.specs.Ordering.{nat_cmp}
use Rattle.flowchart_comparison.specs.Entries.{compared_text, ArePartners}

-- the place that a map has for a text
abbrev pub place_in : BTreeMap (Bor (List ℕ)) ℕ → List ℕ → Option ℕ
place_in places text = get_by (λ key. slice_cmp nat_cmp text key.now) places

-- a place of each name among the first of a list, and of no other
pub record ArePlaces (names : List (List ℕ)) (count : ℕ) (places : List ℕ → Option ℕ) : Type 0 where
  pub sound : (name : List ℕ) (i : ℕ) → places name ≡ Some i → (i < count) × (compared_text names i ≡ name)
  pub complete : (i : ℕ) → i < count → IsSome (places (compared_text names i))

-- for each new name the place of an old one
pub record ProposesNames (old new : List (List ℕ)) (proposed : List (Option ℕ)) : Type 0 where
  pub places : List ℕ → Option ℕ
  pub are : ArePlaces old (length old) places
  pub each : proposed ≡ map places new

-- places of names that the map of names doesn't have
abbrev pub AreGone : List (List ℕ) → (names gone : List ℕ → Option ℕ) → Type 0
AreGone old names gone = (text : List ℕ) (i : ℕ) → gone text ≡ Some i → names (compared_text old i) ≡ None

-- each partner is proposed to its own, and to no other
pub record ProposesPartners (old new : List (List ℕ)) (proposed : List (Option ℕ)) : Type 0 where
  pub partner : (i j : ℕ) → ArePartners old new i j → slice_index_or proposed j None ≡ Some i
  pub alone : (i j k : ℕ) → ArePartners old new i j → k < length new → slice_index_or proposed k None ≡ Some i → k ≡ j
