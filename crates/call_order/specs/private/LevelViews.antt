-- The lengths of the longest chains, as the private functions find them.
use Rattle.std.specs.Prelude.{◌≡◌, ◌≢◌, ℕ, ◌+◌, ◌-◌, ◌<◌, ◌≤◌, ◌⊎◌, ◌==◌, List, Bool, Option, Some, None, length, slice_index, slice_index_or, All, Contains, MatchBool, MatchOption, IfSome, count_by}
use Rattle.pap_types.specs.Limits.{longest_chain}
use Rattle.call_order.specs.Graphs.{Graph}
use Rattle.call_order.specs.Chains.{IsCallChain, BeginsMore, content_at}

-- each executed method is one of the graph's
abbrev pub AreKnown : Graph → List ℕ → Type 0
AreKnown g js = All (λ j. j < length g) js

abbrev pub AllKnown : Graph → Type 0
AllKnown g = (i : ℕ) → AreKnown g (content_at g i).methods

-- the level of the method of a number
abbrev pub level_at : List (Option ℕ) → ℕ → Option ℕ
level_at ls i = slice_index_or ls i None

-- t is the number of methods in the longest chain that a method begins, and at most n
pub record IsLongest (g : Graph) (n i t : ℕ) : Type 0 where
  pub begins : BeginsMore g (t - 1) i
  pub ends : (rest : List ℕ) → IsCallChain g i rest → length rest < t
  pub few : t ≤ n

-- a method's level is that number, and a method that begins a chain of more than n methods has none
abbrev pub IsLevel : Graph → ℕ → ℕ → Option ℕ → Type 0
IsLevel g n i level = MatchOption level (BeginsMore g n i) (IsLongest g n i)

-- each method has its level
pub record AreLevels (g : Graph) (n : ℕ) (ls : List (Option ℕ)) : Type 0 where
  pub all : length ls ≡ length g
  pub each : (i : ℕ) → i < length g → IsLevel g n i (level_at ls i)

-- the methods before i are a level further
pub record AreRaised (g : Graph) (n i : ℕ) (ls : List (Option ℕ)) : Type 0 where
  pub all : length ls ≡ length g
  pub before : (k : ℕ) → k < i → k < length g → IsLevel g (n + 1) k (level_at ls k)
  pub after : (k : ℕ) → i ≤ k → k < length g → IsLevel g n k (level_at ls k)

-- there is a level, of at most n
abbrev pub IsPlaced : ℕ → Option ℕ → Type 0
IsPlaced n level = MatchOption level ⊥ (λ t. t ≤ n)

-- each method has a level
abbrev pub HaveLevels : List (Option ℕ) → Type 0
HaveLevels ls = (i : ℕ) → i < length ls → level_at ls i ≢ None

-- each method has a level, which is one that there is
abbrev pub AreAllPlaced : List (Option ℕ) → Type 0
AreAllPlaced ls = (i : ℕ) → i < length ls → MatchOption (level_at ls i) ⊥ (λ t. (0 < t) × (t ≤ longest_chain))

-- each method of the list has a level of at most n, or one that hasn't is there
abbrev pub TellsPlaced : ℕ → List (Option ℕ) → List ℕ → Bool → Type 0
TellsPlaced n ls methods answer =
    MatchBool answer
    (All (λ j. IsPlaced n (level_at ls j)) methods)
    ((j : ℕ) × Contains methods j × ¬ (IsPlaced n (level_at ls j)))

-- the levels of the methods of a list don't fall
abbrev pub AreByLevel : List (Option ℕ) → List ℕ → Type 0
AreByLevel ls order = (p q : ℕ) → p < q → q < length order
    → IfSome (level_at ls (slice_index order q)) (λ t. IsPlaced t (level_at ls (slice_index order p)))

-- each method once, by level
pub record IsByLevel (ls : List (Option ℕ)) (order : List ℕ) : Type 0 where
  pub known : All (λ i. i < length ls) order
  pub once : (k : ℕ) → k < length ls → count_by (λ j. j == k) order ≡ 1
  pub sorted : AreByLevel ls order

-- a method k of a level t below n, or of level n before i; the others
abbrev pub IsPassed : ℕ → ℕ → ℕ → ℕ → Type 0
IsPassed n i k t = (t < n) ⊎ ((t ≡ n) × (k < i))

abbrev pub IsAhead : ℕ → ℕ → ℕ → ℕ → Type 0
IsAhead n i k t = (n < t) ⊎ ((t ≡ n) × (i ≤ k))

-- the methods that are passed, once each
pub record IsPartly (ls : List (Option ℕ)) (n i : ℕ) (order : List ℕ) : Type 0 where
  pub known : All (λ k. k < length ls) order
  pub done : (k t : ℕ) → k < length ls → level_at ls k ≡ Some t → 0 < t → IsPassed n i k t
      → count_by (λ j. j == k) order ≡ 1
  pub rest : (k t : ℕ) → k < length ls → level_at ls k ≡ Some t → IsAhead n i k t → count_by (λ j. j == k) order ≡ 0
  pub low : (q : ℕ) → q < length order → IsPlaced n (level_at ls (slice_index order q))
  pub sorted : AreByLevel ls order
