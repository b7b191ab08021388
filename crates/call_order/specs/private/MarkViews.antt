-- Marked methods.
use Rattle.std.specs.Prelude.{◌≡◌, ℕ, ◌<◌, ◌≤◌, ◌⊎◌, Bool, true, false, if◌then◌else◌, List, length, slice_index, slice_index_or, sum_by, Option, MatchBool, MatchOption}
use Rattle.call_order.specs.Graphs.{Graph}
use Rattle.call_order.specs.Chains.{Executes, Reaches, ReachesItself}
use Rattle.call_order.specs.Orders.{HasNone}
use Rattle.call_order.specs.Faults.{IsFirstBelow}

abbrev pub is_marked : List Bool → ℕ → Bool
is_marked seen k = slice_index_or seen k false

-- how many aren't marked
abbrev pub left : List Bool → ℕ
left seen = sum_by (λ b. if b then 0 else 1) seen

-- from one list of marks to the next all newly marked methods come from i, and what they execute is marked
pub record AreMarked (g : Graph) (i : ℕ) (old new : List Bool) : Type 0 where
  pub all : length new ≡ length old
  pub kept : (k : ℕ) → is_marked old k ≡ true → is_marked new k ≡ true
  pub closed : (k : ℕ) → is_marked old k ≡ false → is_marked new k ≡ true
      → (j : ℕ) → Executes g k j → is_marked new j ≡ true
  pub reached : (k : ℕ) → is_marked old k ≡ false → is_marked new k ≡ true → (i ≡ k) ⊎ Reaches g i k
  pub fewer : left new ≤ left old

-- a method was marked, and now the first m of those that it executes are
pub record IsMarking (g : Graph) (i : ℕ) (next : List ℕ) (m : ℕ) (old new : List Bool) : Type 0 where
  pub all : length new ≡ length old
  pub kept : (k : ℕ) → is_marked old k ≡ true → is_marked new k ≡ true
  pub closed : (k : ℕ) → is_marked old k ≡ false → is_marked new k ≡ true
      → (j : ℕ) → Executes g k j → is_marked new j ≡ true
  pub reached : (k : ℕ) → is_marked old k ≡ false → is_marked new k ≡ true → Reaches g i k
  pub here : (k : ℕ) → k < m → is_marked new (slice_index next k) ≡ true
  pub fewer : left new ≤ left old

-- the answer tells whether the method reaches itself
abbrev pub TellsCycle : Graph → ℕ → Bool → Type 0
TellsCycle g i answer = MatchBool answer (ReachesItself g i) (¬ (ReachesItself g i))

-- the first method that reaches itself, or none does
abbrev pub IsFirstInCycle : Graph → Option ℕ → Type 0
IsFirstInCycle g first =
    MatchOption first (HasNone (ReachesItself g) (length g)) (λ i. IsFirstBelow (ReachesItself g) (length g) i)
