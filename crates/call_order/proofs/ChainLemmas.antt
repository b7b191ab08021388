-- Chains, put together and taken apart.
use Rattle.std.proofs.Common.{ℕ, zero, suc, ◌+◌, ◌<◌, ◌≤◌, List, [], ◌∷◌, ◌++◌, length, arith}
use Rattle.call_order.specs.Graphs.{Graph}
use Rattle.call_order.specs.Chains.{Executes, IsCallChain, Reaches, BeginsMore}

module _ (g : Graph) where
  -- two chains, one after the other
  pub chain-append : (i j : ℕ) (c d : List ℕ) → IsCallChain g i (c ++ j ∷ []) → IsCallChain g j d → IsCallChain g i (c ++ j ∷ d)
  chain-append i j [] d h k = (h.0, k)
  chain-append i j (x ∷ c) d h k = (h.0, chain-append x j c d h.1 k)

  -- a method that one executes, and what that one reaches
  pub reaches-one : (i j : ℕ) → Executes g i j → Reaches g i j
  reaches-one i j h = ([], (h, tt))

  pub reaches-more : (i j k : ℕ) → Executes g i j → Reaches g j k → Reaches g i k
  reaches-more i j k h r = (j ∷ r.0, (h, r.1))

  -- what holds of all that is executed holds of all that is reached
  pub closed : (P : ℕ → Type 0) → ((k : ℕ) → P k → (j : ℕ) → Executes g k j → P j) → (i j : ℕ) (c : List ℕ) → P i → IsCallChain g i (c ++ j ∷ []) → P j
  closed P f i j [] p h = f i p j h.0
  closed P f i j (x ∷ c) p h = closed P f x j c (f i p x h.0) h.1

  length-past : (c d : List ℕ) (i : ℕ) → length d < length (c ++ i ∷ d)
  length-past [] d i = omega arith
  length-past (x ∷ c) d i = let h = length-past c d i in omega arith

  -- a method in a cycle begins chains of any length
  pub cycle-long : (i n : ℕ) → Reaches g i i → BeginsMore g n i
  cycle-long i zero r = ([], tt, omega arith)
  cycle-long i (suc n) r =
      let b = cycle-long i n r in
      let l = length-past r.0 b.0 i in
      (r.0 ++ i ∷ b.0, chain-append i i r.0 b.0 r.1 b.1, omega (arith, b.2))

  pub begins-more : (i j n : ℕ) → Executes g i j → BeginsMore g n j → BeginsMore g (n + 1) i
  begins-more i j n h b = (j ∷ b.0, (h, b.1), omega (arith, b.2))

  pub begins-less : (i m n : ℕ) → m ≤ n → BeginsMore g n i → BeginsMore g m i
  begins-less i m n le b = (b.0, b.1, omega (arith, b.2))
