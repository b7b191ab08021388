-- One item of what stands for all statements is changed.
use Rattle.std.proofs.Common.{◌≡◌, ℕ, zero, suc, ◌+◌, ◌<◌, ◌≤◌, ◌==◌, ◌⊎◌, inl, inr, eqb, Bool, true, false, List, [], ◌∷◌, length, map, get_or, set, refl, sym, ap, ◌∙◌, arith, if◌then◌else◌}
use Rattle.std.specs.Prelude.{◌&&◌}
use Rattle.std.specs.List.{range_with_len}
use Rattle.std.proofs.lemmas.Bool.{eq-eqb}
use Rattle.std.proofs.lemmas.Bool.Decides.{eqb_tells}
use Rattle.run_coverage.specs.Coverage.{by_statement}
use Rattle.run_coverage.specs.private.Tallies.{touched}

-- ---- the code's step

pub touched_in : {A : Type 0} (n : ℕ) (g : A → A) (xs : List A) (d : A) → n < length xs → touched n g xs ≡ set xs n (g (get_or xs n d))
touched_in n g [] d lt = absurd (omega arith)
touched_in zero g (x ∷ xs) d lt = refl
touched_in (suc n) g (x ∷ xs) d lt = ap (λ l. x ∷ l) (touched_in n g xs d (omega arith))

pub touched_set : {A : Type 0} (n : ℕ) (g : A → A) (xs : List A) (x y : A) → n < length xs → x ≡ get_or xs n x → y ≡ g x
    → set xs n y ≡ touched n g xs
touched_set n g xs x y lt is done = ap (λ z. set xs n z) (done ∙ ap g is) ∙ sym (touched_in n g xs x lt)

pub touched_out : {A : Type 0} (n : ℕ) (g : A → A) (xs : List A) → length xs ≤ n → touched n g xs ≡ xs
touched_out n g [] le = refl
touched_out zero g (x ∷ xs) le = absurd (omega arith)
touched_out (suc n) g (x ∷ xs) le = ap (λ l. x ∷ l) (touched_out n g xs (omega arith))

-- ---- numbers that differ

other : (a b : ℕ) → (a ≡ b → ⊥) → (a == b) ≡ false
other a b differ = by (eqb_tells a b)
  where
    by : ((eqb a b ≡ true) × (a ≡ b)) ⊎ ((eqb a b ≡ false) × (a ≡ b → ⊥)) → (a == b) ≡ false
    by (inl (t, same)) = absurd (differ same)
    by (inr (t, apart)) = t

same : (a b : ℕ) → a ≡ b → (a == b) ≡ true
same a b is = eq-eqb a b is

-- ---- a list by numbers

module _ {A : Type 0} where
  -- numbers from `a` on are none before it
  untouched : (g : A → A) (of : ℕ → A) (a c b : ℕ) → b < a
      → map (λ i. if i == b then g (of i) else of i) (range_with_len a c) ≡ map of (range_with_len a c)
  untouched g of a zero b lt = refl
  untouched g of a (suc c) b lt =
      ap (λ t. (if t then g (of a) else of a) ∷ map (λ i. if i == b then g (of i) else of i) (range_with_len (a + 1) c))
      (other a b (λ e. omega (arith, e)))
      ∙ ap (λ l. of a ∷ l) (untouched g of (a + 1) c b (omega arith))

  pub touched_range : (n : ℕ) (g : A → A) (of : ℕ → A) (a c b : ℕ) → b ≡ a + n
      → touched n g (map of (range_with_len a c)) ≡ map (λ i. if i == b then g (of i) else of i) (range_with_len a c)
  touched_range n g of a zero b at = refl
  touched_range zero g of a (suc c) b at =
      let here : a ≡ b = omega (arith, at) in
      ap (λ l. g (of a) ∷ l) (sym (untouched g of (a + 1) c b (omega (arith, here))))
      ∙ ap (λ t. (if t then g (of a) else of a) ∷ map (λ i. if i == b then g (of i) else of i) (range_with_len (a + 1) c))
      (sym (same a b here))
  touched_range (suc n) g of a (suc c) b at =
      ap (λ l. of a ∷ l) (touched_range n g of (a + 1) c b (omega (arith, at)))
      ∙ ap (λ t. (if t then g (of a) else of a) ∷ map (λ i. if i == b then g (of i) else of i) (range_with_len (a + 1) c))
      (sym (other a b (λ e. omega (arith, at, e))))

-- ---- all statements

module _ {A : Type 0} (g : A → A) (n : ℕ) where
  abbrev changed : (of : ℕ → ℕ → A) (b m k : ℕ) → A
  changed of b m k = if m == b && k == n then g (of m k) else of m k

  row : (of : ℕ → ℕ → A) (b m c : ℕ) (t : Bool) → (m == b) ≡ t
      → map (changed of b m) (range_with_len 0 c)
      ≡ (if t then touched n g (map (of m) (range_with_len 0 c)) else map (of m) (range_with_len 0 c))
  row of b m c true is =
      ap (λ t. map (λ k. if t && k == n then g (of m k) else of m k) (range_with_len 0 c)) is
      ∙ sym (touched_range n g (of m) 0 c n (omega arith))
  row of b m c false is = ap (λ t. map (λ k. if t && k == n then g (of m k) else of m k) (range_with_len 0 c)) is

  rows_untouched : (of : ℕ → ℕ → A) (b m : ℕ) (counts : List ℕ) → b < m
      → by_statement (changed of b) m counts ≡ by_statement of m counts
  rows_untouched of b m [] lt = refl
  rows_untouched of b m (c ∷ counts) lt =
      ap (λ l. l ∷ by_statement (changed of b) (m + 1) counts) (row of b m c false (other m b (λ e. omega (arith, e))))
      ∙ ap (λ l. map (of m) (range_with_len 0 c) ∷ l) (rows_untouched of b (m + 1) counts (omega arith))

  touched_rows : (j : ℕ) (of : ℕ → ℕ → A) (b m : ℕ) (counts : List ℕ) → b ≡ m + j
      → touched j (touched n g) (by_statement of m counts) ≡ by_statement (changed of b) m counts
  touched_rows j of b m [] at = refl
  touched_rows zero of b m (c ∷ counts) at =
      let here : m ≡ b = omega (arith, at) in
      ap (λ l. touched n g (map (of m) (range_with_len 0 c)) ∷ l) (sym (rows_untouched of b (m + 1) counts (omega (arith, here))))
      ∙ ap (λ l. l ∷ by_statement (changed of b) (m + 1) counts) (sym (row of b m c true (same m b here)))
  touched_rows (suc j) of b m (c ∷ counts) at =
      ap (λ l. map (of m) (range_with_len 0 c) ∷ l) (touched_rows j of b (m + 1) counts (omega (arith, at)))
      ∙ ap (λ l. l ∷ by_statement (changed of b) (m + 1) counts)
      (sym (row of b m c false (other m b (λ e. omega (arith, at, e)))))

-- one statement's item is changed
pub touched_statement : {A : Type 0} (g : A → A) (m n : ℕ) (of : ℕ → ℕ → A) (counts : List ℕ)
    → touched m (touched n g) (by_statement of 0 counts)
    ≡ by_statement (λ i k. if i == m && k == n then g (of i k) else of i k) 0 counts
touched_statement g m n of counts = touched_rows g n m of m 0 counts (omega arith)
