-- What is written of range files that changed.
use Rattle.std.proofs.Common.{◌≡◌, ◌⊎◌, inl, inr, ℕ, suc, eqb, List, [], ◌∷◌, ◌++◌, true, false, length, sym, ap, ◌∙◌, arith, append_assoc}
use Rattle.std.specs.Prelude.{◌==◌, codes}
use Rattle.std.specs.List.{flat_map}
use Rattle.std.proofs.lemmas.Bool.Decides.{eqb_tells}
use Rattle.std.proofs.lemmas.List.{append-nil}
use Rattle.range_comparison.specs.declared.change.RangeChange.{RangeChange}
use Rattle.comparison_page.specs.RangeTexts.{range_change_lines, range_changes_text}

true_false : true ≡ false → ⊥
true_false e = cc

positive : (n : ℕ) → (suc n == 0) ≡ true → ⊥
positive n zero_too = by (eqb_tells (suc n) 0)
  where
    by : ((eqb (suc n) 0 ≡ true) × (suc n ≡ 0)) ⊎ ((eqb (suc n) 0 ≡ false) × (suc n ≡ 0 → ⊥)) → ⊥
    by (inl (t, same)) = omega (arith, same)
    by (inr (t, other)) = true_false (sym zero_too ∙ t)

pub no_changes : (changes : List RangeChange) (out : List ℕ) → (length changes == 0) ≡ true
    → out ≡ out ++ range_changes_text changes
no_changes [] out none = sym (append-nil out)
no_changes (c ∷ changes) out none = absurd (positive (length changes) none)

pub some_changes : (changes : List RangeChange) (out headed out' : List ℕ) → (length changes == 0) ≡ false
    → headed ≡ out ++ codes "ranges\n" → out' ≡ headed ++ flat_map range_change_lines changes
    → out' ≡ out ++ range_changes_text changes
some_changes [] out headed out' some heading lines = absurd cc
some_changes (c ∷ changes) out headed out' some heading lines =
    lines ∙ ap (λ l. l ++ flat_map range_change_lines (c ∷ changes)) heading
    ∙ append_assoc out (codes "ranges\n") (flat_map range_change_lines (c ∷ changes))
