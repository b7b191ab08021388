-- Two lists are the same pair by pair where they are as long and all of their pairs are.
use Rattle.std.proofs.Common.{◌≡◌, ◌≢◌, ◌==◌, ℕ, suc, List, [], ◌∷◌, length, Bool, true, false, ◌&&◌, refl, sym, ap, ◌∙◌, arith}
use Rattle.std.proofs.lemmas.Bool.Decides.{nat_tests}
use Rattle.std.specs.Cmp.Lexicographic.{pointwise}
use Rattle.std.specs.List.{list_all, zip}

and_false : (b : Bool) → (b && false) ≡ false
and_false true = refl
and_false false = refl

unequal : (m n : ℕ) → m ≢ n → (m == n) ≡ false
unequal m n e = grind (arith, nat_tests)

module _ {A : Type 0} (E : A → A → Bool) where
  pub pairs_same : (xs ys : List A) → length xs ≡ length ys →
      list_all (λ (p : A × A). E p.0 p.1) (zip xs ys) ≡ pointwise E xs ys
  pairs_same [] [] e = refl
  pairs_same [] (y ∷ ys) e = absurd (omega (arith, e))
  pairs_same (x ∷ xs) [] e = absurd (omega (arith, e))
  pairs_same (x ∷ xs) (y ∷ ys) e = ap (λ b. E x y && b) (pairs_same xs ys (omega (arith, e)))

  -- lists of other lengths
  other : (xs ys : List A) → length xs ≢ length ys → pointwise E xs ys ≡ false
  other [] [] n = absurd (n refl)
  other [] (y ∷ ys) n = refl
  other (x ∷ xs) [] n = refl
  other (x ∷ xs) (y ∷ ys) n = ap (λ b. E x y && b) (other xs ys (λ e. n (ap suc e))) ∙ and_false (E x y)

  pub other_length : (xs ys : List A) → length xs ≢ length ys → (length xs == length ys) ≡ pointwise E xs ys
  other_length xs ys n = unequal (length xs) (length ys) n ∙ sym (other xs ys n)
