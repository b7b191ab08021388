-- The longest front of a text that passes a test.
use Rattle.std.proofs.Common.{◌≡◌, ℕ, suc, ◌+◌, Bool, true, false, cond, List, [], ◌∷◌, ◌++◌, take, drop, refl, sym, ap, subst, ◌∙◌, arith}
use Rattle.std.specs.List.{list_all, prefix_len}
use Rattle.std.proofs.lemmas.Bool.{and_parts, and_from}
use Rattle.expr_tokens.specs.private.Views.{Stops, IsLongest}

prefix_yes : (p : ℕ → Bool) (b : ℕ) (bs : List ℕ) → p b ≡ true → prefix_len p (b ∷ bs) ≡ suc (prefix_len p bs)
prefix_yes p b bs e = let one : prefix_len p (b ∷ bs) ≡ 1 + prefix_len p bs = ap (λ t. cond t (1 + prefix_len p bs) 0) e in omega arith

prefix_no : (p : ℕ → Bool) (b : ℕ) (bs : List ℕ) → p b ≡ false → prefix_len p (b ∷ bs) ≡ 0
prefix_no p b bs e = ap (λ t. cond t (1 + prefix_len p bs) 0) e

-- the bytes with one more byte in front
one_more : (p : ℕ → Bool) (b : ℕ) (bs : List ℕ) (t : Bool) → p b ≡ t → IsLongest p bs (take (prefix_len p bs) bs) (drop (prefix_len p bs) bs) → IsLongest p (b ∷ bs) (take (prefix_len p (b ∷ bs)) (b ∷ bs)) (drop (prefix_len p (b ∷ bs)) (b ∷ bs))
one_more p b bs true e h =
    subst (λ n. IsLongest p (b ∷ bs) (take n (b ∷ bs)) (drop n (b ∷ bs))) (sym (prefix_yes p b bs e))
    (record { parts = ap (λ xs. b ∷ xs) h.parts; passes = and_from (p b) _ e h.passes; stops = h.stops })
one_more p b bs false e h =
    subst (λ n. IsLongest p (b ∷ bs) (take n (b ∷ bs)) (drop n (b ∷ bs))) (sym (prefix_no p b bs e)) (record { parts = refl; passes = refl; stops = e })

pub longest_at : (p : ℕ → Bool) (bytes : List ℕ) → IsLongest p bytes (take (prefix_len p bytes) bytes) (drop (prefix_len p bytes) bytes)
longest_at p [] = record { parts = refl; passes = refl; stops = tt }
longest_at p (b ∷ bs) = one_more p b bs (p b) refl (longest_at p bs)

-- the same, of parts that are cut there
pub longest_by : (p : ℕ → Bool) (bytes front rest : List ℕ) (n : ℕ) → n ≡ prefix_len p bytes → front ≡ take n bytes → rest ≡ drop n bytes → IsLongest p bytes front rest
longest_by p bytes front rest n e f g =
    let whole : IsLongest p bytes (take n bytes) (drop n bytes) = subst (λ n. IsLongest p bytes (take n bytes) (drop n bytes)) (sym e) (longest_at p bytes) in
    subst (λ x. IsLongest p bytes x rest) (sym f) (subst (λ x. IsLongest p bytes (take n bytes) x) (sym g) whole)

-- a front that passes the test is a front of the longest one
pub within : (p : ℕ → Bool) (front rest xs ys : List ℕ) → Stops p rest → list_all p xs ≡ true → front ++ rest ≡ xs ++ ys → (more : List ℕ) × (front ≡ xs ++ more) × (ys ≡ more ++ rest)
within p front rest [] ys s h e = (front, refl, sym e)
within p [] [] (x ∷ xs) ys s h e = absurd cc
within p [] (b ∷ rest) (x ∷ xs) ys s h e =
    let same : b ≡ x = cc in
    let yes : p x ≡ true = (and_parts (p x) (list_all p xs) h).0 in
    let no : p x ≡ false = ap p (sym same) ∙ s in
    absurd cc
within p (b ∷ front) rest (x ∷ xs) ys s h e =
    let same : b ≡ x = cc in
    let tails : front ++ rest ≡ xs ++ ys = cc in
    let m = within p front rest xs ys s (and_parts (p x) (list_all p xs) h).1 tails in
    (m.0, ap (λ c. c ∷ front) same ∙ ap (λ zs. x ∷ zs) m.1, m.2)
