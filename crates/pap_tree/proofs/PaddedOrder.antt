-- The order of two texts that are filled up with zeros.
use Rattle.std.proofs.Common.{◌≡◌, ℕ, suc, ◌+◌, ◌-◌, ◌<◌, ◌≤◌, List, [], ◌∷◌, ◌++◌, length, take, refl, sym, ap, ◌∙◌, subst, arith, Ordering, Less, Equal, Greater}
use Rattle.std.specs.Prelude.{replicate}
use Rattle.std.specs.Ordering.{MatchOrdering, nat_cmp, ordering_then}
use Rattle.std.specs.Cmp.Lexicographic.{slice_cmp, nat_list_cmp_total}
use Rattle.std.specs.Cmp.{nat_cmp_is}
use Rattle.std.proofs.lemmas.Cmp.{ranked, tied_itself}
use Rattle.std.proofs.Common.{length-append}
use Rattle.std.proofs.lemmas.List.{length-replicate}
use Rattle.pap_tree.specs.ShortText.{IsShortText}
use Rattle.pap_tree.specs.Padded.{IsPadded, padded}

-- zeros are no greater than as many bytes
zeros_low : (ys : List ℕ) → ordering_then (slice_cmp nat_cmp (replicate (length ys) 0) ys) Less ≡ Less
zeros_low [] = refl
zeros_low (y ∷ ys) = by (nat_cmp 0 y) (ranked 0 y (nat_cmp 0 y) refl) (slice_cmp nat_cmp (replicate (length ys) 0) ys) (zeros_low ys)
  where
    by : (o : Ordering) → MatchOrdering o (0 < y) (0 ≡ y) (y < 0) → (r : Ordering) → ordering_then r Less ≡ Less → ordering_then (ordering_then o r) Less ≡ Less
    by Less m r h = refl
    by Equal m r h = h
    by Greater m r h = absurd (omega (arith, m))

zeros_high : (ys : List ℕ) → ordering_then (slice_cmp nat_cmp ys (replicate (length ys) 0)) Greater ≡ Greater
zeros_high [] = refl
zeros_high (y ∷ ys) = by (nat_cmp y 0) (ranked y 0 (nat_cmp y 0) refl) (slice_cmp nat_cmp ys (replicate (length ys) 0)) (zeros_high ys)
  where
    by : (o : Ordering) → MatchOrdering o (y < 0) (y ≡ 0) (0 < y) → (r : Ordering) → ordering_then r Greater ≡ Greater → ordering_then (ordering_then o r) Greater ≡ Greater
    by Less m r h = absurd (omega (arith, m))
    by Equal m r h = h
    by Greater m r h = refl

next : (a b : ℕ) → nat_cmp (suc a) (suc b) ≡ nat_cmp a b
next a b = sym (nat_cmp_is (suc a) (suc b) (nat_cmp a b) (by (nat_cmp a b) (ranked a b (nat_cmp a b) refl)))
  where
    by : (o : Ordering) → MatchOrdering o (a < b) (a ≡ b) (b < a) → MatchOrdering o (suc a < suc b) (suc a ≡ suc b) (suc b < suc a)
    by Less m = omega (arith, m)
    by Equal m = omega (arith, m)
    by Greater m = omega (arith, m)

-- bytes with zeros behind them are in the order of the bytes, and at a tie the shorter one is the less
padded_order : (us vs : List ℕ) (i j : ℕ) → length us + i ≡ length vs + j →
    ordering_then (slice_cmp nat_cmp (us ++ replicate i 0) (vs ++ replicate j 0)) (nat_cmp (length us) (length vs)) ≡ slice_cmp nat_cmp us vs
padded_order [] [] i j e =
    let same : i ≡ j = omega (arith, e) in
    ap (λ k. ordering_then (slice_cmp nat_cmp (replicate i 0) (replicate k 0)) Equal) (sym same) ∙ ap (λ r. ordering_then r Equal) (tied_itself nat_list_cmp_total (replicate i 0))
padded_order [] (v ∷ vs) i j e =
    let ys : List ℕ = v ∷ (vs ++ replicate j 0) in
    let long : length ys ≡ i = omega (arith, e, length-append vs (replicate j 0), length-replicate {A = ℕ} j 0) in
    let less : Less ≡ nat_cmp 0 (length (v ∷ vs)) = nat_cmp_is 0 (length (v ∷ vs)) Less (omega arith) in
    subst (λ o. ordering_then (slice_cmp nat_cmp (replicate i 0) ys) o ≡ Less) less (subst (λ k. ordering_then (slice_cmp nat_cmp (replicate k 0) ys) Less ≡ Less) long (zeros_low ys))
padded_order (u ∷ us) [] i j e =
    let xs : List ℕ = u ∷ (us ++ replicate i 0) in
    let long : length xs ≡ j = omega (arith, e, length-append us (replicate i 0), length-replicate {A = ℕ} i 0) in
    let more : Greater ≡ nat_cmp (length (u ∷ us)) 0 = nat_cmp_is (length (u ∷ us)) 0 Greater (omega arith) in
    subst (λ o. ordering_then (slice_cmp nat_cmp xs (replicate j 0)) o ≡ Greater) more (subst (λ k. ordering_then (slice_cmp nat_cmp xs (replicate k 0)) Greater ≡ Greater) long (zeros_high xs))
padded_order (u ∷ us) (v ∷ vs) i j e =
    by (nat_cmp u v) (slice_cmp nat_cmp (us ++ replicate i 0) (vs ++ replicate j 0)) (padded_order us vs i j (omega (arith, e)))
  where
    by : (o r : Ordering) → ordering_then r (nat_cmp (length us) (length vs)) ≡ slice_cmp nat_cmp us vs →
        ordering_then (ordering_then o r) (nat_cmp (suc (length us)) (suc (length vs))) ≡ ordering_then o (slice_cmp nat_cmp us vs)
    by Less r h = refl
    by Greater r h = refl
    by Equal r h = ap (ordering_then r) (next (length us) (length vs)) ∙ h

by_parts : (us vs xs ys : List ℕ) (a b : ℕ) → length us ≤ 32 → length vs ≤ 32 → length us ≡ a → length vs ≡ b → padded us ≡ xs → padded vs ≡ ys →
    ordering_then (slice_cmp nat_cmp xs ys) (nat_cmp a b) ≡ slice_cmp nat_cmp us vs
by_parts us vs xs ys a b h k la lb px py = rw (← la, ← lb, ← px, ← py) (padded_order us vs (32 - length us) (32 - length vs) (omega arith))

pub ordered : (xs ys : List ℕ) (a b : ℕ) → IsPadded xs a × IsShortText (take a xs) → IsPadded ys b × IsShortText (take b ys) →
    ordering_then (slice_cmp nat_cmp xs ys) (nat_cmp a b) ≡ slice_cmp nat_cmp (take a xs) (take b ys)
ordered xs ys a b p q = by_parts (take a xs) (take b ys) xs ys a b p.1.short q.1.short p.0.exact q.0.exact p.0.full q.0.full
