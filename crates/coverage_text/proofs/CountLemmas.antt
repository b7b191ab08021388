-- Counts of items, and shares of them.
use Rattle.std.proofs.Common.{◌≡◌, ℕ, ◌+◌, ◌*◌, ◌<◌, ◌≤◌, ◌/◌, Bool, true, false, List, [], ◌∷◌, ◌++◌, length, take, get_or, cond, sym, ap, subst, ◌∙◌, arith}
use Rattle.std.specs.Prelude.{◌&&◌, count_by}
use Rattle.std.specs.List.{flat_map}
use Rattle.std.proofs.Math.Nat.{div-le_of_le-mul}
use Rattle.std.proofs.lemmas.List.{flat_map_more, take_more}
use Rattle.std.proofs.lemmas.List.Sums.{sum_by-le-sum_by}

both_or_less : (a b : Bool) → cond (a && b) 1 0 ≤ cond a 1 0
both_or_less true true = omega arith
both_or_less true false = omega arith
both_or_less false b = omega arith

-- those that pass two tests are among those that pass the first
pub few_of : {X : Type 0} (p q : X → Bool) (xs : List X) → count_by (λ x. p x && q x) xs ≤ count_by p xs
few_of p q xs = sum_by-le-sum_by (λ x. cond (p x && q x) 1 0) (λ x. cond (p x) 1 0) xs (λ x. both_or_less (p x) (q x))

pub few_covered : {X : Type 0} (p q : X → Bool) (xs : List X) (a b : ℕ) → a ≡ count_by (λ x. p x && q x) xs → b ≡ count_by p xs → a ≤ b
few_covered p q xs a b ea eb =
    subst (λ n. n ≤ b) (sym ea) (subst (λ n. count_by (λ x. p x && q x) xs ≤ n) (sym eb) (few_of p q xs))

-- 100 percent are the most
pub few_percent : (part whole : ℕ) → part ≤ whole → 100 * part / whole ≤ 100
few_percent part whole le = div-le_of_le-mul whole (omega (arith, le))

-- one more text behind those so far
pub one_more : {X : Type 0} (of : X → List ℕ) (xs : List X) (i : ℕ) (x : X) (before now next : List ℕ) → x ≡ get_or xs i x
    → i < length xs → now ≡ before ++ flat_map of (take i xs) → next ≡ now ++ of x
    → next ≡ before ++ flat_map of (take (i + 1) xs)
one_more of xs i x before now next is lt so_far added =
    added ∙ ap (λ l. l ++ of x) so_far ∙ flat_map_more of before (take i xs) x
    ∙ ap (λ y. before ++ flat_map of (take i xs ++ y ∷ [])) is
    ∙ ap (λ l. before ++ flat_map of l) (sym (take_more xs i x lt))
