-- A fold over elements that may change places gives the same for each order of them.
use Rattle.std.proofs.Common.{◌≡◌, ℕ, zero, suc, ◌<◌, List, [], ◌∷◌, length, get_or, set, refl, ap, subst, ◌∙◌, arith}
use Rattle.std.specs.List.{AllByRecursion, swap}
use Rattle.std.specs.List.Sorted.{IsPermutation}
use Rattle.std.proofs.lemmas.List.Edits.{swap_is}
use Rattle.std.proofs.lemmas.List.Elements.{All-from_recursion}
use Rattle.std.proofs.lemmas.List.Sorted.{IsPermutation-keeps}

-- f for each element in turn
abbrev pub folded : {X B : Type 0} → (X → B → B) → List X → B → B
folded f [] b = b
folded f (x ∷ xs) b = folded f xs (f x b)

-- each two of the elements are apart
abbrev pub AreApart : {X : Type 0} → (X → X → Type 0) → List X → Type 0
AreApart apart [] = Unit {0}
AreApart apart (x ∷ xs) = AllByRecursion (apart x) xs × AreApart apart xs

all_set : {X : Type 0} (P : X → Type 0) (xs : List X) (i : ℕ) (y : X) → AllByRecursion P xs → P y → AllByRecursion P (set xs i y)
all_set P [] i y all p = tt
all_set P (x ∷ xs) zero y all p = (p, all.1)
all_set P (x ∷ xs) (suc i) y all p = (all.0, all_set P xs i y all.1 p)

module _ {X : Type 0} (apart : X → X → Type 0) (back : (x y : X) → apart x y → apart y x) where
  -- one element in the place of another
  exchanged : (xs : List X) (i : ℕ) (y d : X) → i < length xs → AllByRecursion (apart y) xs → AreApart apart xs → AllByRecursion (apart (get_or xs i d)) (set xs i y) × AreApart apart (set xs i y)
  exchanged [] i y d lt all h = absurd (omega arith)
  exchanged (x ∷ xs) zero y d lt all h = ((back y x all.0, h.0), (all.1, h.1))
  exchanged (x ∷ xs) (suc i) y d lt all h =
      let z = get_or xs i d in
      let more = exchanged xs i y d (omega arith) all.1 h.1 in
      let here : apart x z = All-from_recursion (apart x) xs h.0 i d (omega arith) in
      ((back x z here, more.0), (all_set (apart x) xs i y h.0 (back y x all.0), more.1))

  apart_swap : (xs : List X) (i j : ℕ) (d : X) → i < length xs → j < length xs → AreApart apart xs → AreApart apart (set (set xs i (get_or xs j d)) j (get_or xs i d))
  apart_swap [] i j d l m h = absurd (omega arith)
  apart_swap (x ∷ xs) zero zero d l m h = h
  apart_swap (x ∷ xs) zero (suc j) d l m h = exchanged xs j x d (omega arith) h.0 h.1
  apart_swap (x ∷ xs) (suc i) zero d l m h = exchanged xs i x d (omega arith) h.0 h.1
  apart_swap (x ∷ xs) (suc i) (suc j) d l m h =
      let p = All-from_recursion (apart x) xs h.0 j d (omega arith) in
      let q = All-from_recursion (apart x) xs h.0 i d (omega arith) in
      (all_set (apart x) (set xs i (get_or xs j d)) j (get_or xs i d) (all_set (apart x) xs i (get_or xs j d) h.0 p) q, apart_swap xs i j d (omega arith) (omega arith) h.1)

  module _ {B : Type 0} (f : X → B → B) (comm : (x y : X) (b : B) → apart x y → f x (f y b) ≡ f y (f x b)) where
    folded_exchanged : (xs : List X) (i : ℕ) (y d : X) (b : B) → i < length xs → AllByRecursion (apart y) xs → AreApart apart xs → folded f (set xs i y) (f (get_or xs i d) b) ≡ folded f xs (f y b)
    folded_exchanged [] i y d b lt all h = absurd (omega arith)
    folded_exchanged (x ∷ xs) zero y d b lt all h = ap (folded f xs) (comm y x b all.0)
    folded_exchanged (x ∷ xs) (suc i) y d b lt all h =
        let z = get_or xs i d in
        let here : apart x z = All-from_recursion (apart x) xs h.0 i d (omega arith) in
        ap (folded f (set xs i y)) (comm x z b here) ∙ folded_exchanged xs i y d (f x b) (omega arith) all.1 h.1 ∙ ap (folded f xs) (comm y x b all.0)

    folded_swap : (xs : List X) (i j : ℕ) (d : X) (b : B) → i < length xs → j < length xs → AreApart apart xs → folded f (set (set xs i (get_or xs j d)) j (get_or xs i d)) b ≡ folded f xs b
    folded_swap [] i j d b l m h = absurd (omega arith)
    folded_swap (x ∷ xs) zero zero d b l m h = refl
    folded_swap (x ∷ xs) zero (suc j) d b l m h = folded_exchanged xs j x d b (omega arith) h.0 h.1
    folded_swap (x ∷ xs) (suc i) zero d b l m h = folded_exchanged xs i x d b (omega arith) h.0 h.1
    folded_swap (x ∷ xs) (suc i) (suc j) d b l m h = folded_swap xs i j d (f x b) (omega arith) (omega arith) h.1

    record IsReordered (b : B) (xs ys : List X) : Type 0 where
      pub apart_still : AreApart apart ys
      pub same : folded f ys b ≡ folded f xs b

    swap_more : (b : B) (xs ys : List X) (i j : ℕ) → i < length ys → j < length ys → IsReordered b xs ys → IsReordered b xs (swap ys i j)
    swap_more b xs [] i j l m h = absurd (omega arith)
    swap_more b xs (y ∷ ys) i j l m h =
        subst (IsReordered b xs) (swap_is (y ∷ ys) i j y l m)
        (record { apart_still = apart_swap (y ∷ ys) i j y l m h.apart_still; same = folded_swap (y ∷ ys) i j y b l m h.apart_still ∙ h.same })

    pub folded_permutation : (b : B) (xs ys : List X) → AreApart apart xs → IsPermutation xs ys → folded f ys b ≡ folded f xs b
    folded_permutation b xs ys h p =
        (IsPermutation-keeps xs (IsReordered b xs) (record { apart_still = h; same = refl }) (λ l i j a c q. swap_more b xs l i j a c q) ys p).same
