-- Keys that tie are one key: texts, and orders one after the other. A list that is sorted by texts that differ rises, and
-- what stands under a text stays so.
use Rattle.std.proofs.Common.{◌≡◌, inl, inr, ℕ, suc, List, [], ◌∷◌, map, true, false, if◌then◌else◌, Option, Some, None, refl, sym, ap, ◌∙◌, arith, add-one}
use Rattle.std.specs.Bool.{one_answer}
use Rattle.std.specs.List.{IsDistinct}
use Rattle.std.specs.List.Sorted.{IsPermutation, IsSortedByKey}
use Rattle.std.specs.Str.{bytes_eq}
use Rattle.std.specs.declared.cmp.Ordering.{Ordering}
use Rattle.std.specs.declared.cmp.Ordering.TheVariants.{Less, Equal, Greater}
use Rattle.std.specs.Ordering.{is_eq, is_lt, nat_cmp, ordering_reverse, ordering_then}
use Rattle.std.specs.Cmp.Lexicographic.{nat_list_cmp_total, slice_cmp}
use Rattle.std.proofs.lemmas.Bool.{false≢true}
use Rattle.std.proofs.lemmas.List.Sorted.{Contains-permutation, IsPermutation-map, IsPermutation-sym}
use Rattle.std.proofs.lemmas.Map.Keys.{IsDistinct-IsPermutation, IsDistinct-head, IsDistinct-tail}
use Rattle.std.proofs.lemmas.Map.Text.{is_eq-slice_cmp}
use Rattle.std.proofs.lemmas.Slice.Eq.{bytes_eq-Decides}
use Rattle.rising_lists.specs.Keyed.{at_key, IsRising}
use Rattle.rising_lists.proofs.KeyLemmas.{above_more}
use Rattle.rising_lists.proofs.ElementLemmas.{In, contains_of_in, found_in, in_found, in_of_contains}

-- ---- ties

pub first_tie : (o p : Ordering) → ordering_then o p ≡ Equal → o ≡ Equal
first_tie Less p e = cc e
first_tie Equal p e = refl
first_tie Greater p e = cc e

pub second_tie : (o p : Ordering) → ordering_then o p ≡ Equal → p ≡ Equal
second_tie Less p e = cc e
second_tie Equal p e = e
second_tie Greater p e = cc e

abbrev text_cmp : List ℕ → List ℕ → Ordering
text_cmp = slice_cmp nat_cmp

pub text_same : (a b : List ℕ) → text_cmp a b ≡ Equal → a ≡ b
text_same a b e = (bytes_eq-Decides a b).0 (sym (is_eq-slice_cmp a b) ∙ ap is_eq e)

-- ---- texts that differ and are sorted rise

differs : (a b : List ℕ) → bytes_eq a b ≡ false → text_cmp a b ≡ Equal → ⊥
differs a b d e = false≢true (sym d ∙ sym (is_eq-slice_cmp a b) ∙ ap is_eq e)

less_of : (a b : List ℕ) → is_lt (text_cmp b a) ≡ false → bytes_eq a b ≡ false → text_cmp a b ≡ Less
less_of a b s d = by (text_cmp a b) refl
  where
    by : (o : Ordering) → text_cmp a b ≡ o → text_cmp a b ≡ Less
    by Less e = e
    by Equal e = absurd (differs a b d e)
    by Greater e = absurd (false≢true (sym s ∙ ap is_lt (nat_list_cmp_total.antisymm b a ∙ ap ordering_reverse e)))

eq_flips : (a b : List ℕ) → bytes_eq a b ≡ bytes_eq b a
eq_flips a b = one_answer (bytes_eq a b) (bytes_eq b a) (bytes_eq-Decides a b)
    (λ e. sym ((bytes_eq-Decides b a).0 e), λ e. (bytes_eq-Decides b a).1 (sym e))

module _ {X : Type 0} (text : X → List ℕ) where
  abbrev at : List X → List ℕ → Option X
  at xs t = at_key text_cmp text xs t

  sorted_tail : (x : X) (xs : List X) → IsSortedByKey text text_cmp (x ∷ xs) → IsSortedByKey text text_cmp xs
  sorted_tail x xs s k e low l = rw add-one (let more = s (suc k) e (omega arith) (omega arith) in rw add-one at more)

  rising_of_sorted : (xs : List X) → IsSortedByKey text text_cmp xs → IsDistinct bytes_eq (map text xs) → IsRising text_cmp text xs
  rising_of_sorted [] s d = tt
  rising_of_sorted (x ∷ []) s d = (tt, tt)
  rising_of_sorted (x ∷ y ∷ ys) s d =
      let more = rising_of_sorted (y ∷ ys) (sorted_tail x (y ∷ ys) s) (IsDistinct-tail bytes_eq (text x) (map text (y ∷ ys)) d) in
      let head = IsDistinct-head bytes_eq (text x) (map text (y ∷ ys)) d in
      let less = less_of (text x) (text y) (s 0 x (omega arith) (omega arith)) head.0 in
      ((less, above_more text_cmp nat_list_cmp_total text (text x) (text y) ys less more.0), more)

  apart_from : (x d : X) → is_eq (text_cmp (text x) (text d)) ≡ false → x ≡ d → ⊥
  apart_from x d t s = false≢true (sym t ∙ is_eq-slice_cmp (text x) (text d) ∙ (bytes_eq-Decides (text x) (text d)).1 (ap text s))

  in_some : (xs : List X) (d : X) → In xs d → at xs (text d) ≡ None → ⊥
  in_some [] d m e = m
  in_some (x ∷ xs) d (inl s) e = (elim (is_eq (text_cmp (text x) (text d))) as (λ b. is_eq (text_cmp (text x) (text d)) ≡ b → (if b then Some x else at xs (text d)) ≡ None → ⊥) [
    | true ↦ λ t f. cc f
    | false ↦ λ t f. apart_from x d t s
  ]) refl e
  in_some (x ∷ xs) d (inr m) e = (elim (is_eq (text_cmp (text x) (text d))) as (λ b. (if b then Some x else at xs (text d)) ≡ None → ⊥) [
    | true ↦ λ f. cc f
    | false ↦ λ f. in_some xs d m f
  ]) e

  permuted : (xs ys : List X) (d : X) → IsPermutation xs ys → In xs d → In ys d
  permuted xs ys d p m = in_of_contains ys d (Contains-permutation xs ys d p (contains_of_in xs d m))

  -- what stands under a text stays so when the list is sorted
  sorted_at : (xs ys : List X) → IsPermutation xs ys → IsRising text_cmp text ys → (t : List ℕ) → at ys t ≡ at xs t
  sorted_at xs ys p h t = by (at xs t) refl (at ys t) refl
    where
      by : (a : Option X) → at xs t ≡ a → (b : Option X) → at ys t ≡ b → at ys t ≡ at xs t
      by (Some d) e b f =
          let found = found_in text_cmp text xs t d e in
          let same = text_same (text d) t found.1 in
          ap (λ u. at ys u) (sym same) ∙ in_found text_cmp nat_list_cmp_total text ys d h (permuted xs ys d p found.0) ∙ sym e
      by None e None f = f ∙ sym e
      by None e (Some d) f =
          let found = found_in text_cmp text ys t d f in
          let same = text_same (text d) t found.1 in
          absurd (in_some xs d (permuted ys xs d (IsPermutation-sym xs ys p) found.0) (ap (λ u. at xs u) same ∙ e))

  -- a list whose texts differ, sorted by them
  pub sorted_by_text : (xs ys : List X) → IsDistinct bytes_eq (map text xs) → IsPermutation xs ys → IsSortedByKey text text_cmp ys →
      IsRising text_cmp text ys × ((t : List ℕ) → at ys t ≡ at xs t)
  sorted_by_text xs ys apart p s =
      let still = IsDistinct-IsPermutation bytes_eq eq_flips (map text xs) (map text ys) (IsPermutation-map text xs ys p) apart in
      let rising = rising_of_sorted ys s still in
      (rising, sorted_at xs ys p rising)
