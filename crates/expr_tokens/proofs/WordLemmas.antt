-- The word that stands first.
use Rattle.std.proofs.Common.{◌≡◌, ℕ, ◌+◌, ◌-◌, ◌≤◌, true, false, List, [], ◌∷◌, ◌++◌, length, take, drop, refl, sym, ap, subst, ◌∙◌, length-append, arith}
use Rattle.std.specs.List.{list_all, prefix_len}
use Rattle.std.proofs.lemmas.Bool.Decides.{nat_tests}
use Rattle.std.proofs.lemmas.List.{take-append-drop, take-append-le, length-take}
use Rattle.std.proofs.lemmas.List.Sums.{prefix_len-le-length}
use Rattle.std.proofs.Math.Seq.{take-append-add}
use Rattle.pap_tree.specs.Names.{is_letter, is_word}
use Rattle.pap_tree.specs.Tokens.{Word, is_word_text}
use Rattle.expr_tokens.specs.private.Views.{Begins, First, Stops, IsLongest}
use Rattle.expr_tokens.proofs.FrontLemmas.{longest_at, within}
use Rattle.expr_tokens.proofs.ClassLemmas.{class, only_word}
use Rattle.expr_tokens.proofs.LongestLemmas.{begins, less_left}

letter_is_word : (b : ℕ) → is_letter b ≡ true → is_word b ≡ true
letter_is_word b h = grind (arith, nat_tests)

both : (b : ℕ) → is_word b ≡ true → is_word b ≡ false → ⊥
both b h k = absurd cc

letter_first : (bytes front r : List ℕ) → First is_letter bytes → take 32 bytes ≡ front ++ r → Stops is_word r → First is_letter front
letter_first [] front r f e s = absurd f
letter_first (b ∷ bytes) [] [] f e s = absurd cc
letter_first (b ∷ bytes) [] (c ∷ r) f e s = let same : b ≡ c = cc in absurd (both c (letter_is_word c (ap is_letter (sym same) ∙ f)) s)
letter_first (b ∷ bytes) (c ∷ front) r f e s = let same : b ≡ c = cc in ap is_letter (sym same) ∙ f

word_text : (front : List ℕ) → First is_letter front → list_all is_word front ≡ true → length front ≤ 32 → is_word_text front ≡ true
word_text [] f h l = absurd f
word_text (b ∷ bs) f h l = grind (arith, nat_tests)

word_bytes : (u : List ℕ) → is_word_text u ≡ true → (list_all is_word u ≡ true) × (length u ≤ 32)
word_bytes [] h = absurd cc
word_bytes (b ∷ bs) h = (grind (arith, nat_tests, letter_is_word), grind (arith, nat_tests))

longest_word : (bytes front r u left : List ℕ) → IsLongest is_word (take 32 bytes) front r → bytes ≡ u ++ left → is_word_text u ≡ true → length u ≤ length front
longest_word bytes front r u left h e k =
    let w = word_bytes u k in
    let few = w.1 in
    let n = 32 - length u in
    let all : length u + n ≡ 32 = omega arith in
    let taken : take 32 bytes ≡ u ++ take n left = ap (take 32) e ∙ ap (λ m. take m (u ++ left)) (sym all) ∙ take-append-add u left n in
    let m = within is_word front r u (take n left) h.stops w.0 (sym h.parts ∙ taken) in
    let len : length front ≡ length u + length m.0 = ap length m.1 ∙ length-append u m.0 in
    omega arith

-- The bytes of a word that stand first, at most 32, and the rest.
pub word_begins : (bytes word rest : List ℕ) (n : ℕ) → First is_letter bytes → n ≡ prefix_len is_word (take 32 bytes) → word ≡ take n bytes → rest ≡ drop n bytes → (is_word_text word ≡ true) × Begins bytes (Word word) rest
word_begins bytes word rest n f k e g =
    let few = take 32 bytes in
    let front = take (prefix_len is_word few) few in
    let r = drop (prefix_len is_word few) few in
    let h : IsLongest is_word few front r = longest_at is_word few in
    let le : n ≤ length few = omega (arith, prefix_len-le-length is_word few) in
    let parts : bytes ≡ word ++ rest = sym (ap (λ x. x ++ rest) e ∙ ap (λ x. take n bytes ++ x) g ∙ take-append-drop n bytes) in
    let cut : take n bytes ≡ take n few = ap (take n) (sym (take-append-drop 32 bytes)) ∙ take-append-le n few (drop 32 bytes) le in
    let same : word ≡ front = e ∙ cut ∙ ap (λ m. take m few) k in
    let short : length front ≤ 32 = omega (arith, length-take (prefix_len is_word few) few, length-take 32 bytes) in
    let text : is_word_text word ≡ true = ap is_word_text same ∙ word_text front (letter_first bytes front r f h.parts h.stops) h.passes short in (
      text,
      begins bytes word rest (Word word) parts (text, refl) (λ u left t p q.
          let le' = longest_word bytes front r u left h p (only_word bytes u left f p (class u t q)) in
          less_left bytes word rest u left parts p (subst (λ w. length u ≤ length w) (sym same) le')),
    )
