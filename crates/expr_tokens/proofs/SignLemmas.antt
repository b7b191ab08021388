-- The operator or sign that stands first.
use Rattle.std.proofs.Common.{◌≡◌, ℕ, ◌≤◌, true, false, List, [], ◌∷◌, ◌++◌, length, refl, sym, ap, subst, ◌∙◌, arith}
use Rattle.std.specs.List.{list_all}
use Rattle.std.proofs.lemmas.Bool.Decides.{nat_tests}
use Rattle.pap_tree.specs.White.{is_white}
use Rattle.pap_tree.specs.Words.{operator_text}
use Rattle.pap_tree.specs.declared.expression.Binary.{Binary}
use Rattle.pap_tree.specs.Tokens.{Token, Literal, Quoted, Beyond, Word, Operator, Mark, Alien, IsToken}
use Rattle.expr_tokens.specs.private.Views.{Begins, is_sign_byte, IsNoPair, IsSingle}
use Rattle.expr_tokens.proofs.ClassLemmas.{class, Spelling, one, two, only_sign, is_single}
use Rattle.expr_tokens.proofs.LongestLemmas.{begins, less_left}

heads : (a b : ℕ) (xs ys : List ℕ) → a ∷ xs ≡ b ∷ ys → a ≡ b
heads a b xs ys e = cc

tails : (a b : ℕ) (xs ys : List ℕ) → a ∷ xs ≡ b ∷ ys → xs ≡ ys
tails a b xs ys e = cc

short : (u : List ℕ) → Spelling u → length u ≤ 2
short u (one b e h k) = omega (arith, ap length e)
short u (two a b o e h k) = omega (arith, ap length e)

pub pair_begins : (a b : ℕ) (rest : List ℕ) (o : Binary) → is_sign_byte a ≡ true → operator_text o ≡ a ∷ b ∷ [] → Begins (a ∷ b ∷ rest) (Operator o) rest
pair_begins a b rest o s e =
    begins (a ∷ b ∷ rest) (a ∷ b ∷ []) rest (Operator o) refl (sym e) (λ u left t f k.
    less_left (a ∷ b ∷ rest) (a ∷ b ∷ []) rest u left refl f (short u (only_sign (a ∷ b ∷ rest) u left s f (class u t k))))

-- a token that begins so is the byte
single : (a : ℕ) (bytes u left : List ℕ) → ((b : ℕ) (rest : List ℕ) → bytes ≡ b ∷ rest → IsNoPair a b) → a ∷ bytes ≡ u ++ left → Spelling u → u ≡ a ∷ []
single a bytes u left none e (one b f h k) = f ∙ ap (λ c. c ∷ []) (sym (heads a b bytes left (e ∙ ap (λ x. x ++ left) f)))
single a bytes u left none e (two b c o f h k) =
    let whole : a ∷ bytes ≡ b ∷ c ∷ left = e ∙ ap (λ x. x ++ left) f in
    absurd (none c left (tails a b bytes (c ∷ left) whole) o (k ∙ ap (λ x. x ∷ c ∷ []) (sym (heads a b bytes (c ∷ left) whole))))

no_white : (b : ℕ) → is_sign_byte b ≡ true → list_all is_white (b ∷ []) ≡ false
no_white b h = grind (arith, nat_tests)

pub a_token : (a : ℕ) (bytes : List ℕ) (t : Token) → is_sign_byte a ≡ true → ((b : ℕ) (rest : List ℕ) → bytes ≡ b ∷ rest → IsNoPair a b) → IsToken (a ∷ []) t → Begins (a ∷ bytes) t bytes
a_token a bytes t s none h =
    begins (a ∷ bytes) (a ∷ []) bytes t refl h (λ u left t f k.
    let same = single a bytes u left none f (only_sign (a ∷ bytes) u left s f (class u t k)) in
    less_left (a ∷ bytes) (a ∷ []) bytes u left refl f (omega (arith, ap length same)))

pub single_begins : (a : ℕ) (bytes : List ℕ) (t : Token) → is_sign_byte a ≡ true → ((b : ℕ) (rest : List ℕ) → bytes ≡ b ∷ rest → IsNoPair a b) → IsSingle a t → Begins (a ∷ bytes) t bytes
single_begins a bytes (Literal n) s none h = a_token a bytes (Literal n) s none h
single_begins a bytes (Quoted d) s none h = a_token a bytes (Quoted d) s none h
single_begins a bytes Beyond s none h = a_token a bytes Beyond s none h
single_begins a bytes (Word w) s none h = a_token a bytes (Word w) s none h
single_begins a bytes (Operator o) s none h = a_token a bytes (Operator o) s none h
single_begins a bytes (Mark m) s none h = a_token a bytes (Mark m) s none h
single_begins a bytes Alien s none h = record {
  text = a ∷ [];
  parts = refl;
  first = (
    refl,
    no_white a s,
    λ u left t f k.
        let same = single a bytes u left none f (only_sign (a ∷ bytes) u left s f (class u t k)) in
        h t (subst (λ x. IsToken x t) same k),
  );
}

-- a byte alone that is no operator or sign spells no token
not_spelled : (b : ℕ) → is_single b ≡ false → Spelling (b ∷ []) → ⊥
not_spelled b none (one c e h k) =
    let same = heads b c [] [] e in
    differ c k (ap is_single (sym same) ∙ none)
  where
    differ : (c : ℕ) → is_single c ≡ true → is_single c ≡ false → ⊥
    differ c h k = absurd cc
not_spelled b none (two c d o e h k) = absurd (omega (arith, ap length e))

pub no_single : (b : ℕ) → is_sign_byte b ≡ true → is_single b ≡ false → (t : Token) → IsToken (b ∷ []) t → ⊥
no_single b s none t h = not_spelled b none (only_sign (b ∷ []) (b ∷ []) [] s refl (class (b ∷ []) t h))

-- the second byte makes no operator with the first
pub no_pair : (a b : ℕ) (bytes rest : List ℕ) → bytes ≡ b ∷ rest → IsNoPair a b → (c : ℕ) (left : List ℕ) → bytes ≡ c ∷ left → IsNoPair a c
no_pair a b bytes rest e none c left f = subst (IsNoPair a) (heads b c rest left (sym e ∙ f)) none
