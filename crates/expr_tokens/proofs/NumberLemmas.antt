-- The number that stands first.
use Rattle.std.proofs.Common.{◌≡◌, ℕ, ◌+◌, ◌-◌, ◌<◌, ◌≤◌, ◌⊎◌, inl, inr, true, false, List, [], ◌∷◌, ◌++◌, length, take, pos, refl, sym, ap, subst, ◌∙◌, append_assoc, length-append, arith}
use Rattle.std.specs.Prelude.{codes}
use Rattle.std.specs.List.{list_all}
use Rattle.std.specs.Char.{is_ascii_digit}
use Rattle.std.specs.Str.Parse.{AllDigits, digits_value}
use Rattle.std.proofs.lemmas.Bool.{and_parts}
use Rattle.std.proofs.lemmas.List.{append_cancel_right}
use Rattle.std.proofs.Math.Seq.{take-append_seam}
use Rattle.scaled_decimal.specs.Decimals.{Decimal, decimal}
use Rattle.pap_tree.specs.Tokens.{Token, IsToken, IsNumeral, IsPoint}
use Rattle.expr_tokens.specs.private.Views.{Begins, First, Stops, IsLongest, NotFirst, IsNumeralSplit, IsAfterPlaces, NoPlaces}
use Rattle.expr_tokens.proofs.FrontLemmas.{within}
use Rattle.expr_tokens.proofs.ClassLemmas.{all_digits, digits_all, IsNumberText, whole, whole_long, with_places, class, only_number}
use Rattle.expr_tokens.proofs.LongestLemmas.{begins}

-- one of two fronts of a list goes on with the other
pub either : (a b x y : List ℕ) → a ++ x ≡ b ++ y → ((d : List ℕ) × (b ≡ a ++ d) × (x ≡ d ++ y)) ⊎ ((d : List ℕ) × (a ≡ b ++ d) × (y ≡ d ++ x))
either [] b x y e = inl (b, refl, e)
either (u ∷ a) [] x y e = inr (u ∷ a, refl, sym e)
either (u ∷ a) (v ∷ b) x y e =
    let same : u ≡ v = cc in
    let tails : a ++ x ≡ b ++ y = cc in
    elim (either a b x y tails) [
      | inl k ↦ inl (k.0, ap (λ z. z ∷ b) (sym same) ∙ ap (λ z. u ∷ z) k.1, k.2)
      | inr k ↦ inr (k.0, ap (λ z. z ∷ a) same ∙ ap (λ z. v ∷ z) k.1, k.2)
    ]

-- a byte among digits is one
pub digit_among : (ds : List ℕ) (c : ℕ) (more : List ℕ) → AllDigits 10 (ds ++ (c ∷ more)) → is_ascii_digit c ≡ true
digit_among [] c more h = (and_parts (is_ascii_digit c) (list_all is_ascii_digit more) (all_digits (c ∷ more) h)).0
digit_among (d ∷ ds) c more h = digit_among ds c more h.1

pub differ : (c : ℕ) → is_ascii_digit c ≡ true → is_ascii_digit c ≡ false → ⊥
differ c h k = absurd cc

-- a numeral before a byte that is no digit is the longest one
same_numeral : (bytes front rest digits : List ℕ) (c : ℕ) (z : List ℕ) (n : ℕ) → IsNumeralSplit bytes front rest → bytes ≡ digits ++ (c ∷ z) → IsNumeral digits n → is_ascii_digit c ≡ false → rest ≡ c ∷ z
same_numeral bytes front rest digits c z n s e h none = elim (either front digits rest (c ∷ z) (sym s.parts ∙ e)) [
  | inl k ↦
      let nothing : k.0 ≡ [] = s.most k.0 (c ∷ z) n k.2 (subst (λ x. IsNumeral x n) k.1 h) in
      k.2 ∙ ap (λ d. d ++ (c ∷ z)) nothing
  | inr k ↦ after k.0 k.1 k.2
]
  where
    after : (d : List ℕ) → front ≡ digits ++ d → c ∷ z ≡ d ++ rest → rest ≡ c ∷ z
    after [] f g = sym g
    after (x ∷ d) f g =
        let same : c ≡ x = cc in
        let digit = digit_among digits x d (subst (AllDigits 10) f s.numeral.digits) in
        absurd (differ c (ap is_ascii_digit same ∙ digit) none)

-- how a number's text goes on after the longest numeral
data Reaches (after left : List ℕ) : Type 0 where
  no_more : length after ≤ length left → Reaches after left
  a_long : after ≡ 76 ∷ left → Reaches after left
  a_point : (places : List ℕ) → after ≡ 46 ∷ (places ++ left) → list_all is_ascii_digit places ≡ true → 0 < length places → Reaches after left

reaches : (bytes front after u left : List ℕ) → IsNumeralSplit bytes front after → bytes ≡ u ++ left → IsNumberText u → Reaches after left
reaches bytes front after u left s e (whole n h) = elim (either front u after left (sym s.parts ∙ e)) [
  | inl k ↦
      let nothing : k.0 ≡ [] = s.most k.0 left n k.2 (subst (λ x. IsNumeral x n) k.1 h) in
      let same : after ≡ left = k.2 ∙ ap (λ d. d ++ left) nothing in
      no_more (omega (arith, ap length same))
  | inr k ↦ no_more (omega (arith, ap length k.2, length-append k.0 after))
]
reaches bytes front after u left s e (whole_long n h) =
    a_long (same_numeral bytes front after h.0 76 left n s (e ∙ ap (λ x. x ++ left) h.1 ∙ append_assoc h.0 (codes "L") left) h.2 refl)
reaches bytes front after u left s e (with_places d h) =
    a_point h.places
    (same_numeral bytes front after h.front 46 (h.places ++ left) h.whole s
    (e ∙ ap (λ x. x ++ left) h.parts ∙ append_assoc h.front (codes "." ++ h.places) left) h.numeral refl)
    (all_digits h.places h.digits) h.some

-- ---- the three forms are the longest

digits_stop : (places left : List ℕ) → 0 < length places → list_all is_ascii_digit places ≡ true → Stops is_ascii_digit (places ++ left) → ⊥
digits_stop [] left some h s = absurd (omega arith)
digits_stop (b ∷ bs) left some h s = differ b (and_parts (is_ascii_digit b) (list_all is_ascii_digit bs) h).0 s

pub heads : (a b : ℕ) (xs ys : List ℕ) → a ∷ xs ≡ b ∷ ys → a ≡ b
heads a b xs ys e = cc

pub tails : (a b : ℕ) (xs ys : List ℕ) → a ∷ xs ≡ b ∷ ys → xs ≡ ys
tails a b xs ys e = cc

-- L is no point
pub no_point : (xs ys : List ℕ) → 76 ∷ xs ≡ 46 ∷ ys → ⊥
no_point xs ys e = let same = heads 76 46 xs ys e in omega arith

int_longest : (after left : List ℕ) → NotFirst 76 after → NoPlaces after → Reaches after left → length after ≤ length left
int_longest after left l p (no_more le) = le
int_longest after left l p (a_long e) = absurd (l left e)
int_longest after left l p (a_point places e h some) = absurd (digits_stop places left some h (p (places ++ left) e))

long_longest : (after rest left : List ℕ) → after ≡ 76 ∷ rest → Reaches after left → length rest ≤ length left
long_longest after rest left e (no_more le) = omega (arith, ap length e)
long_longest after rest left e (a_long f) = let same = tails 76 76 rest left (sym e ∙ f) in omega (arith, ap length same)
long_longest after rest left e (a_point places f h some) = absurd (no_point rest (places ++ left) (sym e ∙ f))

point_longest : (after rest left : List ℕ) → IsAfterPlaces after rest → Reaches after left → length rest ≤ length left
point_longest after rest left s (no_more le) = omega (arith, ap length s.parts, length-append s.places rest)
point_longest after rest left s (a_long f) = absurd (no_point left (s.places ++ rest) (sym f ∙ s.parts))
point_longest after rest left s (a_point places f h some) =
    let same = tails 46 46 (s.places ++ rest) (places ++ left) (sym s.parts ∙ f) in
    let m = within is_ascii_digit s.places rest places left s.digits.stops h same in
    omega (arith, ap length m.2, length-append m.0 rest)

pub int_begins : (bytes numeral after : List ℕ) (t : Token) → First is_ascii_digit bytes → IsNumeralSplit bytes numeral after → NotFirst 76 after → NoPlaces after → IsToken numeral t → Begins bytes t after
int_begins bytes numeral after t f s l p h =
    begins bytes numeral after t s.parts h (λ u left t e k. int_longest after left l p (reaches bytes numeral after u left s e (only_number bytes u left f e (class u t k))))

pub long_begins : (bytes numeral after rest : List ℕ) (t : Token) → First is_ascii_digit bytes → IsNumeralSplit bytes numeral after → after ≡ 76 ∷ rest → IsToken (numeral ++ codes "L") t → Begins bytes t rest
long_begins bytes numeral after rest t f s a h =
    begins bytes (numeral ++ codes "L") rest t (s.parts ∙ ap (λ x. numeral ++ x) a ∙ sym (append_assoc numeral (codes "L") rest)) h
    (λ u left t e k. long_longest after rest left a (reaches bytes numeral after u left s e (only_number bytes u left f e (class u t k))))

pub point_begins : (bytes numeral after text rest : List ℕ) (t : Token) → First is_ascii_digit bytes → IsNumeralSplit bytes numeral after → IsAfterPlaces after rest → bytes ≡ text ++ rest → IsToken text t → Begins bytes t rest
point_begins bytes numeral after text rest t f s a parts h =
    begins bytes text rest t parts h (λ u left t e k. point_longest after rest left a (reaches bytes numeral after u left s e (only_number bytes u left f e (class u t k))))

-- the bytes before the rest
pub point_parts : (bytes numeral after text rest : List ℕ) → IsNumeralSplit bytes numeral after → IsAfterPlaces after rest → text ≡ take (length bytes - length rest) bytes → bytes ≡ text ++ rest
point_parts bytes numeral after text rest s a e =
    let front = numeral ++ (46 ∷ a.places) in
    let whole : bytes ≡ front ++ rest = s.parts ∙ ap (λ x. numeral ++ x) a.parts ∙ sym (append_assoc numeral (46 ∷ a.places) rest) in
    let len : length bytes - length rest ≡ length front = omega (arith, ap length whole, length-append front rest) in
    let same : text ≡ front = e ∙ ap (λ n. take n bytes) len ∙ ap (take (length front)) whole ∙ take-append_seam front rest in
    whole ∙ ap (λ x. x ++ rest) (sym same)

-- the text of a literal with a point
pub point_text : (bytes numeral after text rest : List ℕ) → IsNumeralSplit bytes numeral after → IsAfterPlaces after rest → bytes ≡ text ++ rest → (d : Decimal) × IsPoint text d
point_text bytes numeral after text rest s a parts =
    let whole : text ++ rest ≡ (numeral ++ (46 ∷ a.places)) ++ rest =
    sym parts ∙ s.parts ∙ ap (λ x. numeral ++ x) a.parts ∙ sym (append_assoc numeral (46 ∷ a.places) rest) in (
      decimal (pos (digits_value 10 (numeral ++ a.places))) (length a.places),
      record {
        front = numeral;
        places = a.places;
        whole = digits_value 10 numeral;
        numeral = s.numeral;
        parts = append_cancel_right text (numeral ++ (46 ∷ a.places)) rest whole;
        some = a.some;
        digits = digits_all a.places a.digits.passes;
        value = refl;
      },
    )

-- ---- the longest numeral

pub zero_split : (bytes front rest : List ℕ) (tail : List ℕ) → bytes ≡ 48 ∷ tail → front ≡ 48 ∷ [] → rest ≡ tail → IsNumeralSplit bytes front rest
zero_split bytes front rest tail e f g =
    subst (λ x. IsNumeralSplit bytes x rest) (sym f) (record {
      parts = e ∙ ap (λ x. 48 ∷ x) (sym g);
      numeral = record { some = omega arith; digits = digits_all (48 ∷ []) refl; no_zero_first = λ r h. cc; value = refl };
      most = λ more left n h k. k.no_zero_first more refl;
    })

pub digits_split : (bytes front rest : List ℕ) → First is_ascii_digit bytes → NotFirst 48 bytes → IsLongest is_ascii_digit bytes front rest → IsNumeralSplit bytes front rest
digits_split bytes front rest f z h = record {
  parts = h.parts;
  numeral = record {
    some = some_first bytes front rest f h;
    digits = digits_all front h.passes;
    no_zero_first = λ r e. absurd (z (r ++ rest) (h.parts ∙ ap (λ x. x ++ rest) e));
    value = refl;
  };
  most = λ more left n e k.
      let all : list_all is_ascii_digit (front ++ more) ≡ true = all_digits (front ++ more) k.digits in
      let m = within is_ascii_digit front rest (front ++ more) left h.stops all (ap (λ x. front ++ x) e ∙ sym (append_assoc front more left)) in
      nothing more m.0 (ap length m.1 ∙ length-append (front ++ more) m.0) (length-append front more);
}
  where
    some_first : (bytes front rest : List ℕ) → First is_ascii_digit bytes → IsLongest is_ascii_digit bytes front rest → 0 < length front
    some_first [] front rest f h = absurd f
    some_first (b ∷ bs) (c ∷ front) rest f h = omega arith
    some_first (b ∷ bs) [] [] f h = let e = h.parts in absurd cc
    some_first (b ∷ bs) [] (c ∷ rest) f h = let e = h.parts in let same : b ≡ c = cc in absurd (differ b f (ap is_ascii_digit same ∙ h.stops))

    nothing : (more d : List ℕ) → length front ≡ length (front ++ more) + length d → length (front ++ more) ≡ length front + length more → more ≡ []
    nothing [] d e g = refl
    nothing (x ∷ more) d e g = absurd (omega arith)
