-- The texts of literals.
use Rattle.std.proofs.Common.{◌≡◌, ℕ, ◌+◌, ◌/◌, ◌^◌, ◌<◌, ◌≤◌, true, false, ltb, get_or, List, [], ◌∷◌, ◌++◌, length, map, pos, refl, sym, ap, ap₂, subst, ◌∙◌, append_assoc, inl, inr, arith}
use Rattle.std.specs.Prelude.{codes, int_lt}
use Rattle.std.specs.List.{list_all}
use Rattle.std.specs.Char.{is_ascii_digit}
use Rattle.std.specs.Int.Digits.{digits_of}
use Rattle.std.specs.Str.Parse.{AllDigits}
use Rattle.std.proofs.lemmas.Bool.Decides.{nat_tests}
use Rattle.std.proofs.lemmas.List.Folds.{list_all-append}
use Rattle.std.proofs.lemmas.Bool.{cases_lt, and_parts}
use Rattle.std.proofs.lemmas.Int.Digits.{first_digits_of}
use Rattle.scaled_decimal.specs.Decimals.{Decimal, decimal}
use Rattle.scaled_decimal.specs.Limits.{IsKept}
use Rattle.scaled_decimal.specs.PlainTexts.{digit_byte, whole_text, last_digits, plain_text}
use Rattle.scaled_decimal.proofs.Laws.{length-last_digits, whole_some, digits_last, digits_whole, some_whole, value_whole, value_all, plain_text_spells}
use Rattle.pap_tree.specs.Tokens.{Literal, Quoted, int, long, point, greatest_int, greatest_long, IsNumeral, IsPoint}
use Rattle.expr_tokens.specs.private.Views.{Begins, First, Stops, IsNumeralSplit}
use Rattle.expr_tokens.proofs.Laws.{all_digits, int_begins, long_begins, point_begins, string_begins, number_no_quote}
use Rattle.expr_grammar.proofs.Lexing.{Lex, Any, Cut, one, cut_no_digit, cut_no_long, cut_no_places}

-- ---- numerals

no_zero : (ds : List ℕ) (rest : List ℕ) → 0 < get_or ds 0 0 → map digit_byte ds ≡ 48 ∷ rest → rest ≡ []
no_zero [] rest h e = absurd cc
no_zero (d ∷ ds) rest h e = let f : 48 + d ≡ 48 = head_is (48 + d) 48 (map digit_byte ds) rest e in absurd (omega (arith, f, h))
  where
    head_is : (a b : ℕ) (xs ys : List ℕ) → a ∷ xs ≡ b ∷ ys → a ≡ b
    head_is a b xs ys e = cc

zero_alone : (n : ℕ) (rest : List ℕ) → whole_text n ≡ 48 ∷ rest → rest ≡ []
zero_alone n rest e = elim (cases_lt 0 n) as (λ z. rest ≡ []) [
  | inl some ↦ no_zero (digits_of 10 n) rest (first_digits_of 10 n (omega arith) some) (sym (whole_some n some) ∙ e)
  | inr none ↦ (let f : n ≡ 0 = omega (arith, none) in let g : 48 ∷ [] ≡ 48 ∷ rest = sym (ap whole_text f) ∙ e in sym (tail_is 48 48 [] rest g))
]
  where
    tail_is : (a b : ℕ) (xs ys : List ℕ) → a ∷ xs ≡ b ∷ ys → xs ≡ ys
    tail_is a b xs ys e = cc

pub numeral : (n : ℕ) → IsNumeral (whole_text n) n
numeral n = record { some = some_whole n; digits = digits_whole n; no_zero_first = zero_alone n; value = sym (value_whole n) }

pub digit_first : (text rest : List ℕ) → 0 < length text → AllDigits 10 text → First is_ascii_digit (text ++ rest)
digit_first [] rest some h = absurd (omega (arith, some))
digit_first (b ∷ bs) rest some h = (and_parts (is_ascii_digit b) (list_all is_ascii_digit bs) (all_digits (b ∷ bs) h)).0

differs : (b : ℕ) → is_ascii_digit b ≡ true → is_ascii_digit b ≡ false → ⊥
differs b e f = absurd cc

no_more : (text rest more left : List ℕ) → Stops is_ascii_digit rest → rest ≡ more ++ left → AllDigits 10 (text ++ more) → more ≡ []
no_more text rest [] left s e h = refl
no_more text rest (c ∷ more) left s e h =
    let all : list_all is_ascii_digit (text ++ (c ∷ more)) ≡ true = all_digits (text ++ (c ∷ more)) h in
    let parts = and_parts (list_all is_ascii_digit text) (list_all is_ascii_digit (c ∷ more)) (sym (list_all-append is_ascii_digit text (c ∷ more)) ∙ all) in
    let yes = (and_parts (is_ascii_digit c) (list_all is_ascii_digit more) parts.1).0 in
    absurd (differs c yes (subst (λ r. Stops is_ascii_digit r) e s))

split : (text rest : List ℕ) (n : ℕ) → IsNumeral text n → Stops is_ascii_digit rest → IsNumeralSplit (text ++ rest) text rest
split text rest n h s = record {
  parts = refl;
  numeral = subst (λ n. IsNumeral text n) h.value h;
  most = λ more left m e k. no_more text rest more left s e k.digits;
}

pub int_lex : (n : ℕ) → n ≤ greatest_int → Lex Cut (whole_text n) (Literal (int n) ∷ [])
int_lex n le = one Cut (whole_text n) (Literal (int n)) (λ rest c.
    let h = numeral n in
    int_begins (whole_text n ++ rest) (whole_text n) rest (Literal (int n)) (digit_first (whole_text n) rest h.some h.digits) (split (whole_text n) rest n h (cut_no_digit rest c)) (cut_no_long rest c) (cut_no_places rest c) (h, le))

pub long_lex : (n : ℕ) → n ≤ greatest_long → Lex Any (whole_text n ++ codes "L") (Literal (long n) ∷ [])
long_lex n le = one Any (whole_text n ++ codes "L") (Literal (long n)) (λ rest c.
    let h = numeral n in
    subst (λ z. Begins z (Literal (long n)) rest) (sym (append_assoc (whole_text n) (codes "L") rest))
    (long_begins (whole_text n ++ (76 ∷ rest)) (whole_text n) (76 ∷ rest) rest (Literal (long n)) (digit_first (whole_text n) (76 ∷ rest) h.some h.digits) (split (whole_text n) (76 ∷ rest) n h refl) refl ((whole_text n, refl, h), le)))

-- the text of a number with places
abbrev pub place_text : ℕ → ℕ → List ℕ
place_text n s = whole_text (n / 10 ^ s) ++ (codes "." ++ last_digits s n)

is_point : (n s : ℕ) → 1 ≤ s → IsPoint (place_text n s) (decimal (pos n) s)
is_point n s some = record {
  front = whole_text (n / 10 ^ s);
  places = last_digits s n;
  whole = n / 10 ^ s;
  numeral = numeral (n / 10 ^ s);
  parts = refl;
  some = (let l = length-last_digits s n in omega (arith, l, some));
  digits = digits_last s n;
  value = ap₂ decimal (ap pos (sym (value_all n s))) (sym (length-last_digits s n));
}

pub point_lex : (n s : ℕ) → 1 ≤ s → IsKept (decimal (pos n) s) → Lex Cut (place_text n s) (Literal (point (decimal (pos n) s)) ∷ [])
point_lex n s some kept = one Cut (place_text n s) (Literal (point (decimal (pos n) s))) (λ rest c.
    let front = whole_text (n / 10 ^ s) in
    let after = 46 ∷ (last_digits s n ++ rest) in
    let h = numeral (n / 10 ^ s) in
    let whole : place_text n s ++ rest ≡ front ++ after = append_assoc front (46 ∷ last_digits s n) rest in
    subst (λ z. Begins z (Literal (point (decimal (pos n) s))) rest) (sym whole)
    (point_begins (front ++ after) front after (place_text n s) rest (Literal (point (decimal (pos n) s))) (digit_first front after h.some h.digits) (split front after (n / 10 ^ s) h refl)
    (record {
      places = last_digits s n;
      parts = refl;
      some = (let l = length-last_digits s n in omega (arith, l, some));
      digits = record { parts = refl; passes = all_digits (last_digits s n) (digits_last s n); stops = cut_no_digit rest c };
    }) (sym whole) (is_point n s some, kept)))

pub quoted_lex : (d : Decimal) → IsKept d → Lex Any (codes "\"" ++ (plain_text d ++ codes "\"")) (Quoted d ∷ [])
quoted_lex d kept = one Any (codes "\"" ++ (plain_text d ++ codes "\"")) (Quoted d) (λ rest c.
    let inner = plain_text d in
    subst (λ z. Begins (34 ∷ z) (Quoted d) rest) (sym (append_assoc inner (34 ∷ []) rest))
    (string_begins (inner ++ (34 ∷ rest)) inner rest (Quoted d) (record { parts = refl; passes = number_no_quote inner d (plain_text_spells d); stops = refl }) ((inner, refl, plain_text_spells d), kept)))

-- ---- plain texts

pub no_sign : (n : ℕ) → int_lt (pos n) (pos 0) ≡ false
no_sign n = let test : ltb n 0 ≡ false = grind (arith, nat_tests) in test
