-- The spelled leaves.
use Rattle.std.proofs.Common.{◌≡◌, ℕ, zero, suc, ◌/◌, ◌%◌, ◌^◌, ◌≤◌, ◌<◌, Bool, true, false, List, [], ◌∷◌, ◌++◌, length, ℤ, pos, negsuc, refl, sym, ap, subst, ◌∙◌, append_assoc, arith}
use Rattle.std.specs.Prelude.{codes, not, nat_lt, nat_le, IsTrue, ◌||◌, ◌&&◌, ◌==◌}
use Rattle.std.specs.List.{list_all}
use Rattle.std.specs.Char.{is_ascii_digit}
use Rattle.std.proofs.lemmas.List.{append-nil}
use Rattle.std.proofs.lemmas.Bool.{and_parts, and_from, leb-true, lt-ltb}
use Rattle.std.proofs.lemmas.Bool.Decides.{nat_tests, Decides-eqb}
use Rattle.scaled_decimal.specs.Decimals.{Decimal, decimal, numerator_of, scale_of}
use Rattle.scaled_decimal.specs.Limits.{IsKept}
use Rattle.scaled_decimal.specs.NumberTexts.{sign_text, point_text}
use Rattle.scaled_decimal.specs.PlainTexts.{digit_byte, whole_text, last_digits, plain_text}
use Rattle.scaled_decimal.proofs.Laws.{digits_whole, some_whole, digits_last}
use Rattle.pap_tree.specs.Names.{is_letter, is_word, is_reserved, is_name}
use Rattle.pap_tree.specs.Words.{known_word}
use Rattle.pap_tree.specs.declared.expression.Known.{Known}
use Rattle.pap_tree.specs.declared.expression.Known.TheVariants as knowns
use Rattle.pap_tree.specs.declared.expression.Binary.TheVariants as binaries
use Rattle.pap_tree.specs.Term as terms
use Rattle.pap_tree.specs.Term.{Leaf}
use Rattle.pap_tree.specs.Spelling as bytes
use Rattle.pap_tree.specs.Spelling.{spelled_leaf}
use Rattle.pap_tree.specs.Tokens as tokens
use Rattle.pap_tree.specs.Tokens.{Token, Literal, Quoted, Word, Operator, Mark, Open, Close, int, long, point, greatest_int, greatest_long, is_word_text}
use Rattle.expr_tokens.specs.private.Views.{First, Stops}
use Rattle.expr_tokens.proofs.Laws.{all_digits, word_first}
use Rattle.expr_grammar.specs.SpelledTokens.{leaf_tokens}
use Rattle.expr_grammar.proofs.Lexing.{Lex, Any, Cut, join, lead, word_lex, cut_no_digit, cut_no_places}
use Rattle.expr_grammar.proofs.Numerals.{int_lex, long_lex, point_lex, quoted_lex, place_text, digit_first, no_sign}
use Rattle.expr_grammar.proofs.Pieces.{Good, NoEquals, sign_then, word_then, point_sign, open_sign, close_sign, minus_sign}
use Rattle.expr_grammar.proofs.Held.{IsHeldLeaf}

-- ---- how digits begin

digit_no_minus : (b : ℕ) → is_ascii_digit b ≡ true → (b == 45) ≡ false
digit_no_minus b h = grind (arith, nat_tests)

digit_no_point : (b : ℕ) → is_ascii_digit b ≡ true → (b == 46) ≡ false
digit_no_point b h = grind (arith, nat_tests)

digit_no_equals : (b : ℕ) → is_ascii_digit b ≡ true → b ≡ 61 → ⊥
digit_no_equals b h e = let f : is_ascii_digit 61 ≡ true = ap is_ascii_digit (sym e) ∙ h in absurd cc

letter_no_digit : (b : ℕ) → is_letter b ≡ true → is_ascii_digit b ≡ false
letter_no_digit b h = grind (arith, nat_tests)

letter_no_minus : (b : ℕ) → is_letter b ≡ true → (b == 45) ≡ false
letter_no_minus b h = grind (arith, nat_tests)

letter_no_equals : (b : ℕ) → is_letter b ≡ true → b ≡ 61 → ⊥
letter_no_equals b h e = let f : is_letter 61 ≡ true = ap is_letter (sym e) ∙ h in absurd cc

heads : (a b : ℕ) (xs ys : List ℕ) → a ∷ xs ≡ b ∷ ys → a ≡ b
heads a b xs ys e = cc

pub other_start : (b : ℕ) (bs : List ℕ) → (b == 61) ≡ false → NoEquals (b ∷ bs)
other_start b bs h more e = let f : true ≡ false = sym ((Decides-eqb b 61).1 (heads b 61 bs more e)) ∙ h in absurd cc

and_false : (a b : Bool) → b ≡ false → (a && b) ≡ false
and_false true b e = e
and_false false b e = refl

first_false : (a b : Bool) → a ≡ false → (a && b) ≡ false
first_false true b e = absurd cc
first_false false b e = refl

neither : (a b : Bool) → a ≡ false → b ≡ false → (a || b) ≡ false
neither true b e f = absurd cc
neither false b e f = f

or_true : (a b : Bool) → b ≡ true → (a || b) ≡ true
or_true true b e = refl
or_true false b e = e

both : (a b : Bool) → a ≡ true → b ≡ true → (a && b) ≡ true
both true b e f = f
both false b e f = absurd cc

-- what follows digits and isn't a point with a digit
record IsPlain (rest : List ℕ) : Type 0 where
  point : bytes.begins_point rest ≡ false
  fraction : bytes.begins_fraction rest ≡ false

first_plain : (bs : List ℕ) → Stops is_ascii_digit bs → bytes.begins_digit bs ≡ false
first_plain [] h = refl
first_plain (b ∷ bs) h = h

by_point : (b : ℕ) (bs : List ℕ) (c : Bool) → (b == 46) ≡ c → ((c ≡ true) → bytes.begins_digit bs ≡ false) → (c && bytes.begins_digit bs) ≡ false
by_point b bs true e h = h refl
by_point b bs false e h = refl

cut_plain : (rest : List ℕ) → Cut rest → IsPlain rest
cut_plain [] h = record { point = refl; fraction = refl }
cut_plain (b ∷ bs) h = record {
  point = first_false (is_ascii_digit b) _ (cut_no_digit (b ∷ bs) h);
  fraction = by_point b bs (b == 46) refl (λ e. let f : b ≡ 46 = (Decides-eqb b 46).0 e in first_plain bs (cut_no_places (b ∷ bs) h bs (ap (λ b. b ∷ bs) f)));
}

digits_fraction : (ds rest : List ℕ) → list_all is_ascii_digit ds ≡ true → IsPlain rest → bytes.begins_fraction (ds ++ rest) ≡ false
digits_fraction [] rest h p = p.fraction
digits_fraction (d ∷ ds) rest h p = first_false (d == 46) _ (digit_no_point d (and_parts (is_ascii_digit d) (list_all is_ascii_digit ds) h).0)

digits_point : (ds rest : List ℕ) → list_all is_ascii_digit ds ≡ true → IsPlain rest → bytes.begins_point (ds ++ rest) ≡ false
digits_point [] rest h p = p.point
digits_point (d ∷ ds) rest h p =
    let k = (and_parts (is_ascii_digit d) (list_all is_ascii_digit ds) h).1 in
    and_false (is_ascii_digit d) _ (neither (bytes.begins_fraction (ds ++ rest)) (bytes.begins_point (ds ++ rest)) (digits_fraction ds rest k p) (digits_point ds rest k p))

-- digits, a point and a digit
point_after : (ds more : List ℕ) → 0 < length ds → list_all is_ascii_digit ds ≡ true → bytes.begins_digit more ≡ true → bytes.begins_point (ds ++ (46 ∷ more)) ≡ true
point_after [] more some h g = absurd (omega (arith, some))
point_after (d ∷ []) more some h g =
    both (is_ascii_digit d) _ (and_parts (is_ascii_digit d) true h).0 (ap (λ c. c || bytes.begins_point (46 ∷ more)) g)
point_after (d ∷ e ∷ ds) more some h g =
    let k = and_parts (is_ascii_digit d) (list_all is_ascii_digit (e ∷ ds)) h in
    both (is_ascii_digit d) _ k.0 (or_true (bytes.begins_fraction ((e ∷ ds) ++ (46 ∷ more))) _ (point_after (e ∷ ds) more (omega arith) k.1 g))

-- a text that begins with a digit
digit_start : (text : List ℕ) → First is_ascii_digit text → bytes.begins_number text ≡ true
digit_start [] h = absurd h
digit_start (b ∷ bs) h = ap (λ c. c || (b == 45)) h

no_equals : (text : List ℕ) → First is_ascii_digit text → NoEquals text
no_equals [] h = absurd h
no_equals (b ∷ bs) h = λ more e. digit_no_equals b h (heads b 61 bs more e)

signed_point : (text : List ℕ) (c : Bool) → First is_ascii_digit text → bytes.begins_point text ≡ c → bytes.begins_signed_point text ≡ c
signed_point [] c h e = absurd h
signed_point (b ∷ bs) c h e = ap (λ z. z || ((b == 45) && bytes.begins_point bs)) e ∙ ap (λ m. c || (m && bytes.begins_point bs)) (digit_no_minus b h) ∙ or_false c
  where
    or_false : (c : Bool) → (c || false) ≡ c
    or_false true = refl
    or_false false = refl

-- ---- numbers

whole_first : (n : ℕ) (rest : List ℕ) → First is_ascii_digit (whole_text n ++ rest)
whole_first n rest = digit_first (whole_text n) rest (some_whole n) (digits_whole n)

whole_good : (n : ℕ) → n ≤ greatest_int → Good (whole_text n) (Literal (int n) ∷ [])
whole_good n le = record {
  lex = int_lex n le;
  number = λ rest us c. digit_start (whole_text n ++ rest) (whole_first n rest);
  point = λ rest us c. signed_point (whole_text n ++ rest) false (whole_first n rest) (digits_point (whole_text n) rest (all_digits (whole_text n) (digits_whole n)) (cut_plain rest c));
  start = λ rest. no_equals (whole_text n ++ rest) (whole_first n rest);
}

minus_whole : (n : ℕ) → n ≤ greatest_int → Good (codes "-" ++ whole_text n) (Operator binaries.Sub ∷ Literal (int n) ∷ [])
minus_whole n le = record {
  lex = sign_then Cut 45 (Operator binaries.Sub) (whole_text n) (Literal (int n) ∷ []) minus_sign (int_lex n le);
  number = λ rest us c. refl;
  point = λ rest us c. digits_point (whole_text n) rest (all_digits (whole_text n) (digits_whole n)) (cut_plain rest c);
  start = λ rest more e. absurd cc;
}

long_plain : (rest : List ℕ) → IsPlain (76 ∷ rest)
long_plain rest = record { point = refl; fraction = refl }

long_point : (n : ℕ) (rest : List ℕ) → bytes.begins_point ((whole_text n ++ codes "L") ++ rest) ≡ false
long_point n rest = ap bytes.begins_point (append_assoc (whole_text n) (codes "L") rest) ∙ digits_point (whole_text n) (76 ∷ rest) (all_digits (whole_text n) (digits_whole n)) (long_plain rest)

long_first : (n : ℕ) (rest : List ℕ) → First is_ascii_digit ((whole_text n ++ codes "L") ++ rest)
long_first n rest = subst (λ z. First is_ascii_digit z) (sym (append_assoc (whole_text n) (codes "L") rest)) (whole_first n (76 ∷ rest))

long_good : (n : ℕ) → n ≤ greatest_long → Good (whole_text n ++ codes "L") (Literal (long n) ∷ [])
long_good n le = record {
  lex = λ w r us e c h. long_lex n le w r us e tt h;
  number = λ rest us c. digit_start ((whole_text n ++ codes "L") ++ rest) (long_first n rest);
  point = λ rest us c. signed_point ((whole_text n ++ codes "L") ++ rest) false (long_first n rest) (long_point n rest);
  start = λ rest. no_equals ((whole_text n ++ codes "L") ++ rest) (long_first n rest);
}

minus_long : (n : ℕ) → n ≤ greatest_long → Good (codes "-" ++ (whole_text n ++ codes "L")) (Operator binaries.Sub ∷ Literal (long n) ∷ [])
minus_long n le = record {
  lex = sign_then Cut 45 (Operator binaries.Sub) (whole_text n ++ codes "L") (Literal (long n) ∷ []) minus_sign (λ w r us e c h. long_lex n le w r us e tt h);
  number = λ rest us c. refl;
  point = λ rest us c. long_point n rest;
  start = λ rest more e. absurd cc;
}

place_first : (n s : ℕ) (rest : List ℕ) → First is_ascii_digit (place_text n s ++ rest)
place_first n s rest = subst (λ z. First is_ascii_digit z) (sym (append_assoc (whole_text (n / 10 ^ s)) (46 ∷ last_digits s n) rest)) (whole_first (n / 10 ^ s) (46 ∷ (last_digits s n ++ rest)))

first_place : (s n : ℕ) (rest : List ℕ) → 1 ≤ s → bytes.begins_digit (last_digits s n ++ rest) ≡ true
first_place zero n rest some = absurd (omega (arith, some))
first_place (suc s) n rest some =
    let h = all_digits (last_digits (suc s) n) (digits_last (suc s) n) in
    (and_parts (is_ascii_digit (digit_byte (n / 10 ^ s % 10))) (list_all is_ascii_digit (last_digits s n)) h).0

place_point : (n s : ℕ) (rest : List ℕ) → 1 ≤ s → bytes.begins_point (place_text n s ++ rest) ≡ true
place_point n s rest some =
    ap bytes.begins_point (append_assoc (whole_text (n / 10 ^ s)) (46 ∷ last_digits s n) rest)
    ∙ point_after (whole_text (n / 10 ^ s)) (last_digits s n ++ rest) (some_whole (n / 10 ^ s)) (all_digits _ (digits_whole (n / 10 ^ s))) (first_place s n rest some)

point_good : (n s : ℕ) → 1 ≤ s → IsKept (decimal (pos n) s) → Good (place_text n s) (Literal (point (decimal (pos n) s)) ∷ [])
point_good n s some kept = record {
  lex = point_lex n s some kept;
  number = λ rest us c. digit_start (place_text n s ++ rest) (place_first n s rest);
  point = λ rest us c. signed_point (place_text n s ++ rest) true (place_first n s rest) (place_point n s rest some);
  start = λ rest. no_equals (place_text n s ++ rest) (place_first n s rest);
}

minus_point : (n s : ℕ) → 1 ≤ s → IsKept (decimal (pos n) s) → Good (codes "-" ++ place_text n s) (Operator binaries.Sub ∷ Literal (point (decimal (pos n) s)) ∷ [])
minus_point n s some kept = record {
  lex = sign_then Cut 45 (Operator binaries.Sub) (place_text n s) (Literal (point (decimal (pos n) s)) ∷ []) minus_sign (point_lex n s some kept);
  number = λ rest us c. refl;
  point = λ rest us c. place_point n s rest some;
  start = λ rest more e. absurd cc;
}

-- ---- plain texts

good_is : (a b : List ℕ) (ts : List Token) → a ≡ b → Good a ts → Good b ts
good_is a b ts e g = subst (λ a. Good a ts) e g

plain_pos : (n : ℕ) → plain_text (decimal (pos n) 0) ≡ whole_text n
plain_pos n = ap (λ b. sign_text b ++ (whole_text (n / 1) ++ [])) (no_sign n) ∙ append-nil (whole_text (n / 1)) ∙ ap whole_text (let e : n / 1 ≡ n = omega arith in e)

plain_neg : (n : ℕ) → plain_text (decimal (negsuc n) 0) ≡ codes "-" ++ whole_text (suc n)
plain_neg n = ap (λ z. codes "-" ++ z) (append-nil (whole_text (suc n / 1)) ∙ ap whole_text (let e : suc n / 1 ≡ suc n = omega arith in e))

places_text : (s n : ℕ) → 1 ≤ s → point_text (last_digits s n) ≡ codes "." ++ last_digits s n
places_text zero n some = absurd (omega (arith, some))
places_text (suc s) n some = refl

plain_place : (n s : ℕ) → 1 ≤ s → plain_text (decimal (pos n) s) ≡ place_text n s
plain_place n s some =
    ap (λ b. sign_text b ++ (whole_text (n / 10 ^ s) ++ point_text (last_digits s n))) (no_sign n) ∙ ap (λ p. whole_text (n / 10 ^ s) ++ p) (places_text s n some)

minus_place : (n s : ℕ) → 1 ≤ s → plain_text (decimal (negsuc n) s) ≡ codes "-" ++ place_text (suc n) s
minus_place n s some = ap (λ p. codes "-" ++ (whole_text (suc n / 10 ^ s) ++ p)) (places_text s (suc n) some)

-- ---- leaves

whole_leaf : (i : ℤ) → IsHeldLeaf (terms.whole i) → Good (spelled_leaf (terms.whole i)) (leaf_tokens (terms.whole i))
whole_leaf (pos n) h = good_is _ _ _ (sym (plain_pos n)) (whole_good n h)
whole_leaf (negsuc n) h = good_is _ _ _ (sym (plain_neg n)) (minus_whole (suc n) h)

long_leaf : (i : ℤ) → IsHeldLeaf (terms.long i) → Good (spelled_leaf (terms.long i)) (leaf_tokens (terms.long i))
long_leaf (pos n) h = good_is _ _ _ (ap (λ z. z ++ codes "L") (sym (plain_pos n))) (long_good n h)
long_leaf (negsuc n) h = good_is _ _ _ (ap (λ z. z ++ codes "L") (sym (plain_neg n))) (minus_long (suc n) h)

point_leaf : (i : ℤ) (s : ℕ) → IsHeldLeaf (terms.point (decimal i s)) → Good (spelled_leaf (terms.point (decimal i s))) (leaf_tokens (terms.point (decimal i s)))
point_leaf (pos n) s h = good_is _ _ _ (sym (plain_place n s h.0)) (point_good n s h.0 h.1)
point_leaf (negsuc n) s h = good_is _ _ _ (sym (minus_place n s h.0)) (minus_point (suc n) s h.0 h.1)

pub name_word : (x : List ℕ) → IsTrue (is_name x) → is_word_text x ≡ true
name_word [] h = absurd cc
name_word (b ∷ bs) h =
    let p = and_parts ((nat_lt 0 (length (b ∷ bs)) && nat_le (length (b ∷ bs)) 32) && (is_letter b && list_all is_word (b ∷ bs))) (not (is_reserved (b ∷ bs))) h in
    let q = and_parts (nat_lt 0 (length (b ∷ bs)) && nat_le (length (b ∷ bs)) 32) (is_letter b && list_all is_word (b ∷ bs)) p.0 in
    let few = leb-true (length (b ∷ bs)) 32 (and_parts (nat_lt 0 (length (b ∷ bs))) (nat_le (length (b ∷ bs)) 32) q.0).1 in
    let r = and_parts (is_letter b) (list_all is_word (b ∷ bs)) q.1 in
    let w = and_parts (is_word b) (list_all is_word bs) r.1 in
    and_from (is_letter b && list_all is_word bs) (nat_lt (length bs) 32) (and_from (is_letter b) (list_all is_word bs) r.0 w.1) (lt-ltb (length bs) 32 (omega (arith, few)))

pub word_good : (x : List ℕ) → is_word_text x ≡ true → Good x (Word x ∷ [])
word_good x h = by_first x h (word_first x h)
  where
    by_first : (x : List ℕ) → is_word_text x ≡ true → First is_letter x → Good x (Word x ∷ [])
    by_first [] h f = absurd f
    by_first (b ∷ bs) h f = record {
      lex = word_lex (b ∷ bs) h;
      number = λ rest us c. neither (is_ascii_digit b) (b == 45) (letter_no_digit b f) (letter_no_minus b f);
      point = λ rest us c. neither (bytes.begins_point (b ∷ (bs ++ rest))) ((b == 45) && bytes.begins_point (bs ++ rest)) (first_false (is_ascii_digit b) _ (letter_no_digit b f)) (first_false (b == 45) _ (letter_no_minus b f));
      start = λ rest more e. letter_no_equals b f (heads b 61 (bs ++ rest) more e);
    }

known_text : (k : Known) → is_word_text (known_word k) ≡ true
known_text knowns.Zero = refl
known_text knowns.One = refl
known_text knowns.Ten = refl

known_cut : (k : Known) (rest : List ℕ) → Cut (46 ∷ (known_word k ++ rest))
known_cut knowns.Zero rest = refl
known_cut knowns.One rest = refl
known_cut knowns.Ten rest = refl

known_good : (k : Known) → Good (codes "BigDecimal." ++ known_word k) (leaf_tokens (terms.known k))
known_good k = record {
  lex = word_then Cut (codes "BigDecimal") (46 ∷ known_word k) (Mark tokens.Dot ∷ Word (known_word k) ∷ []) refl (λ rest c. known_cut k rest)
      (sign_then Cut 46 (Mark tokens.Dot) (known_word k) (Word (known_word k) ∷ []) point_sign (word_lex (known_word k) (known_text k)));
  number = λ rest us c. refl;
  point = λ rest us c. refl;
  start = λ rest. other_start 66 _ refl;
}

text_lex : (d : Decimal) → IsKept d → Lex Cut (codes "\"" ++ (plain_text d ++ codes "\")")) (Quoted d ∷ Mark Close ∷ [])
text_lex d kept =
    subst (λ z. Lex Cut (34 ∷ z) (Quoted d ∷ Mark Close ∷ [])) (append_assoc (plain_text d) (34 ∷ []) (41 ∷ []))
    (join Any Cut (codes "\"" ++ (plain_text d ++ codes "\"")) (41 ∷ []) (Quoted d ∷ []) (Mark Close ∷ []) (quoted_lex d kept) (λ w r us e c h. close_sign w r us e tt h) (λ rest c. tt))

text_good : (d : Decimal) → IsKept d → Good (spelled_leaf (terms.text d)) (leaf_tokens (terms.text d))
text_good d kept = record {
  lex = word_then Cut (codes "new") (32 ∷ (codes "BigDecimal(\"" ++ (plain_text d ++ codes "\")"))) (Word (codes "BigDecimal") ∷ Mark Open ∷ Quoted d ∷ Mark Close ∷ []) refl (λ rest c. refl)
      (lead Cut (32 ∷ []) (codes "BigDecimal(\"" ++ (plain_text d ++ codes "\")")) (Word (codes "BigDecimal") ∷ Mark Open ∷ Quoted d ∷ Mark Close ∷ []) refl
      (word_then Cut (codes "BigDecimal") (40 ∷ (codes "\"" ++ (plain_text d ++ codes "\")"))) (Mark Open ∷ Quoted d ∷ Mark Close ∷ []) refl (λ rest c. refl)
      (sign_then Cut 40 (Mark Open) (codes "\"" ++ (plain_text d ++ codes "\")")) (Quoted d ∷ Mark Close ∷ []) open_sign (text_lex d kept))));
  number = λ rest us c. refl;
  point = λ rest us c. refl;
  start = λ rest. other_start 110 _ refl;
}

pub leaf_good : (l : Leaf) → IsHeldLeaf l → Good (spelled_leaf l) (leaf_tokens l)
leaf_good (terms.whole i) h = whole_leaf i h
leaf_good (terms.long i) h = long_leaf i h
leaf_good (terms.point d) h = point_leaf (numerator_of d) (scale_of d) h
leaf_good (terms.text d) h = text_good d h
leaf_good (terms.known k) h = known_good k
leaf_good (terms.named x) h = word_good x (name_word x h)
