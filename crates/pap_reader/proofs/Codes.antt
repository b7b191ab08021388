-- What digits write, and what the word of an escape stands for: the decision and the relation are the same.
use Rattle.std.proofs.Common.{◌≡◌, ℕ, ◌+◌, ◌*◌, ◌≤◌, ◌<◌, true, ◌&&◌, inl, inr, Option, Some, None, List, [], ◌∷◌, ◌++◌, length, take, get_or, refl, sym, ap, subst, ◌∙◌, arith}
use Rattle.std.specs.Prelude.{◌==◌, nat_le, codes, if◌then◌else◌}
use Rattle.std.specs.Char.{is_digit, digit_value}
use Rattle.std.specs.List.{list_all}
use Rattle.std.specs.Str.{bytes_eq}
use Rattle.std.specs.Str.Parse.{AllDigits, digits_value}
use Rattle.std.proofs.lemmas.Bool.{and_parts, and_from, cases_Bool, eqb-true, ltb-true, lt-ltb, leb-true, le-leb}
use Rattle.std.proofs.lemmas.List.{take_all}
use Rattle.std.proofs.lemmas.Int.Digits.{digits_more, digits_value_more}
use Rattle.std.proofs.lemmas.Str.Parse.{digits_value-take-le}
use Rattle.pap_reader.specs.Values.{WritesCode, StandsFor, less_than, greater_than, ampersand, quotation_mark, apostrophe, decimal, hexadecimal}
use Rattle.pap_reader.specs.private.EscapeDecisions.{writes_code, code_of, byte_numbered, after_hash, byte_named}

-- ---- digits

are_digits : (radix : ℕ) (ds : List ℕ) → list_all (λ b. is_digit b radix) ds ≡ true → AllDigits radix ds
are_digits radix [] e = tt
are_digits radix (b ∷ ds) e =
    let p = and_parts (is_digit b radix) (list_all (λ b. is_digit b radix) ds) e in
    (ltb-true (digit_value b) radix p.0, are_digits radix ds p.1)

pass_all : (radix : ℕ) (ds : List ℕ) → AllDigits radix ds → list_all (λ b. is_digit b radix) ds ≡ true
pass_all radix [] h = refl
pass_all radix (b ∷ ds) h =
    and_from (is_digit b radix) (list_all (λ b. is_digit b radix) ds) (lt-ltb (digit_value b) radix h.0) (pass_all radix ds h.1)

some_digits : (radix : ℕ) (ds : List ℕ) → 1 ≤ digits_value radix ds → 0 < length ds
some_digits radix [] h = absurd (omega (arith, h))
some_digits radix (b ∷ ds) h = omega arith

do_so : (radix : ℕ) (ds : List ℕ) → writes_code radix ds ≡ true → WritesCode radix ds (digits_value radix ds)
do_so radix ds e =
    let v = digits_value radix ds in
    let p = and_parts (list_all (λ b. is_digit b radix) ds) (nat_le 1 v && nat_le v 127) e in
    let q = and_parts (nat_le 1 v) (nat_le v 127) p.1 in
    let least = leb-true 1 v q.0 in
    record { numeral = (some_digits radix ds least, are_digits radix ds p.0); value = refl; least = least; most = leb-true v 127 q.1 }

so_do : (radix : ℕ) (ds : List ℕ) (code : ℕ) → WritesCode radix ds code → writes_code radix ds ≡ true
so_do radix ds code h =
    let v = digits_value radix ds in
    and_from (list_all (λ b. is_digit b radix) ds) (nat_le 1 v && nat_le v 127) (pass_all radix ds h.numeral.1)
    (and_from (nat_le 1 v) (nat_le v 127) (le-leb 1 v (omega (arith, h.value, h.least))) (le-leb v 127 (omega (arith, h.value, h.most))))

no_some : (c : ℕ) → None ≡ Some c → ⊥
no_some c e = absurd cc

some_of : (b c : ℕ) → Some b ≡ Some c → b ≡ c
some_of b c e = cc

-- digits that write a code write it
pub writes : (radix : ℕ) (ds : List ℕ) (code : ℕ) → WritesCode radix ds code → code_of radix ds ≡ Some code
writes radix ds code h =
    ap (λ t. if t then Some (digits_value radix ds) else None) (so_do radix ds code h) ∙ ap (λ v. Some v) (sym h.value)

-- and others write none
pub writes_none : (radix : ℕ) (ds : List ℕ) → (WritesCode radix ds (digits_value radix ds) → ⊥) → code_of radix ds ≡ None
writes_none radix ds h = elim (cases_Bool (writes_code radix ds)) [
  | inl t ↦ absurd (h (do_so radix ds t))
  | inr t ↦ ap (λ t. if t then Some (digits_value radix ds) else None) t
]

written : (radix : ℕ) (ds : List ℕ) (code : ℕ) → code_of radix ds ≡ Some code → WritesCode radix ds code
written radix ds code e = elim (cases_Bool (writes_code radix ds)) [
  | inl t ↦
      subst (WritesCode radix ds)
      (some_of (digits_value radix ds) code (sym (ap (λ t. if t then Some (digits_value radix ds) else None) t) ∙ e))
      (do_so radix ds t)
  | inr t ↦ absurd (no_some code (sym (ap (λ t. if t then Some (digits_value radix ds) else None) t) ∙ e))
]

-- one digit more
pub one_more : (radix : ℕ) (ds : List ℕ) (i code byte digit : ℕ) → i < length ds → AllDigits radix (take i ds)
    → code ≡ digits_value radix (take i ds) → byte ≡ get_or ds i 0
    → (digit_value byte < radix) × (digit ≡ digit_value byte)
    → AllDigits radix (take (i + 1) ds) × (code * radix + digit ≡ digits_value radix (take (i + 1) ds))
one_more radix ds i code byte digit within all is at h =
    (digits_more radix ds i within all (rw (← at) h.0), rw (digits_value_more radix ds i within, ← at, ← is, h.1))

-- a front that writes too much
pub beyond : (radix : ℕ) (ds : List ℕ) (i : ℕ) → 2 ≤ radix → 127 < digits_value radix (take i ds) → code_of radix ds ≡ None
beyond radix ds i some large =
    writes_none radix ds (λ w. omega (arith, w.most, large, digits_value-take-le radix ds i (omega (arith, some))))

-- all digits
pub whole : (radix : ℕ) (ds : List ℕ) (i code : ℕ) → length ds ≤ i → AllDigits radix (take i ds)
    → code ≡ digits_value radix (take i ds) → code ≤ 127 → (code ≡ 0 → ⊥) → code_of radix ds ≡ Some code
whole radix ds i code end all is most some =
    let same : take i ds ≡ ds = take_all i ds end in
    let value : code ≡ digits_value radix ds = is ∙ ap (digits_value radix) same in
    let least : 1 ≤ code = omega (arith, some) in
    writes radix ds code (record {
      numeral = (some_digits radix ds (omega (arith, value, least)), subst (AllDigits radix) same all);
      value = value;
      least = least;
      most = most;
    })

-- ---- words

same_is : (a b : List ℕ) → bytes_eq a b ≡ true → a ≡ b
same_is [] [] e = refl
same_is [] (y ∷ b) e = absurd cc
same_is (x ∷ a) [] e = absurd cc
same_is (x ∷ a) (y ∷ b) e =
    let p = and_parts (x == y) (bytes_eq a b) e in
    ap (λ z. z ∷ a) (eqb-true x y p.0) ∙ ap (λ z. y ∷ z) (same_is a b p.1)

-- no digit of radix 10 is an x
numbered : (digits : List ℕ) (code : ℕ) → WritesCode 10 digits code → byte_numbered digits ≡ Some code
numbered [] code h = absurd (omega (arith, h.numeral.0))
numbered (b ∷ digits) code h = elim (cases_Bool (b == 120)) [
  | inl t ↦ absurd (no_x b (eqb-true b 120 t) h.numeral.1.0)
  | inr t ↦ ap (λ t. if t then code_of 16 digits else code_of 10 (b ∷ digits)) t ∙ writes 10 (b ∷ digits) code h
]
  where
    no_x : (b : ℕ) → b ≡ 120 → digit_value b < 10 → ⊥
    no_x b e h = let k : digit_value 120 < 10 = subst (λ b. digit_value b < 10) e h in omega (arith, k)

-- the decision finds what a word stands for
pub named : {w : List ℕ} {c : ℕ} → StandsFor w c → byte_named w ≡ Some c
named less_than = refl
named greater_than = refl
named ampersand = refl
named quotation_mark = refl
named apostrophe = refl
named (decimal {digits} {code} h) = numbered digits code h
named (hexadecimal {digits} {code} h) = writes 16 digits code h

by_number : (word : List ℕ) (c : ℕ) → byte_numbered word ≡ Some c → StandsFor (codes "#" ++ word) c
by_number [] c e = absurd (no_some c e)
by_number (b ∷ ds) c e = elim (cases_Bool (b == 120)) [
  | inl t ↦
      subst (λ b. StandsFor (codes "#" ++ (b ∷ ds)) c) (sym (eqb-true b 120 t))
      (hexadecimal (written 16 ds c (sym (ap (λ x. if x then code_of 16 ds else code_of 10 (b ∷ ds)) t) ∙ e)))
  | inr t ↦ decimal (written 10 (b ∷ ds) c (sym (ap (λ x. if x then code_of 16 ds else code_of 10 (b ∷ ds)) t) ∙ e))
]

by_hash : (w : List ℕ) (c : ℕ) → after_hash w ≡ Some c → StandsFor w c
by_hash [] c e = absurd (no_some c e)
by_hash (b ∷ word) c e = elim (cases_Bool (b == 35)) [
  | inl t ↦
      subst (λ b. StandsFor (b ∷ word) c) (sym (eqb-true b 35 t))
      (by_number word c (sym (ap (λ x. if x then byte_numbered word else None) t) ∙ e))
  | inr t ↦ absurd (no_some c (sym (ap (λ x. if x then byte_numbered word else None) t) ∙ e))
]

-- one of the named words, or another
word_or : (w word : List ℕ) (n : ℕ) (other : Option ℕ) (c : ℕ) → StandsFor word n → (other ≡ Some c → StandsFor w c)
    → (if bytes_eq w word then Some n else other) ≡ Some c → StandsFor w c
word_or w word n other c h go e = elim (cases_Bool (bytes_eq w word)) [
  | inl t ↦
      subst (λ w. StandsFor w c) (sym (same_is w word t))
      (subst (StandsFor word) (some_of n c (sym (ap (λ b. if b then Some n else other) t) ∙ e)) h)
  | inr t ↦ go (sym (ap (λ b. if b then Some n else other) t) ∙ e)
]

-- and nothing else
pub stands : (w : List ℕ) (c : ℕ) → byte_named w ≡ Some c → StandsFor w c
stands w c =
    word_or w (codes "lt") 60 _ c less_than
    (word_or w (codes "gt") 62 _ c greater_than
    (word_or w (codes "amp") 38 _ c ampersand
    (word_or w (codes "quot") 34 _ c quotation_mark
    (word_or w (codes "apos") 39 _ c apostrophe (by_hash w c)))))
