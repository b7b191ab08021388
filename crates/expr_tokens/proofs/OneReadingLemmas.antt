-- A text has one list of tokens.
use Rattle.std.proofs.Common.{◌≡◌, ℕ, ◌+◌, ◌<◌, ◌≤◌, inl, inr, Bool, true, false, List, [], ◌∷◌, ◌++◌, length, refl, sym, ap, subst, ◌∙◌, length-append, arith}
use Rattle.std.specs.Prelude.{codes, ◌==◌, if◌then◌else◌}
use Rattle.std.specs.List.{list_all}
use Rattle.std.specs.Char.{is_ascii_digit}
use Rattle.std.specs.Str.Parse.{AllDigits, digits_value}
use Rattle.std.proofs.lemmas.Bool.{and_parts}
use Rattle.std.proofs.lemmas.Bool.Decides.{nat_tests}
use Rattle.std.proofs.lemmas.List.{append-nil, append_cancel_left, append_cancel_right, nil_from_length}
use Rattle.scaled_decimal.specs.Decimals.{Decimal}
use Rattle.scaled_decimal.specs.Limits.{IsKept}
use Rattle.scaled_decimal.specs.NumberTexts.{Spells}
use Rattle.scaled_decimal.proofs.Laws.{number_once}
use Rattle.pap_tree.specs.White.{is_white}
use Rattle.pap_tree.specs.Names.{is_letter}
use Rattle.pap_tree.specs.declared.expression.Binary.TheVariants.{Mul, Div, Rem, Plus, Sub, Less, LessEq, More, MoreEq, Same, Differs, And, Or}
use Rattle.pap_tree.specs.Tokens.{Equals, Bang, Question, Colon, Dot, Comma, Semicolon, Open, Close, OpenItem, CloseItem, OpenTable, CloseTable, Token, Literal, Quoted, Beyond, Word, Operator, Mark, Alien, int, long, point, greatest_int, greatest_long, is_word_text, Spot, IsNumeral, IsLong, IsPoint, IsQuoted, IsBeyondRange, great_int, great_long, great_point, great_quoted, IsToken, TakesMost, SpellsNoToken, IsFirst, Tokens}
use Rattle.expr_tokens.specs.private.Views.{First, Stops, is_sign_byte}
use Rattle.expr_tokens.proofs.FrontLemmas.{within as front_within}
use Rattle.expr_tokens.proofs.ClassLemmas.{IsNumberText, whole, whole_long, with_places, class, is_quote, digit_no_letter, digit_no_sign, letter_no_sign, digit_no_quote, letter_no_quote, sign_no_quote, apart, number_first, word_first, string_first, some_bytes, class_black}
use Rattle.expr_tokens.proofs.NumberLemmas.{either, digit_among, differ, heads, tails, no_point}
use Rattle.expr_tokens.proofs.StringLemmas.{quoted}
use Rattle.expr_tokens.proofs.ValueLemmas.{point_spells}

-- ---- one reading

-- a token as long as can be, or none
data Kind (text rest : List ℕ) (t : Token) : Type 0 where
  a_token : IsToken text t → TakesMost text rest → Kind text rest t
  alien : t ≡ Alien → length text ≡ 1 → list_all is_white text ≡ false → SpellsNoToken (text ++ rest) → Kind text rest t

kind : (text rest : List ℕ) (t : Token) → IsFirst text rest t → Kind text rest t
kind text rest (Literal n) h = a_token h.0 h.1
kind text rest (Quoted d) h = a_token h.0 h.1
kind text rest Beyond h = a_token h.0 h.1
kind text rest (Word w) h = a_token h.0 h.1
kind text rest (Operator o) h = a_token h.0 h.1
kind text rest (Mark s) h = a_token h.0 h.1
kind text rest Alien h = alien refl h.0 h.1 h.2

-- what a range leaves of a literal
data Ranged (good : Token) (P : Type 0) (t : Token) : Type 0 where
  within : P → t ≡ good → Ranged good P t
  beyond : (P → ⊥) → t ≡ Beyond → Ranged good P t

one_ranged : (good : Token) (P : Type 0) (t u : Token) → Ranged good P t → Ranged good P u → t ≡ u
one_ranged good P t u (within p e) (within q f) = e ∙ sym f
one_ranged good P t u (within p e) (beyond q f) = absurd (q p)
one_ranged good P t u (beyond p e) (within q f) = absurd (p q)
one_ranged good P t u (beyond p e) (beyond q f) = e ∙ sym f

data NumberReading (text : List ℕ) (t : Token) : Type 0 where
  an_int : (n : ℕ) → IsNumeral text n → Ranged (Literal (int n)) (n ≤ greatest_int) t → NumberReading text t
  a_long : (n : ℕ) → IsLong text n → Ranged (Literal (long n)) (n ≤ greatest_long) t → NumberReading text t
  a_point : (d : Decimal) → IsPoint text d → Ranged (Literal (point d)) (IsKept d) t → NumberReading text t

-- the operator or sign of a text
one_named : ℕ → Token
one_named b =
    if b == 42 then Operator Mul else if b == 47 then Operator Div else if b == 37 then Operator Rem
    else if b == 43 then Operator Plus else if b == 45 then Operator Sub else if b == 60 then Operator Less
    else if b == 62 then Operator More else if b == 61 then Mark Equals else if b == 33 then Mark Bang
    else if b == 63 then Mark Question else if b == 58 then Mark Colon else if b == 46 then Mark Dot
    else if b == 44 then Mark Comma else if b == 59 then Mark Semicolon else if b == 40 then Mark Open
    else if b == 41 then Mark Close else if b == 91 then Mark OpenItem else if b == 93 then Mark CloseItem
    else if b == 123 then Mark OpenTable else Mark CloseTable

two_named : ℕ → Token
two_named b =
    if b == 60 then Operator LessEq else if b == 62 then Operator MoreEq else if b == 61 then Operator Same
    else if b == 33 then Operator Differs else if b == 38 then Operator And else Operator Or

sign_named : List ℕ → Token
sign_named [] = Alien
sign_named (b ∷ []) = one_named b
sign_named (b ∷ c ∷ bs) = two_named b

data Reading (text : List ℕ) (t : Token) : Type 0 where
  number : NumberReading text t → Reading text t
  string : (d : Decimal) → IsQuoted text d → Ranged (Quoted d) (IsKept d) t → Reading text t
  word : is_word_text text ≡ true → t ≡ Word text → Reading text t
  sign : First is_sign_byte text → t ≡ sign_named text → Reading text t

more : (m n : ℕ) → m < n → n ≤ m → ⊥
more m n h k = omega arith

beyond_reading : (text : List ℕ) → IsBeyondRange text → Reading text Beyond
beyond_reading text (great_int n h g) = number (an_int n h (beyond (more greatest_int n g) refl))
beyond_reading text (great_long n h g) = number (a_long n h (beyond (more greatest_long n g) refl))
beyond_reading text (great_point d h g) = number (a_point d h (beyond g refl))
beyond_reading text (great_quoted d h g) = string d h (beyond g refl)

named : (text codes : List ℕ) (t : Token) → text ≡ codes → First is_sign_byte codes → t ≡ sign_named codes → Reading text t
named text codes t e f g = sign (subst (First is_sign_byte) (sym e) f) (g ∙ ap sign_named (sym e))

reading : (text : List ℕ) (t : Token) → IsToken text t → Reading text t
unfolding sign_named one_named two_named
reading text (Literal (int n)) h = number (an_int n h.0 (within h.1 refl))
reading text (Literal (long n)) h = number (a_long n h.0 (within h.1 refl))
reading text (Literal (point d)) h = number (a_point d h.0 (within h.1 refl))
reading text (Quoted d) h = string d h.0 (within h.1 refl)
reading text Beyond h = beyond_reading text h
reading text (Word w) h = word h.0 (ap Word h.1)
reading text (Operator Mul) h = named text (codes "*") (Operator Mul) h refl refl
reading text (Operator Div) h = named text (codes "/") (Operator Div) h refl refl
reading text (Operator Rem) h = named text (codes "%") (Operator Rem) h refl refl
reading text (Operator Plus) h = named text (codes "+") (Operator Plus) h refl refl
reading text (Operator Sub) h = named text (codes "-") (Operator Sub) h refl refl
reading text (Operator Less) h = named text (codes "<") (Operator Less) h refl refl
reading text (Operator LessEq) h = named text (codes "<=") (Operator LessEq) h refl refl
reading text (Operator More) h = named text (codes ">") (Operator More) h refl refl
reading text (Operator MoreEq) h = named text (codes ">=") (Operator MoreEq) h refl refl
reading text (Operator Same) h = named text (codes "==") (Operator Same) h refl refl
reading text (Operator Differs) h = named text (codes "!=") (Operator Differs) h refl refl
reading text (Operator And) h = named text (codes "&&") (Operator And) h refl refl
reading text (Operator Or) h = named text (codes "||") (Operator Or) h refl refl
reading text (Mark Equals) h = named text (codes "=") (Mark Equals) h refl refl
reading text (Mark Bang) h = named text (codes "!") (Mark Bang) h refl refl
reading text (Mark Question) h = named text (codes "?") (Mark Question) h refl refl
reading text (Mark Colon) h = named text (codes ":") (Mark Colon) h refl refl
reading text (Mark Dot) h = named text (codes ".") (Mark Dot) h refl refl
reading text (Mark Comma) h = named text (codes ",") (Mark Comma) h refl refl
reading text (Mark Semicolon) h = named text (codes ";") (Mark Semicolon) h refl refl
reading text (Mark Open) h = named text (codes "(") (Mark Open) h refl refl
reading text (Mark Close) h = named text (codes ")") (Mark Close) h refl refl
reading text (Mark OpenItem) h = named text (codes "[") (Mark OpenItem) h refl refl
reading text (Mark CloseItem) h = named text (codes "]") (Mark CloseItem) h refl refl
reading text (Mark OpenTable) h = named text (codes "{") (Mark OpenTable) h refl refl
reading text (Mark CloseTable) h = named text (codes "}") (Mark CloseTable) h refl refl
reading text Alien h = absurd h

-- the first byte of a reading's text
number_text : (text : List ℕ) (t : Token) → NumberReading text t → IsNumberText text
number_text text t (an_int n h r) = whole n h
number_text text t (a_long n h r) = whole_long n h
number_text text t (a_point d h r) = with_places d h

clash : (p q : ℕ → Bool) → ((b : ℕ) → p b ≡ true → q b ≡ true → ⊥) → (text : List ℕ) → First p text → First q text → ⊥
clash p q differ text h k = apart p q differ text text [] h (sym (append-nil text)) k

numeral_no_long : (text : List ℕ) (m n : ℕ) → IsNumeral text m → IsLong text n → ⊥
numeral_no_long text m n h k = differ 76 (digit_among k.0 76 [] (subst (AllDigits 10) k.1 h.digits)) refl

numeral_no_point : (text : List ℕ) (n : ℕ) (d : Decimal) → IsNumeral text n → IsPoint text d → ⊥
numeral_no_point text n d h k = differ 46 (digit_among k.front 46 k.places (subst (AllDigits 10) k.parts h.digits)) refl

long_no_point : (text : List ℕ) (n : ℕ) (d : Decimal) → IsLong text n → IsPoint text d → ⊥
long_no_point text n d h k = elim (either h.0 k.front (76 ∷ []) (46 ∷ k.places) (sym h.1 ∙ k.parts)) [
  | inl m ↦ one m.0 m.2
  | inr m ↦ other m.0 m.1 m.2
]
  where
    one : (more : List ℕ) → 76 ∷ [] ≡ more ++ (46 ∷ k.places) → ⊥
    one [] e = no_point [] k.places e
    one (x ∷ more) e = omega (arith, ap length e, length-append more (46 ∷ k.places))

    other : (more : List ℕ) → h.0 ≡ k.front ++ more → 46 ∷ k.places ≡ more ++ (76 ∷ []) → ⊥
    other [] e f = no_point [] k.places (sym f)
    other (x ∷ more) e f =
        let same = heads 46 x k.places (more ++ (76 ∷ [])) f in
        differ 46 (ap is_ascii_digit same ∙ digit_among k.front x more (subst (AllDigits 10) e h.2.digits)) refl

one_number_reading : (text : List ℕ) (t u : Token) → NumberReading text t → NumberReading text u → t ≡ u
one_number_reading text t u (an_int m h r) (an_int n k s) =
    let same : n ≡ m = k.value ∙ sym h.value in
    one_ranged (Literal (int m)) (m ≤ greatest_int) t u r (subst (λ x. Ranged (Literal (int x)) (x ≤ greatest_int) u) same s)
one_number_reading text t u (an_int m h r) (a_long n k s) = absurd (numeral_no_long text m n h k)
one_number_reading text t u (an_int m h r) (a_point d k s) = absurd (numeral_no_point text m d h k)
one_number_reading text t u (a_long m h r) (an_int n k s) = absurd (numeral_no_long text n m k h)
one_number_reading text t u (a_long m h r) (a_long n k s) =
    let digits : k.0 ≡ h.0 = append_cancel_right k.0 h.0 (codes "L") (sym k.1 ∙ h.1) in
    let same : n ≡ m = k.2.value ∙ ap (digits_value 10) digits ∙ sym h.2.value in
    one_ranged (Literal (long m)) (m ≤ greatest_long) t u r (subst (λ x. Ranged (Literal (long x)) (x ≤ greatest_long) u) same s)
one_number_reading text t u (a_long m h r) (a_point d k s) = absurd (long_no_point text m d h k)
one_number_reading text t u (a_point d h r) (an_int n k s) = absurd (numeral_no_point text n d k h)
one_number_reading text t u (a_point d h r) (a_long n k s) = absurd (long_no_point text n d k h)
one_number_reading text t u (a_point d h r) (a_point e k s) =
    let same = number_once text e d (point_spells text e k) (point_spells text d h) in
    one_ranged (Literal (point d)) (IsKept d) t u r (subst (λ x. Ranged (Literal (point x)) (IsKept x) u) same s)

inner_same : (a b : List ℕ) → quoted a ≡ quoted b → a ≡ b
inner_same a b e = append_cancel_right a b (codes "\"") (tails 34 34 (a ++ codes "\"") (b ++ codes "\"") e)

one_of : (text : List ℕ) (t u : Token) → Reading text t → Reading text u → t ≡ u
one_of text t u (number h) (number k) = one_number_reading text t u h k
one_of text t u (number h) (string d k s) = absurd (clash is_ascii_digit is_quote digit_no_quote text (number_first text (number_text text t h)) (string_first text d k))
one_of text t u (number h) (word k s) = absurd (clash is_ascii_digit is_letter digit_no_letter text (number_first text (number_text text t h)) (word_first text k))
one_of text t u (number h) (sign k s) = absurd (clash is_ascii_digit is_sign_byte digit_no_sign text (number_first text (number_text text t h)) k)
one_of text t u (string d h r) (number k) = absurd (clash is_ascii_digit is_quote digit_no_quote text (number_first text (number_text text u k)) (string_first text d h))
one_of text t u (string d h r) (string e k s) =
    let same = number_once h.0 e d (subst (λ x. Spells x e) (inner_same k.0 h.0 (sym k.1 ∙ h.1)) k.2) h.2 in
    one_ranged (Quoted d) (IsKept d) t u r (subst (λ x. Ranged (Quoted x) (IsKept x) u) same s)
one_of text t u (string d h r) (word k s) = absurd (clash is_letter is_quote letter_no_quote text (word_first text k) (string_first text d h))
one_of text t u (string d h r) (sign k s) = absurd (clash is_sign_byte is_quote sign_no_quote text k (string_first text d h))
one_of text t u (word h r) (number k) = absurd (clash is_ascii_digit is_letter digit_no_letter text (number_first text (number_text text u k)) (word_first text h))
one_of text t u (word h r) (string d k s) = absurd (clash is_letter is_quote letter_no_quote text (word_first text h) (string_first text d k))
one_of text t u (word h r) (word k s) = r ∙ sym s
one_of text t u (word h r) (sign k s) = absurd (clash is_letter is_sign_byte letter_no_sign text (word_first text h) k)
one_of text t u (sign h r) (number k) = absurd (clash is_ascii_digit is_sign_byte digit_no_sign text (number_first text (number_text text u k)) h)
one_of text t u (sign h r) (string d k s) = absurd (clash is_sign_byte is_quote sign_no_quote text h (string_first text d k))
one_of text t u (sign h r) (word k s) = absurd (clash is_letter is_sign_byte letter_no_sign text (word_first text k) h)
one_of text t u (sign h r) (sign k s) = r ∙ sym s

-- a text spells one token
pub one_token : (text : List ℕ) (t u : Token) → IsToken text t → IsToken text u → t ≡ u
one_token text t u h k = one_of text t u (reading text t h) (reading text u k)

-- ---- one first token

record SameFirst (text rest : List ℕ) (t : Token) (text' rest' : List ℕ) (t' : Token) : Type 0 where
  text_is : text ≡ text'
  rest_is : rest ≡ rest'
  token_is : t ≡ t'

turned : (text rest : List ℕ) (t : Token) (text' rest' : List ℕ) (t' : Token) → SameFirst text rest t text' rest' t' → SameFirst text' rest' t' text rest t
turned text rest t text' rest' t' s = record { text_is = sym s.text_is; rest_is = sym s.rest_is; token_is = sym s.token_is }

longest : (text rest : List ℕ) (t : Token) (text' rest' : List ℕ) (t' : Token) (d : List ℕ) → IsToken text t → TakesMost text rest → IsToken text' t' → text' ≡ text ++ d → rest ≡ d ++ rest' → SameFirst text rest t text' rest' t'
longest text rest t text' rest' t' d h m k e f =
    let none : d ≡ [] = m d rest' t' f (subst (λ x. IsToken x t') e k) in
    let same : text ≡ text' = sym (e ∙ ap (λ d. text ++ d) none ∙ append-nil text) in
    record { text_is = same; rest_is = f ∙ ap (λ d. d ++ rest') none; token_is = one_token text t t' h (subst (λ x. IsToken x t') (sym same) k) }

one_byte : (text rest text' rest' : List ℕ) → length text ≡ 1 → length text' ≡ 1 → text ++ rest ≡ text' ++ rest' → (text ≡ text') × (rest ≡ rest')
one_byte [] rest text' rest' h k e = absurd (omega arith)
one_byte (b ∷ c ∷ text) rest text' rest' h k e = absurd (omega arith)
one_byte (b ∷ []) rest [] rest' h k e = absurd (omega arith)
one_byte (b ∷ []) rest (c ∷ d ∷ text') rest' h k e = absurd (omega arith)
one_byte (b ∷ []) rest (c ∷ []) rest' h k e = (ap (λ x. x ∷ []) (heads b c rest rest' e), tails b c rest rest' e)

same_first : (text rest : List ℕ) (t : Token) (text' rest' : List ℕ) (t' : Token) → Kind text rest t → Kind text' rest' t' → text ++ rest ≡ text' ++ rest' → SameFirst text rest t text' rest' t'
same_first text rest t text' rest' t' (a_token h m) (a_token k n) e = elim (either text text' rest rest' e) [
  | inl d ↦ longest text rest t text' rest' t' d.0 h m k d.1 d.2
  | inr d ↦ turned text' rest' t' text rest t (longest text' rest' t' text rest t d.0 k n h d.1 d.2)
]
same_first text rest t text' rest' t' (a_token h m) (alien f one black none) e = absurd (none text rest t (sym e) h)
same_first text rest t text' rest' t' (alien f one black none) (a_token k n) e = absurd (none text' rest' t' e k)
same_first text rest t text' rest' t' (alien f one black none) (alien g one' black' none') e =
    let same = one_byte text rest text' rest' one one' e in
    record { text_is = same.0; rest_is = same.1; token_is = f ∙ sym g }

-- ---- white space

no_white : (text rest : List ℕ) (t : Token) → IsFirst text rest t → Stops is_white text × (0 < length text)
no_white text rest t h = by_kind (kind text rest t h)
  where
    black : (text : List ℕ) → length text ≡ 1 → list_all is_white text ≡ false → Stops is_white text
    black [] e f = absurd (omega arith)
    black (b ∷ c ∷ bs) e f = absurd (omega arith)
    black (b ∷ []) e f = grind (arith, nat_tests)

    by_kind : Kind text rest t → Stops is_white text × (0 < length text)
    by_kind (a_token h m) = (class_black text (class text t h), some_bytes text (class text t h))
    by_kind (alien f one white none) = (black text one white, omega arith)

stops_more : (text rest : List ℕ) → Stops is_white text → 0 < length text → Stops is_white (text ++ rest)
stops_more [] rest h some = absurd (omega arith)
stops_more (b ∷ bs) rest h some = h

some_more : (text rest : List ℕ) → 0 < length text → 0 < length (text ++ rest)
some_more text rest h = omega (arith, length-append text rest)

not_white : (b : ℕ) → is_white b ≡ true → is_white b ≡ false → ⊥
not_white b h k = absurd cc

not_all_white : (white x : List ℕ) → Stops is_white x → 0 < length x → list_all is_white (white ++ x) ≡ true → ⊥
not_all_white [] [] s some e = omega arith
not_all_white [] (b ∷ x) s some e = not_white b (and_parts (is_white b) (list_all is_white x) e).0 s
not_all_white (w ∷ white) x s some e = not_all_white white x s some (and_parts (is_white w) (list_all is_white (white ++ x)) e).1

same_white : (a x b y : List ℕ) → list_all is_white a ≡ true → list_all is_white b ≡ true → Stops is_white x → Stops is_white y → a ++ x ≡ b ++ y → (a ≡ b) × (x ≡ y)
same_white a x b y u v h k e =
    let one = front_within is_white a x b y h v e in
    let two = front_within is_white b y a x k u (sym e) in
    let lengths : length a ≡ length b = omega (arith, ap length one.1, ap length two.1, length-append b one.0, length-append a two.0) in
    let none : one.0 ≡ [] = nil_from_length one.0 (omega (arith, ap length one.1, length-append b one.0)) in
    let same : a ≡ b = one.1 ∙ ap (λ d. b ++ d) none ∙ append-nil b in
    (same, append_cancel_left b x y (ap (λ z. z ++ x) (sym same) ∙ e))

-- ---- the whole text

spot_is : (t u : Spot) → t.token ≡ u.token → t.at ≡ u.at → t ≡ u
spot_is t u e f = ap (λ x. let s : Spot = record { token = x; at = t.at } in s) e ∙ ap (λ n. let s : Spot = record { token = u.token; at = n } in s) f

-- a text has one list of tokens
pub one_reading : (at : ℕ) (bytes : List ℕ) (ts us : List Spot) → Tokens at bytes ts → Tokens at bytes us → ts ≡ us
one_reading at bytes [] [] h k = refl
one_reading at bytes [] (u ∷ us) h (white, text, rest, e, w, f, p, more) =
    let b = no_white text rest u.token f in
    absurd (not_all_white white (text ++ rest) (stops_more text rest b.0 b.1) (some_more text rest b.1) (ap (list_all is_white) (sym e) ∙ h))
one_reading at bytes (t ∷ ts) [] (white, text, rest, e, w, f, p, more) k =
    let b = no_white text rest t.token f in
    absurd (not_all_white white (text ++ rest) (stops_more text rest b.0 b.1) (some_more text rest b.1) (ap (list_all is_white) (sym e) ∙ k))
one_reading at bytes (t ∷ ts) (u ∷ us) (white, text, rest, e, w, f, p, more) (white', text', rest', e', w', f', p', more') =
    let b = no_white text rest t.token f in
    let b' = no_white text' rest' u.token f' in
    let ws = same_white white (text ++ rest) white' (text' ++ rest') w w' (stops_more text rest b.0 b.1) (stops_more text' rest' b'.0 b'.1) (sym e ∙ e') in
    let fs = same_first text rest t.token text' rest' u.token (kind text rest t.token f) (kind text' rest' u.token f') ws.1 in
    let place : at + length white + length text ≡ at + length white' + length text' = ap (λ w. at + length w + length text) ws.0 ∙ ap (λ x. at + length white' + length x) fs.text_is in
    let after : Tokens (at + length white' + length text') rest' ts = subst (λ r. Tokens (at + length white' + length text') r ts) fs.rest_is (subst (λ n. Tokens n rest ts) place more) in
    let head : t ≡ u = spot_is t u fs.token_is (p ∙ ap (λ w. at + length w) ws.0 ∙ sym p') in
    ap (λ x. x ∷ ts) head ∙ ap (λ x. u ∷ x) (one_reading (at + length white' + length text') rest' ts us after more')
