-- The number in quotation marks that stands first.
use Rattle.std.proofs.Common.{◌≡◌, ℕ, ◌<◌, ◌≤◌, Bool, true, false, List, [], ◌∷◌, ◌++◌, length, refl, sym, ap, subst, ◌∙◌, append_assoc, length-append, arith}
use Rattle.std.specs.Prelude.{codes}
use Rattle.std.specs.List.{list_all}
use Rattle.std.specs.Char.{digit_value}
use Rattle.std.specs.Str.Parse.{AllDigits}
use Rattle.std.proofs.lemmas.Bool.{and_parts, and_from}
use Rattle.std.proofs.lemmas.Bool.Decides.{nat_tests}
use Rattle.std.proofs.lemmas.List.{append-nil}
use Rattle.std.proofs.lemmas.List.Folds.{list_all-append}
use Rattle.scaled_decimal.specs.Decimals.{Decimal}
use Rattle.scaled_decimal.specs.NumberTexts.{sign_text, point_text, Spells, SpellsNone}
use Rattle.pap_tree.specs.Tokens.{Token, Alien, IsToken, SpellsNoToken}
use Rattle.expr_tokens.specs.private.Views.{Begins, IsLongest, NotFirst, is_no_quote}
use Rattle.expr_tokens.proofs.FrontLemmas.{within}
use Rattle.expr_tokens.proofs.ClassLemmas.{digit_is, class, only_string}
use Rattle.expr_tokens.proofs.LongestLemmas.{begins}

-- ---- a number has no quotation mark

digit_no_quote : (b : ℕ) → digit_value b < 10 → is_no_quote b ≡ true
digit_no_quote b h = let d = digit_is b h in grind (arith, nat_tests)

digits_no_quote : (bs : List ℕ) → AllDigits 10 bs → list_all is_no_quote bs ≡ true
digits_no_quote [] h = refl
digits_no_quote (b ∷ bs) h = and_from (is_no_quote b) (list_all is_no_quote bs) (digit_no_quote b h.0) (digits_no_quote bs h.1)

point_no_quote : (places : List ℕ) → AllDigits 10 places → list_all is_no_quote (point_text places) ≡ true
point_no_quote [] h = refl
point_no_quote (b ∷ bs) h = digits_no_quote (b ∷ bs) h

sign_no_quote : (negative : Bool) → list_all is_no_quote (sign_text negative) ≡ true
sign_no_quote true = refl
sign_no_quote false = refl

joined : (xs ys : List ℕ) → list_all is_no_quote xs ≡ true → list_all is_no_quote ys ≡ true → list_all is_no_quote (xs ++ ys) ≡ true
joined xs ys h k = list_all-append is_no_quote xs ys ∙ and_from (list_all is_no_quote xs) (list_all is_no_quote ys) h k

pub number_no_quote : (text : List ℕ) (d : Decimal) → Spells text d → list_all is_no_quote text ≡ true
number_no_quote text d h =
    let f = h.form in
    ap (list_all is_no_quote) f.parts
    ∙ joined (sign_text h.negative) (h.whole ++ point_text h.places) (sign_no_quote h.negative)
    (joined h.whole (point_text h.places) (digits_no_quote h.whole f.whole_digits) (point_no_quote h.places f.place_digits))

quote_stands : (b : ℕ) (rest : List ℕ) → is_no_quote b ≡ false → NotFirst 34 (b ∷ rest) → ⊥
quote_stands b rest h none = let same : b ≡ 34 = grind (arith, nat_tests) in none rest (ap (λ c. c ∷ rest) same)

-- ---- what stands between quotation marks

abbrev pub quoted : List ℕ → List ℕ
quoted inner = codes "\"" ++ (inner ++ codes "\"")

quoted_parts : (bytes inner rest : List ℕ) → bytes ≡ inner ++ (34 ∷ rest) → 34 ∷ bytes ≡ quoted inner ++ rest
quoted_parts bytes inner rest e = ap (λ x. 34 ∷ x) (e ∙ sym (append_assoc inner (codes "\"") rest))

tails : (a b : ℕ) (xs ys : List ℕ) → a ∷ xs ≡ b ∷ ys → xs ≡ ys
tails a b xs ys e = cc

quoted_back : (bytes u left inner : List ℕ) → 34 ∷ bytes ≡ u ++ left → u ≡ quoted inner → bytes ≡ inner ++ (34 ∷ left)
quoted_back bytes u left inner e f = tails 34 34 bytes (inner ++ (34 ∷ left)) (e ∙ ap (λ x. x ++ left) f ∙ ap (λ x. 34 ∷ x) (append_assoc inner (codes "\"") left))

string_longest : (bytes inner rest u left : List ℕ) (t : Token) → IsLongest is_no_quote bytes inner (34 ∷ rest) → 34 ∷ bytes ≡ u ++ left → IsToken u t → length rest ≤ length left
string_longest bytes inner rest u left t s e h =
    let q = only_string (34 ∷ bytes) u left refl e (class u t h) in
    let number = q.1 in
    let back = quoted_back bytes u left number.0 e number.1 in
    let m = within is_no_quote inner (34 ∷ rest) number.0 (34 ∷ left) refl (number_no_quote number.0 q.0 number.2) (sym s.parts ∙ back) in
    omega (arith, ap length m.2, length-append m.0 (34 ∷ rest))

pub string_begins : (bytes inner rest : List ℕ) (t : Token) → IsLongest is_no_quote bytes inner (34 ∷ rest) → IsToken (quoted inner) t → Begins (34 ∷ bytes) t rest
string_begins bytes inner rest t s h =
    begins (34 ∷ bytes) (quoted inner) rest t (quoted_parts bytes inner rest s.parts) h (λ u left t e k. string_longest bytes inner rest u left t s e k)

-- ---- a quotation mark at which no token begins

alone : (bytes : List ℕ) → SpellsNoToken (34 ∷ bytes) → Begins (34 ∷ bytes) Alien bytes
alone bytes none = record { text = 34 ∷ []; parts = refl; first = (refl, refl, none) }

quote_among : (xs ys : List ℕ) → list_all is_no_quote (xs ++ (34 ∷ ys)) ≡ true → ⊥
quote_among xs ys h =
    let all = list_all-append is_no_quote xs (34 ∷ ys) in
    let both = and_parts (list_all is_no_quote xs) false (sym all ∙ h) in
    absurd cc

pub no_end : (bytes : List ℕ) → list_all is_no_quote bytes ≡ true → Begins (34 ∷ bytes) Alien bytes
no_end bytes h = alone bytes (λ u left t e k.
    let q = only_string (34 ∷ bytes) u left refl e (class u t k) in
    let number = q.1 in
    quote_among number.0 left (ap (list_all is_no_quote) (sym (quoted_back bytes u left number.0 e number.1)) ∙ h))

-- the longest front without a quotation mark is all, where none follows it
pub no_quote_left : (bytes inner rest : List ℕ) → IsLongest is_no_quote bytes inner rest → NotFirst 34 rest → list_all is_no_quote bytes ≡ true
no_quote_left bytes inner [] s none = ap (list_all is_no_quote) (s.parts ∙ append-nil inner) ∙ s.passes
no_quote_left bytes inner (b ∷ rest) s none = absurd (quote_stands b rest s.stops none)

same_inner : (inner rest number left more : List ℕ) → inner ≡ number ++ more → 34 ∷ left ≡ more ++ (34 ∷ rest) → list_all is_no_quote inner ≡ true → number ≡ inner
same_inner inner rest number left [] e f h = sym (e ∙ append-nil number)
same_inner inner rest number left (c ∷ more) e f h =
    let same : 34 ≡ c = cc in
    absurd (quote_among number more (ap (λ c. list_all is_no_quote (number ++ (c ∷ more))) same ∙ ap (list_all is_no_quote) (sym e) ∙ h))

pub no_number : (bytes inner rest : List ℕ) → IsLongest is_no_quote bytes inner (34 ∷ rest) → SpellsNone inner → Begins (34 ∷ bytes) Alien bytes
no_number bytes inner rest s none = alone bytes (λ u left t e k.
    let q = only_string (34 ∷ bytes) u left refl e (class u t k) in
    let number = q.1 in
    let back = quoted_back bytes u left number.0 e number.1 in
    let m = within is_no_quote inner (34 ∷ rest) number.0 (34 ∷ left) refl (number_no_quote number.0 q.0 number.2) (sym s.parts ∙ back) in
    let same = same_inner inner rest number.0 left m.0 m.1 m.2 s.passes in
    none q.0 (subst (λ x. Spells x q.0) same number.2))
