-- Each text has a list of tokens.
use Rattle.std.proofs.Common.{◌≡◌, ℕ, zero, suc, ◌+◌, ◌-◌, ◌<◌, ◌≤◌, ◌⊎◌, inl, inr, Bool, true, false, ◌&&◌, ◌||◌, List, [], ◌∷◌, ◌++◌, length, take, drop, refl, sym, ap, subst, ◌∙◌, length-append, unsigned_abs, arith}
use Rattle.std.specs.Prelude.{codes, ◌==◌}
use Rattle.std.specs.List.{list_any, prefix_len}
use Rattle.std.specs.Char.{is_ascii_digit}
use Rattle.std.specs.Str.Parse.{digits_value}
use Rattle.std.proofs.lemmas.Bool.{cases_Bool, cases_eq, cases_lt, eqb-true, and_parts}
use Rattle.std.proofs.lemmas.Bool.Decides.{nat_tests}
use Rattle.scaled_decimal.specs.Decimals.{Decimal, numerator_of, scale_of}
use Rattle.scaled_decimal.specs.Limits.{IsKept, limit, most_places}
use Rattle.scaled_decimal.specs.NumberTexts.{Spells}
use Rattle.scaled_decimal.proofs.Laws.{number_or_none}
use Rattle.pap_tree.specs.White.{is_white}
use Rattle.pap_tree.specs.Names.{is_letter, is_word}
use Rattle.pap_tree.specs.Words.{operator_text}
use Rattle.pap_tree.specs.declared.expression.Binary.{Binary}
use Rattle.pap_tree.specs.declared.expression.Binary.TheVariants.{Mul, Div, Rem, Plus, Sub, Less, LessEq, More, MoreEq, Same, Differs, And, Or}
use Rattle.pap_tree.specs.Tokens.{Equals, Bang, Question, Colon, Dot, Comma, Semicolon, Open, Close, OpenItem, CloseItem, OpenTable, CloseTable, Token, Literal, Quoted, Beyond, Word, Operator, Mark, Alien, int, long, point, greatest_int, greatest_long, Spot, IsNumeral, IsPoint, great_int, great_long, great_point, great_quoted, IsToken, Tokens}
use Rattle.expr_tokens.specs.private.Views.{Begins, First, Stops, IsLongest, NotFirst, IsNumeralSplit, IsAfterPlaces, NoPlaces, is_no_quote, is_sign_byte, IsNoPair}
use Rattle.expr_tokens.proofs.FrontLemmas.{longest_at}
use Rattle.expr_tokens.proofs.ClassLemmas.{is_single}
use Rattle.expr_tokens.proofs.WordLemmas.{word_begins}
use Rattle.expr_tokens.proofs.NumberLemmas.{heads, tails, zero_split, digits_split, int_begins, long_begins, point_begins, point_parts, point_text}
use Rattle.expr_tokens.proofs.StringLemmas.{quoted, string_begins, no_end, no_number, no_quote_left}
use Rattle.expr_tokens.proofs.SignLemmas.{pair_begins, a_token, single_begins, no_single}
use Rattle.expr_tokens.proofs.ReadLemmas.{less_after, token_more, skips}

-- a first token, whichever
record Started (bytes : List ℕ) : Type 0 where
  token : Token
  rest : List ℕ
  begins : Begins bytes token rest

-- ---- numbers

kept_or_not : (d : Decimal) → IsKept d ⊎ (IsKept d → ⊥)
kept_or_not d = elim (cases_lt limit (unsigned_abs (numerator_of d))) [
  | inl wide ↦ inr (λ k. let n = k.numerator in omega arith)
  | inr near ↦ elim (cases_lt most_places (scale_of d)) [
    | inl many ↦ inr (λ k. let s = k.scale in omega arith)
    | inr few ↦ inl (record { numerator = near; scale = few })
  ]
]

int_token : (text : List ℕ) (n : ℕ) → IsNumeral text n → (t : Token) × IsToken text t
int_token text n h = elim (cases_lt greatest_int n) [
  | inl great ↦ (Beyond, great_int n h great)
  | inr good ↦ (Literal (int n), (h, good))
]

long_token : (text : List ℕ) (n : ℕ) → IsNumeral text n → (t : Token) × IsToken (text ++ codes "L") t
long_token text n h = elim (cases_lt greatest_long n) [
  | inl great ↦ (Beyond, great_long n (text, refl, h) great)
  | inr good ↦ (Literal (long n), ((text, refl, h), good))
]

point_token : (text : List ℕ) (d : Decimal) → IsPoint text d → (t : Token) × IsToken text t
point_token text d h = elim (kept_or_not d) [
  | inl good ↦ (Literal (point d), (h, good))
  | inr great ↦ (Beyond, great_point d h great)
]

record NumeralSplit (bytes : List ℕ) : Type 0 where
  front : List ℕ
  rest : List ℕ
  split : IsNumeralSplit bytes front rest

numeral : (b : ℕ) (bs : List ℕ) → is_ascii_digit b ≡ true → NumeralSplit (b ∷ bs)
numeral b bs h = elim (cases_eq b 48) [
  | inl is_zero ↦ record { front = codes "0"; rest = bs; split = zero_split (b ∷ bs) (codes "0") bs bs (ap (λ c. c ∷ bs) is_zero) refl refl }
  | inr other ↦
      record {
        front = take (prefix_len is_ascii_digit (b ∷ bs)) (b ∷ bs);
        rest = drop (prefix_len is_ascii_digit (b ∷ bs)) (b ∷ bs);
        split = digits_split (b ∷ bs) _ _ h (λ rest e. other (heads b 48 bs rest e)) (longest_at is_ascii_digit (b ∷ bs));
      }
]

record Places (after : List ℕ) : Type 0 where
  rest : List ℕ
  split : IsAfterPlaces after rest

first_digit : (front rest : List ℕ) (c : ℕ) (cs : List ℕ) → is_ascii_digit c ≡ true → IsLongest is_ascii_digit (c ∷ cs) front rest → 0 < length front
first_digit (b ∷ front) rest c cs h s = omega arith
first_digit [] [] c cs h s = let e = s.parts in absurd (omega (arith, ap length e))
first_digit [] (b ∷ rest) c cs h s = absurd (differ b (ap is_ascii_digit (sym (heads c b cs rest s.parts)) ∙ h) s.stops)
  where
    differ : (b : ℕ) → is_ascii_digit b ≡ true → is_ascii_digit b ≡ false → ⊥
    differ b h k = absurd cc

places : (c : ℕ) (cs : List ℕ) → is_ascii_digit c ≡ true → Places (46 ∷ c ∷ cs)
places c cs h =
    let n = prefix_len is_ascii_digit (c ∷ cs) in
    let front = take n (c ∷ cs) in
    let rest = drop n (c ∷ cs) in
    let s : IsLongest is_ascii_digit (c ∷ cs) front rest = longest_at is_ascii_digit (c ∷ cs) in
    record {
      rest = rest;
      split = record {
        places = front;
        parts = ap (λ x. 46 ∷ x) s.parts;
        some = first_digit front rest c cs h s;
        digits = record { parts = refl; passes = s.passes; stops = s.stops };
      };
    }

-- what follows a numeral
data After (after : List ℕ) : Type 0 where
  an_L : (rest : List ℕ) → after ≡ 76 ∷ rest → After after
  a_point : Places after → After after
  neither : NotFirst 76 after → NoPlaces after → After after

no_places : (c : ℕ) (cs : List ℕ) → (c ≡ 46 → ⊥) → NoPlaces (c ∷ cs)
no_places c cs other fraction e = absurd (other (heads c 46 cs fraction e))

no_digit : (fraction : List ℕ) → Stops is_ascii_digit fraction → NoPlaces (46 ∷ fraction)
no_digit fraction s other e = subst (Stops is_ascii_digit) (tails 46 46 fraction other e) s

after_point : (fraction : List ℕ) → After (46 ∷ fraction)
after_point [] = neither (λ rest e. no_L rest e) (no_digit [] tt)
  where
    no_L : (rest : List ℕ) → 46 ∷ [] ≡ 76 ∷ rest → ⊥
    no_L rest e = let same = heads 46 76 [] rest e in omega arith
after_point (c ∷ cs) = elim (cases_Bool (is_ascii_digit c)) [
  | inl digit ↦ a_point (places c cs digit)
  | inr none ↦ neither (λ rest e. no_L rest e) (no_digit (c ∷ cs) none)
]
  where
    no_L : (rest : List ℕ) → 46 ∷ c ∷ cs ≡ 76 ∷ rest → ⊥
    no_L rest e = let same = heads 46 76 (c ∷ cs) rest e in omega arith

after_numeral : (after : List ℕ) → After after
after_numeral [] = neither (λ rest e. omega (arith, ap length e)) (λ fraction e. absurd (omega (arith, ap length e)))
after_numeral (b ∷ bs) = elim (cases_eq b 76) [
  | inl l ↦ an_L bs (ap (λ c. c ∷ bs) l)
  | inr no_l ↦ elim (cases_eq b 46) [
    | inl p ↦ subst (λ c. After (c ∷ bs)) (sym p) (after_point bs)
    | inr no_p ↦ neither (λ rest e. no_l (heads b 76 bs rest e)) (no_places b bs no_p)
  ]
]

number_by : (bytes : List ℕ) → First is_ascii_digit bytes → (s : NumeralSplit bytes) → After s.rest → Started bytes
number_by bytes f s (an_L rest e) =
    let t = long_token s.front (digits_value 10 s.front) s.split.numeral in
    record { token = t.0; rest = rest; begins = long_begins bytes s.front s.rest rest t.0 f s.split e t.1 }
number_by bytes f s (a_point p) =
    let text = take (length bytes - length p.rest) bytes in
    let parts = point_parts bytes s.front s.rest text p.rest s.split p.split refl in
    let d = point_text bytes s.front s.rest text p.rest s.split p.split parts in
    let t = point_token text d.0 d.1 in
    record { token = t.0; rest = p.rest; begins = point_begins bytes s.front s.rest text p.rest t.0 f s.split p.split parts t.1 }
number_by bytes f s (neither l p) =
    let t = int_token s.front (digits_value 10 s.front) s.split.numeral in
    record { token = t.0; rest = s.rest; begins = int_begins bytes s.front s.rest t.0 f s.split l p t.1 }

-- ---- strings

string_token : (inner : List ℕ) (d : Decimal) → Spells inner d → (t : Token) × IsToken (quoted inner) t
string_token inner d h = elim (kept_or_not d) [
  | inl good ↦ (Quoted d, ((inner, refl, h), good))
  | inr great ↦ (Beyond, great_quoted d (inner, refl, h) great)
]

string_by : (bs inner rest : List ℕ) → IsLongest is_no_quote bs inner rest → Started (34 ∷ bs)
string_by bs inner [] s = record { token = Alien; rest = bs; begins = no_end bs (no_quote_left bs inner [] s (λ rest e. omega (arith, ap length e))) }
string_by bs inner (c ∷ rest) s =
    let quote : c ≡ 34 = is_it c s.stops in
    let split : IsLongest is_no_quote bs inner (34 ∷ rest) = subst (λ c. IsLongest is_no_quote bs inner (c ∷ rest)) quote s in
    elim (number_or_none inner) [
      | inl d ↦ (let t = string_token inner d.0 d.1 in record { token = t.0; rest = rest; begins = string_begins bs inner rest t.0 split t.1 })
      | inr none ↦ record { token = Alien; rest = bs; begins = no_number bs inner rest split none }
    ]
  where
    is_it : (c : ℕ) → is_no_quote c ≡ false → c ≡ 34
    is_it c h = grind (arith, nat_tests)

-- ---- signs

abbrev AllSpelled : List (ℕ × Token) → Type 0
AllSpelled [] = Unit {0}
AllSpelled (p ∷ ps) = IsToken (p.0 ∷ []) p.1 × AllSpelled ps

among : ℕ → List (ℕ × Token) → Bool
among b ps = list_any (λ p. b == p.0) ps

look : (b : ℕ) (ps : List (ℕ × Token)) → AllSpelled ps → ((t : Token) × IsToken (b ∷ []) t) ⊎ (among b ps ≡ false)
unfolding among
look b [] h = inr refl
look b (p ∷ ps) h = elim (cases_Bool (b == p.0)) [
  | inl e ↦ inl (p.1, subst (λ c. IsToken (c ∷ []) p.1) (sym (eqb-true b p.0 e)) h.0)
  | inr e ↦ elim (look b ps h.1) [ inl t ↦ inl t | inr none ↦ inr (ap (λ x. x || list_any (λ p. b == p.0) ps) e ∙ none) ]
]

singles : List (ℕ × Token)
singles =
    (42, Operator Mul) ∷ (47, Operator Div) ∷ (37, Operator Rem) ∷ (43, Operator Plus) ∷ (45, Operator Sub) ∷ (60, Operator Less)
    ∷ (62, Operator More) ∷ (61, Mark Equals) ∷ (33, Mark Bang) ∷ (63, Mark Question) ∷ (58, Mark Colon) ∷ (46, Mark Dot)
    ∷ (44, Mark Comma) ∷ (59, Mark Semicolon) ∷ (40, Mark Open) ∷ (41, Mark Close) ∷ (91, Mark OpenItem) ∷ (93, Mark CloseItem)
    ∷ (123, Mark OpenTable) ∷ (125, Mark CloseTable) ∷ []

all_spelled : AllSpelled singles
unfolding singles
all_spelled = (refl, (refl, (refl, (refl, (refl, (refl, (refl, (refl, (refl, (refl, (refl, (refl, (refl, (refl, (refl, (refl, (refl, (refl, (refl, (refl, tt))))))))))))))))))))

not_single : (b : ℕ) → among b singles ≡ false → is_single b ≡ false
unfolding singles among
not_single b h = grind (arith, nat_tests)

abbrev AllPaired : List (ℕ × ℕ × Binary) → Type 0
AllPaired [] = Unit {0}
AllPaired (p ∷ ps) = (operator_text p.2 ≡ p.0 ∷ p.1 ∷ []) × AllPaired ps

both_among : ℕ → ℕ → List (ℕ × ℕ × Binary) → Bool
both_among a b ps = list_any (λ p. (a == p.0) && (b == p.1)) ps

look_both : (a b : ℕ) (ps : List (ℕ × ℕ × Binary)) → AllPaired ps → ((o : Binary) × (operator_text o ≡ a ∷ b ∷ [])) ⊎ (both_among a b ps ≡ false)
unfolding both_among
look_both a b [] h = inr refl
look_both a b (p ∷ ps) h = elim (cases_Bool ((a == p.0) && (b == p.1))) [
  | inl e ↦
      (let same = and_parts (a == p.0) (b == p.1) e in
      inl (p.2, h.0 ∙ ap (λ c. c ∷ p.1 ∷ []) (sym (eqb-true a p.0 same.0)) ∙ ap (λ c. a ∷ c ∷ []) (sym (eqb-true b p.1 same.1))))
  | inr e ↦ elim (look_both a b ps h.1) [ inl o ↦ inl o | inr none ↦ inr (ap (λ x. x || list_any (λ p. (a == p.0) && (b == p.1)) ps) e ∙ none) ]
]

doubles : List (ℕ × ℕ × Binary)
doubles = (60, 61, LessEq) ∷ (62, 61, MoreEq) ∷ (61, 61, Same) ∷ (33, 61, Differs) ∷ (38, 38, And) ∷ (124, 124, Or) ∷ []

all_paired : AllPaired doubles
unfolding doubles
all_paired = (refl, (refl, (refl, (refl, (refl, (refl, tt))))))

double : (x y a b : ℕ) → x ∷ y ∷ [] ≡ a ∷ b ∷ [] → both_among x y doubles ≡ true → both_among a b doubles ≡ true
double x y a b e h =
    ap (λ c. both_among c b doubles) (sym (heads x a (y ∷ []) (b ∷ []) e))
    ∙ ap (λ c. both_among x c doubles) (sym (heads y b [] [] (tails x a (y ∷ []) (b ∷ []) e))) ∙ h

alone : (x a b : ℕ) → x ∷ [] ≡ a ∷ b ∷ [] → ⊥
alone x a b e = omega (arith, ap length e)

is_double : (o : Binary) (a b : ℕ) → operator_text o ≡ a ∷ b ∷ [] → both_among a b doubles ≡ true
unfolding both_among doubles
is_double Mul a b e = absurd (alone 42 a b e)
is_double Div a b e = absurd (alone 47 a b e)
is_double Rem a b e = absurd (alone 37 a b e)
is_double Plus a b e = absurd (alone 43 a b e)
is_double Sub a b e = absurd (alone 45 a b e)
is_double Less a b e = absurd (alone 60 a b e)
is_double LessEq a b e = double 60 61 a b e refl
is_double More a b e = absurd (alone 62 a b e)
is_double MoreEq a b e = double 62 61 a b e refl
is_double Same a b e = double 61 61 a b e refl
is_double Differs a b e = double 33 61 a b e refl
is_double And a b e = double 38 38 a b e refl
is_double Or a b e = double 124 124 a b e refl

pair_or_none : (a b : ℕ) → ((o : Binary) × (operator_text o ≡ a ∷ b ∷ [])) ⊎ IsNoPair a b
pair_or_none a b = elim (look_both a b doubles all_paired) [
  | inl o ↦ inl o
  | inr none ↦ inr (λ o e. differ (both_among a b doubles) (is_double o a b e) none)
]
  where
    differ : (t : Bool) → t ≡ true → t ≡ false → ⊥
    differ t h k = absurd cc

sign_by : (a : ℕ) (bytes : List ℕ) → is_sign_byte a ≡ true → ((b : ℕ) (rest : List ℕ) → bytes ≡ b ∷ rest → IsNoPair a b) → Started (a ∷ bytes)
sign_by a bytes s none = elim (look a singles all_spelled) [
  | inl t ↦ record { token = t.0; rest = bytes; begins = a_token a bytes t.0 s none t.1 }
  | inr alone ↦ record { token = Alien; rest = bytes; begins = single_begins a bytes Alien s none (no_single a s (not_single a alone)) }
]

sign_start : (a : ℕ) (bytes : List ℕ) → is_sign_byte a ≡ true → Started (a ∷ bytes)
sign_start a [] s = sign_by a [] s (λ b rest e. absurd (omega (arith, ap length e)))
sign_start a (b ∷ bytes) s = elim (pair_or_none a b) [
  | inl o ↦ record { token = Operator o.0; rest = bytes; begins = pair_begins a b bytes o.0 s o.1 }
  | inr none ↦ sign_by a (b ∷ bytes) s (λ c rest e. subst (IsNoPair a) (heads b c bytes rest e) none)
]

-- ---- any text

start : (b : ℕ) (bs : List ℕ) → is_white b ≡ false → Started (b ∷ bs)
start b bs black = elim (cases_Bool (is_ascii_digit b)) [
  | inl digit ↦ (let s = numeral b bs digit in number_by (b ∷ bs) digit s (after_numeral s.rest))
  | inr no_digit ↦ elim (cases_Bool (is_letter b)) [
    | inl letter ↦
        (let n = prefix_len is_word (take 32 (b ∷ bs)) in
        let w = word_begins (b ∷ bs) (take n (b ∷ bs)) (drop n (b ∷ bs)) n letter refl refl refl in
        record { token = Word (take n (b ∷ bs)); rest = drop n (b ∷ bs); begins = w.1 })
    | inr no_letter ↦ elim (cases_eq b 34) [
      | inl quote ↦ subst (λ c. Started (c ∷ bs)) (sym quote) (string_by bs (take (prefix_len is_no_quote bs) bs) (drop (prefix_len is_no_quote bs) bs) (longest_at is_no_quote bs))
      | inr no_quote ↦ sign_start b bs (a_sign b black no_digit no_letter no_quote)
    ]
  ]
]
  where
    a_sign : (b : ℕ) → is_white b ≡ false → is_ascii_digit b ≡ false → is_letter b ≡ false → (b ≡ 34 → ⊥) → is_sign_byte b ≡ true
    a_sign b black no_digit no_letter no_quote = grind (arith, nat_tests)

-- the tokens after white space, where shorter texts are read
after_white : (fuel at : ℕ) (bytes white rest : List ℕ) → length bytes ≤ suc fuel → IsLongest is_white bytes white rest → ((at : ℕ) (bytes : List ℕ) → length bytes ≤ fuel → (ts : List Spot) × Tokens at bytes ts) → (ts : List Spot) × Tokens at bytes ts
after_white fuel at bytes white [] le s next = ([], skips bytes white [] at (at + length white) [] s refl refl)
after_white fuel at bytes white (b ∷ rest) le s next =
    let first = start b rest s.stops in
    let less = less_after (b ∷ rest) first.rest first.token first.begins in
    let place = at + length white in
    let end = place + length first.begins.text in
    let more = next end first.rest (omega (arith, ap length s.parts, length-append white (b ∷ rest))) in
    let spot : Spot = record { token = first.token; at = place } in
    (spot ∷ more.0, skips bytes white (b ∷ rest) at place (spot ∷ more.0) s refl (token_more (b ∷ rest) first.rest spot place end more.0 first.begins refl refl more.1))

read_within : (fuel at : ℕ) (bytes : List ℕ) → length bytes ≤ fuel → (ts : List Spot) × Tokens at bytes ts
read_within zero at [] le = ([], refl)
read_within zero at (b ∷ bs) le = absurd (omega arith)
read_within (suc fuel) at bytes le =
    let n = prefix_len is_white bytes in
    after_white fuel at bytes (take n bytes) (drop n bytes) le (longest_at is_white bytes) (λ at bytes le. read_within fuel at bytes le)

-- a text has a list of tokens
pub always_read : (at : ℕ) (bytes : List ℕ) → (ts : List Spot) × Tokens at bytes ts
always_read at bytes = read_within (length bytes) at bytes (omega arith)
