-- The tokens of a text that is put together from texts.
use Rattle.std.proofs.Common.{◌≡◌, ℕ, ◌+◌, ◌⊎◌, inl, inr, Bool, true, false, List, [], ◌∷◌, ◌++◌, length, length-append, refl, sym, ap, subst, ◌∙◌, append_assoc, arith}
use Rattle.std.specs.Prelude.{⊤, nat_le, nat_lt, ◌||◌, ◌&&◌, ◌==◌, if◌then◌else◌}
use Rattle.std.specs.List.{list_all}
use Rattle.std.specs.Char.{is_ascii_digit}
use Rattle.std.proofs.lemmas.Bool.{and_from, and_parts}
use Rattle.std.proofs.lemmas.Bool.Decides.{nat_tests, Decides-eqb}
use Rattle.std.proofs.lemmas.List.Folds.{list_all-append}
use Rattle.pap_tree.specs.White.{is_white}
use Rattle.pap_tree.specs.Names.{is_letter, is_word}
use Rattle.pap_tree.specs.Tokens.{Token, Word, is_word_text, Spot, plain, Tokens, IsToken}
use Rattle.expr_tokens.specs.private.Views.{Begins, First, Stops, NotFirst, NoPlaces, is_sign_byte, IsNoPair}
use Rattle.expr_tokens.proofs.Laws.{within, begins, class, only_word, word_first, a_token}

-- from each place on the bytes have these tokens
abbrev pub Lexes : List ℕ → List Token → Type 0
Lexes bytes ts = (at : ℕ) → (spots : List Spot) × Tokens at bytes spots × (plain spots ≡ ts)

pub lex_end : Lexes [] []
lex_end at = ([], refl, refl)

first_at : (white bytes rest : List ℕ) (t : Token) (us : List Token) → list_all is_white white ≡ true → Begins bytes t rest → Lexes rest us → Lexes (white ++ bytes) (t ∷ us)
first_at white bytes rest t us w b h at =
    let more = h (at + length white + length b.text) in (
      record { token = t; at = at + length white } ∷ more.0,
      (white, b.text, rest, ap (λ z. white ++ z) b.parts, w, b.first, refl, more.1),
      ap (λ z. t ∷ z) more.2,
    )

-- The text has these tokens before each rest that the condition lets follow.
abbrev pub Lex : (List ℕ → Type 0) → List ℕ → List Token → Type 0
Lex C a ts = (white rest : List ℕ) (us : List Token) → list_all is_white white ≡ true → C rest → Lexes rest us → Lexes (white ++ (a ++ rest)) (ts ++ us)

-- anything may follow
abbrev pub Any : List ℕ → Type 0
Any rest = ⊤

pub one : (C : List ℕ → Type 0) (a : List ℕ) (t : Token) → ((rest : List ℕ) → C rest → Begins (a ++ rest) t rest) → Lex C a (t ∷ [])
one C a t h white rest us w c more = first_at white (a ++ rest) rest t us w (h rest c) more

pub join : (C D : List ℕ → Type 0) (a b : List ℕ) (ts us : List Token) → Lex C a ts → Lex D b us → ((rest : List ℕ) → D rest → C (b ++ rest)) → Lex D (a ++ b) (ts ++ us)
join C D a b ts us h k follow white rest vs w d more =
    subst (λ z. Lexes (white ++ z) ((ts ++ us) ++ vs)) (sym (append_assoc a b rest))
    (subst (λ z. Lexes (white ++ (a ++ (b ++ rest))) z) (sym (append_assoc ts us vs))
    (h white (b ++ rest) (us ++ vs) w (follow rest d) (k [] rest vs refl d more)))

all_white : (v w : List ℕ) → list_all is_white v ≡ true → list_all is_white w ≡ true → list_all is_white (v ++ w) ≡ true
all_white v w h k = list_all-append is_white v w ∙ and_from (list_all is_white v) (list_all is_white w) h k

-- white space before a text
pub lead : (C : List ℕ → Type 0) (space a : List ℕ) (ts : List Token) → list_all is_white space ≡ true → Lex C a ts → Lex C (space ++ a) ts
lead C space a ts s h white rest us w c more =
    subst (λ z. Lexes z (ts ++ us)) (append_assoc white space (a ++ rest) ∙ ap (λ z. white ++ z) (sym (append_assoc space a rest)))
    (h (white ++ space) rest us (all_white white space w s) c more)

-- ---- where a word or a number ends

-- a space or one of ( ) , [ ]
abbrev pub is_closing : ℕ → Bool
is_closing b = (b == 32) || ((b == 40) || ((b == 41) || ((b == 44) || ((b == 91) || (b == 93)))))

abbrev pub begins_letter : List ℕ → Bool
begins_letter [] = false
begins_letter (b ∷ bs) = is_letter b

-- nothing, or one of these, or a point and a letter
abbrev pub is_cut : List ℕ → Bool
is_cut [] = true
is_cut (b ∷ bs) = if b == 46 then begins_letter bs else is_closing b

abbrev pub Cut : List ℕ → Type 0
Cut rest = is_cut rest ≡ true

either_of : (a b : Bool) → (a || b) ≡ true → (a ≡ true) ⊎ (b ≡ true)
either_of true b e = inl refl
either_of false b e = inr e

is_byte : (P : ℕ → Type 0) (b n : ℕ) → P n → (b == n) ≡ true → P b
is_byte P b n p e = subst P (sym ((Decides-eqb b n).0 e)) p

closing_cases : (P : ℕ → Type 0) → P 32 → P 40 → P 41 → P 44 → P 91 → P 93 → (b : ℕ) → is_closing b ≡ true → P b
closing_cases P p q r s t u b h = elim (either_of (b == 32) _ h) as (λ z. P b) [
  | inl e ↦ is_byte P b 32 p e
  | inr f ↦ elim (either_of (b == 40) _ f) as (λ z. P b) [
    | inl e ↦ is_byte P b 40 q e
    | inr f ↦ elim (either_of (b == 41) _ f) as (λ z. P b) [
      | inl e ↦ is_byte P b 41 r e
      | inr f ↦ elim (either_of (b == 44) _ f) as (λ z. P b) [
        | inl e ↦ is_byte P b 44 s e
        | inr f ↦ elim (either_of (b == 91) (b == 93) f) as (λ z. P b) [
          | inl e ↦ is_byte P b 91 t e
          | inr e ↦ is_byte P b 93 u e
        ]
      ]
    ]
  ]
]

by_point : (P : ℕ → List ℕ → Type 0) (b : ℕ) (bs : List ℕ) (c : Bool) → (b == 46) ≡ c → (if c then begins_letter bs else is_closing b) ≡ true
    → (begins_letter bs ≡ true → P 46 bs) → (is_closing b ≡ true → P b bs) → P b bs
by_point P b bs true e h f g = subst (λ b. P b bs) (sym ((Decides-eqb b 46).0 e)) (f h)
by_point P b bs false e h f g = g h

cut_cases : (P : ℕ → List ℕ → Type 0) (b : ℕ) (bs : List ℕ) → is_cut (b ∷ bs) ≡ true → (begins_letter bs ≡ true → P 46 bs) → (is_closing b ≡ true → P b bs) → P b bs
cut_cases P b bs h f g = by_point P b bs (b == 46) refl h f g

pub cut_no_word : (rest : List ℕ) → Cut rest → Stops is_word rest
cut_no_word [] h = tt
cut_no_word (b ∷ bs) h = cut_cases (λ b bs. is_word b ≡ false) b bs h (λ e. refl) (λ e. closing_cases (λ b. is_word b ≡ false) refl refl refl refl refl refl b e)

pub cut_no_digit : (rest : List ℕ) → Cut rest → Stops is_ascii_digit rest
cut_no_digit [] h = tt
cut_no_digit (b ∷ bs) h = cut_cases (λ b bs. is_ascii_digit b ≡ false) b bs h (λ e. refl) (λ e. closing_cases (λ b. is_ascii_digit b ≡ false) refl refl refl refl refl refl b e)

heads : (a b : ℕ) (xs ys : List ℕ) → a ∷ xs ≡ b ∷ ys → a ≡ b
heads a b xs ys e = cc

tails : (a b : ℕ) (xs ys : List ℕ) → a ∷ xs ≡ b ∷ ys → xs ≡ ys
tails a b xs ys e = cc

differ : (p : ℕ → Bool) (a b : ℕ) → p a ≡ true → p b ≡ false → a ≡ b → ⊥
differ p a b e f g = let h : true ≡ false = sym e ∙ ap p g ∙ f in absurd cc

pub cut_no_long : (rest : List ℕ) → Cut rest → NotFirst 76 rest
cut_no_long [] h more e = cc
cut_no_long (b ∷ bs) h more e = differ is_word 76 b refl (cut_no_word (b ∷ bs) h) (sym (heads b 76 bs more e))

letter_first : (bs : List ℕ) → begins_letter bs ≡ true → Stops is_ascii_digit bs
letter_first [] h = absurd cc
letter_first (b ∷ bs) h = grind (arith, nat_tests)

pub cut_no_places : (rest : List ℕ) → Cut rest → NoPlaces rest
cut_no_places [] h more e = absurd cc
cut_no_places (b ∷ bs) h more e =
    let s : Stops is_ascii_digit bs = cut_cases (λ b bs. (b ≡ 46 → Stops is_ascii_digit bs)) b bs h (λ f g. letter_first bs f)
    (λ f g. absurd (differ is_closing b 46 f refl g)) (heads b 46 bs more e) in
    subst (λ bs. Stops is_ascii_digit bs) (tails b 46 bs more e) s

-- ---- words and signs

first_more : (p : ℕ → Bool) (a rest : List ℕ) → First p a → First p (a ++ rest)
first_more p [] rest h = absurd h
first_more p (b ∷ bs) rest h = h

letter_word : (b : ℕ) → is_letter b ≡ true → is_word b ≡ true
letter_word b e = ap (λ c. c || (nat_le 48 b && nat_le b 57)) e

all_word : (u : List ℕ) → is_word_text u ≡ true → list_all is_word u ≡ true
all_word [] h = absurd cc
all_word (b ∷ bs) h =
    let p = and_parts (is_letter b && list_all is_word bs) (nat_lt (length bs) 32) h in
    let q = and_parts (is_letter b) (list_all is_word bs) p.0 in
    and_from (is_word b) (list_all is_word bs) (letter_word b q.0) q.1

pub word_lex : (w : List ℕ) → is_word_text w ≡ true → Lex Cut w (Word w ∷ [])
word_lex w h = one Cut w (Word w) (λ rest c.
    let f = first_more is_letter w rest (word_first w h) in
    begins (w ++ rest) w rest (Word w) refl (h, refl) (λ u left t e k.
    let v = all_word u (only_word (w ++ rest) u left f e (class u t k)) in
    let m = within is_word w rest u left (cut_no_word rest c) v e in
    let l = ap length m.2 in
    let n = length-append m.0 rest in
    omega (arith, l, n)))

-- a sign that makes no operator with any byte
pub sign_lex : (a : ℕ) (t : Token) → is_sign_byte a ≡ true → ((b : ℕ) → IsNoPair a b) → IsToken (a ∷ []) t → Lex Any (a ∷ []) (t ∷ [])
sign_lex a t s none h = one Any (a ∷ []) t (λ rest c. a_token a rest t s (λ b more e. none b) h)

-- an operator before a space
abbrev pub Spaced : List ℕ → Type 0
Spaced rest = (more : List ℕ) × (rest ≡ 32 ∷ more)
