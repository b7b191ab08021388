-- Texts of expressions that are put together: their tokens, and how they begin.
use Rattle.std.proofs.Common.{◌≡◌, ℕ, Bool, true, false, List, [], ◌∷◌, ◌++◌, refl, sym, ap, ap₂, subst, ◌∙◌, append_assoc}
use Rattle.std.specs.Prelude.{codes, not, ◌||◌, ◌==◌}
use Rattle.std.proofs.lemmas.List.{append-nil}
use Rattle.std.proofs.lemmas.Bool.Decides.{Decides-eqb}
use Rattle.pap_tree.specs.Words.{operator_text}
use Rattle.pap_tree.specs.declared.expression.Binary.{Binary}
use Rattle.pap_tree.specs.declared.expression.Binary.TheVariants as binaries
use Rattle.pap_tree.specs.Spelling as bytes
use Rattle.pap_tree.specs.Tokens as tokens
use Rattle.pap_tree.specs.Tokens.{Token, Word, Operator, Mark, Open, Close, is_word_text, IsToken}
use Rattle.pap_tree.specs.Texts.{begins_point}
use Rattle.expr_tokens.specs.private.Views.{NotFirst, is_sign_byte, IsNoPair}
use Rattle.expr_tokens.proofs.Laws.{pair_begins, a_token}
use Rattle.expr_grammar.specs.SpelledTokens as spelled
use Rattle.expr_grammar.specs.SpelledTokens.{begins_signed}
use Rattle.expr_grammar.proofs.Lexing.{Lex, Any, Cut, one, join, word_lex}

-- ---- signs

abbrev begins_pair : ℕ → Bool
begins_pair a = (a == 60) || ((a == 62) || ((a == 61) || ((a == 33) || ((a == 38) || (a == 124)))))

heads : (a b : ℕ) (xs ys : List ℕ) → a ∷ xs ≡ b ∷ ys → a ≡ b
heads a b xs ys e = cc

tails : (a b : ℕ) (xs ys : List ℕ) → a ∷ xs ≡ b ∷ ys → xs ≡ ys
tails a b xs ys e = cc

no_more : (a b c : ℕ) → a ∷ [] ≡ b ∷ c ∷ [] → ⊥
no_more a b c e = cc

pair_start : (o : Binary) (a b : ℕ) → operator_text o ≡ a ∷ b ∷ [] → begins_pair a ≡ true
pair_start binaries.LessEq a b e = ap begins_pair (sym (heads 60 a (61 ∷ []) (b ∷ []) e))
pair_start binaries.MoreEq a b e = ap begins_pair (sym (heads 62 a (61 ∷ []) (b ∷ []) e))
pair_start binaries.Same a b e = ap begins_pair (sym (heads 61 a (61 ∷ []) (b ∷ []) e))
pair_start binaries.Differs a b e = ap begins_pair (sym (heads 33 a (61 ∷ []) (b ∷ []) e))
pair_start binaries.And a b e = ap begins_pair (sym (heads 38 a (38 ∷ []) (b ∷ []) e))
pair_start binaries.Or a b e = ap begins_pair (sym (heads 124 a (124 ∷ []) (b ∷ []) e))
pair_start o a b e = absurd (no_more _ a b e)

no_pair : (a : ℕ) → begins_pair a ≡ false → (b : ℕ) → IsNoPair a b
no_pair a none b o e = let h : true ≡ false = sym (pair_start o a b e) ∙ none in absurd cc

-- a sign of one byte that begins no operator of two
pub mark_lex : (a : ℕ) (t : Token) → is_sign_byte a ≡ true → begins_pair a ≡ false → IsToken (a ∷ []) t → Lex Any (a ∷ []) (t ∷ [])
mark_lex a t s none h = one Any (a ∷ []) t (λ rest c. a_token a rest t s (λ b more e. no_pair a none b) h)

pub sign_then : (D : List ℕ → Type 0) (a : ℕ) (t : Token) (b : List ℕ) (us : List Token) → Lex Any (a ∷ []) (t ∷ []) → Lex D b us → Lex D (a ∷ b) (t ∷ us)
sign_then D a t b us h k = join Any D (a ∷ []) b (t ∷ []) us h k (λ rest d. tt)

pub word_then : (D : List ℕ → Type 0) (w b : List ℕ) (us : List Token) → is_word_text w ≡ true → ((rest : List ℕ) → D rest → Cut (b ++ rest)) → Lex D b us → Lex D (w ++ b) (Word w ∷ us)
word_then D w b us h follow k = join Cut D w b (Word w ∷ []) us (word_lex w h) k follow

-- the signs that stand alone
pub point_sign : Lex Any (46 ∷ []) (Mark tokens.Dot ∷ [])
point_sign = mark_lex 46 (Mark tokens.Dot) refl refl refl

pub open_sign : Lex Any (40 ∷ []) (Mark Open ∷ [])
open_sign = mark_lex 40 (Mark Open) refl refl refl

pub close_sign : Lex Any (41 ∷ []) (Mark Close ∷ [])
close_sign = mark_lex 41 (Mark Close) refl refl refl

pub comma_sign : Lex Any (44 ∷ []) (Mark tokens.Comma ∷ [])
comma_sign = mark_lex 44 (Mark tokens.Comma) refl refl refl

pub open_item : Lex Any (91 ∷ []) (Mark tokens.OpenItem ∷ [])
open_item = mark_lex 91 (Mark tokens.OpenItem) refl refl refl

pub close_item : Lex Any (93 ∷ []) (Mark tokens.CloseItem ∷ [])
close_item = mark_lex 93 (Mark tokens.CloseItem) refl refl refl

pub question_sign : Lex Any (63 ∷ []) (Mark tokens.Question ∷ [])
question_sign = mark_lex 63 (Mark tokens.Question) refl refl refl

pub colon_sign : Lex Any (58 ∷ []) (Mark tokens.Colon ∷ [])
colon_sign = mark_lex 58 (Mark tokens.Colon) refl refl refl

pub minus_sign : Lex Any (45 ∷ []) (Operator binaries.Sub ∷ [])
minus_sign = mark_lex 45 (Operator binaries.Sub) refl refl refl

-- before what doesn't begin with =
abbrev pub NoEquals : List ℕ → Type 0
NoEquals rest = NotFirst 61 rest

abbrev with_equals : ℕ → ℕ → Bool
with_equals a b = not (a == 33) || (b == 61)

pair_equals : (o : Binary) (a b : ℕ) → operator_text o ≡ a ∷ b ∷ [] → with_equals a b ≡ true
pair_equals binaries.LessEq a b e = ap₂ with_equals (sym (heads 60 a (61 ∷ []) (b ∷ []) e)) (sym (heads 61 b [] [] (tails 60 a (61 ∷ []) (b ∷ []) e)))
pair_equals binaries.MoreEq a b e = ap₂ with_equals (sym (heads 62 a (61 ∷ []) (b ∷ []) e)) (sym (heads 61 b [] [] (tails 62 a (61 ∷ []) (b ∷ []) e)))
pair_equals binaries.Same a b e = ap₂ with_equals (sym (heads 61 a (61 ∷ []) (b ∷ []) e)) (sym (heads 61 b [] [] (tails 61 a (61 ∷ []) (b ∷ []) e)))
pair_equals binaries.Differs a b e = ap₂ with_equals (sym (heads 33 a (61 ∷ []) (b ∷ []) e)) (sym (heads 61 b [] [] (tails 33 a (61 ∷ []) (b ∷ []) e)))
pair_equals binaries.And a b e = ap₂ with_equals (sym (heads 38 a (38 ∷ []) (b ∷ []) e)) (sym (heads 38 b [] [] (tails 38 a (38 ∷ []) (b ∷ []) e)))
pair_equals binaries.Or a b e = ap₂ with_equals (sym (heads 124 a (124 ∷ []) (b ∷ []) e)) (sym (heads 124 b [] [] (tails 124 a (124 ∷ []) (b ∷ []) e)))
pair_equals o a b e = absurd (no_more _ a b e)

bang_pair : (o : Binary) (b : ℕ) → operator_text o ≡ 33 ∷ b ∷ [] → b ≡ 61
bang_pair o b e = (Decides-eqb b 61).0 (pair_equals o 33 b e)

pub bang_sign : Lex NoEquals (33 ∷ []) (Mark tokens.Bang ∷ [])
bang_sign = one NoEquals (33 ∷ []) (Mark tokens.Bang) (λ rest c. a_token 33 rest (Mark tokens.Bang) refl (λ b more e o f. c more (e ∙ ap (λ b. b ∷ more) (bang_pair o b f))) refl)

-- an operator stands before a space
abbrev pub Spaced : List ℕ → Type 0
Spaced rest = (more : List ℕ) × (rest ≡ 32 ∷ more)

abbrev is_second : ℕ → ℕ → Bool
is_second a b = (b == 61) || ((b == 38) || (b == 124))

pair_second : (o : Binary) (a b : ℕ) → operator_text o ≡ a ∷ b ∷ [] → is_second a b ≡ true
pair_second binaries.LessEq a b e = ap₂ is_second (sym (heads 60 a (61 ∷ []) (b ∷ []) e)) (sym (heads 61 b [] [] (tails 60 a (61 ∷ []) (b ∷ []) e)))
pair_second binaries.MoreEq a b e = ap₂ is_second (sym (heads 62 a (61 ∷ []) (b ∷ []) e)) (sym (heads 61 b [] [] (tails 62 a (61 ∷ []) (b ∷ []) e)))
pair_second binaries.Same a b e = ap₂ is_second (sym (heads 61 a (61 ∷ []) (b ∷ []) e)) (sym (heads 61 b [] [] (tails 61 a (61 ∷ []) (b ∷ []) e)))
pair_second binaries.Differs a b e = ap₂ is_second (sym (heads 33 a (61 ∷ []) (b ∷ []) e)) (sym (heads 61 b [] [] (tails 33 a (61 ∷ []) (b ∷ []) e)))
pair_second binaries.And a b e = ap₂ is_second (sym (heads 38 a (38 ∷ []) (b ∷ []) e)) (sym (heads 38 b [] [] (tails 38 a (38 ∷ []) (b ∷ []) e)))
pair_second binaries.Or a b e = ap₂ is_second (sym (heads 124 a (124 ∷ []) (b ∷ []) e)) (sym (heads 124 b [] [] (tails 124 a (124 ∷ []) (b ∷ []) e)))
pair_second o a b e = absurd (no_more _ a b e)

no_space : (o : Binary) (a : ℕ) → operator_text o ≡ a ∷ 32 ∷ [] → ⊥
no_space o a e = let f : false ≡ true = pair_second o a 32 e in absurd cc

single : (a : ℕ) (o : Binary) → is_sign_byte a ≡ true → a ∷ [] ≡ operator_text o → Lex Spaced (a ∷ []) (Operator o ∷ [])
single a o s h = one Spaced (a ∷ []) (Operator o) (λ rest c. a_token a rest (Operator o) s
    (λ b more e p f. no_space p a (f ∙ ap (λ b. a ∷ b ∷ []) (heads b 32 more c.0 (sym e ∙ c.1)))) h)

double : (a b : ℕ) (o : Binary) → is_sign_byte a ≡ true → operator_text o ≡ a ∷ b ∷ [] → Lex Spaced (a ∷ b ∷ []) (Operator o ∷ [])
double a b o s h = one Spaced (a ∷ b ∷ []) (Operator o) (λ rest c. pair_begins a b rest o s h)

pub operator_lex : (o : Binary) → Lex Spaced (operator_text o) (Operator o ∷ [])
operator_lex binaries.Mul = single 42 binaries.Mul refl refl
operator_lex binaries.Div = single 47 binaries.Div refl refl
operator_lex binaries.Rem = single 37 binaries.Rem refl refl
operator_lex binaries.Plus = single 43 binaries.Plus refl refl
operator_lex binaries.Sub = single 45 binaries.Sub refl refl
operator_lex binaries.Less = single 60 binaries.Less refl refl
operator_lex binaries.More = single 62 binaries.More refl refl
operator_lex binaries.LessEq = double 60 61 binaries.LessEq refl refl
operator_lex binaries.MoreEq = double 62 61 binaries.MoreEq refl refl
operator_lex binaries.Same = double 61 61 binaries.Same refl refl
operator_lex binaries.Differs = double 33 61 binaries.Differs refl refl
operator_lex binaries.And = double 38 38 binaries.And refl refl
operator_lex binaries.Or = double 124 124 binaries.Or refl refl

-- ---- texts of expressions

-- The text has the tokens before each cut, and both begin alike.
pub record Good (a : List ℕ) (ts : List Token) : Type 0 where
  pub lex : Lex Cut a ts
  pub number : (rest : List ℕ) (us : List Token) → Cut rest → bytes.begins_number (a ++ rest) ≡ begins_signed (ts ++ us)
  pub point : (rest : List ℕ) (us : List Token) → Cut rest → bytes.begins_signed_point (a ++ rest) ≡ begins_point (ts ++ us)
  pub start : (rest : List ℕ) → NoEquals (a ++ rest)

-- what follows a good text, up to a cut
pub more_good : (a b : List ℕ) (ts us : List Token) → Good a ts → ((rest : List ℕ) → Cut rest → Cut (b ++ rest)) → Lex Cut b us → Good (a ++ b) (ts ++ us)
more_good a b ts us g follow h = record {
  lex = join Cut Cut a b ts us g.lex h follow;
  number = λ rest vs c. ap bytes.begins_number (append_assoc a b rest) ∙ g.number (b ++ rest) (us ++ vs) (follow rest c) ∙ ap begins_signed (sym (append_assoc ts us vs));
  point = λ rest vs c. ap bytes.begins_signed_point (append_assoc a b rest) ∙ g.point (b ++ rest) (us ++ vs) (follow rest c) ∙ ap begins_point (sym (append_assoc ts us vs));
  start = λ rest. subst NoEquals (sym (append_assoc a b rest)) (g.start (b ++ rest));
}

pub in_brackets : (a : List ℕ) (ts : List Token) → Good a ts → Good (codes "(" ++ (a ++ codes ")")) (Mark Open ∷ (ts ++ (Mark Close ∷ [])))
in_brackets a ts g = record {
  lex = sign_then Cut 40 (Mark Open) (a ++ codes ")") (ts ++ (Mark Close ∷ [])) open_sign (join Cut Cut a (codes ")") ts (Mark Close ∷ []) g.lex (λ w r us e c h. close_sign w r us e tt h) (λ rest c. refl));
  number = λ rest us c. refl;
  point = λ rest us c. refl;
  start = λ rest more e. absurd cc;
}

pub boxed : (c : Bool) (a : List ℕ) (ts : List Token) → Good a ts → Good (bytes.bracketed c a) (spelled.bracketed_tokens c ts)
boxed true a ts g = in_brackets a ts g
boxed false a ts g = g

-- how it begins with nothing behind it
pub number_alone : (a : List ℕ) (ts : List Token) → Good a ts → bytes.begins_number a ≡ begins_signed ts
number_alone a ts g = ap bytes.begins_number (sym (append-nil a)) ∙ g.number [] [] refl ∙ ap begins_signed (append-nil ts)

pub point_alone : (a : List ℕ) (ts : List Token) → Good a ts → bytes.begins_signed_point a ≡ begins_point ts
point_alone a ts g = ap bytes.begins_signed_point (sym (append-nil a)) ∙ g.point [] [] refl ∙ ap begins_point (append-nil ts)
