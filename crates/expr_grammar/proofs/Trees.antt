-- The spelled trees.
use Rattle.std.proofs.Common.{◌≡◌, ℕ, ◌+◌, ◌≤◌, Bool, true, false, List, [], ◌∷◌, ◌++◌, refl, sym, ap, subst, ◌∙◌, append_assoc, arith}
use Rattle.std.specs.Prelude.{codes, nat_lt, ◌||◌, ◌&&◌, ◌==◌}
use Rattle.std.specs.Char.{is_ascii_digit}
use Rattle.std.proofs.lemmas.List.{append-nil}
use Rattle.scaled_decimal.specs.Limits.{most_places}
use Rattle.scaled_decimal.specs.PlainTexts.{whole_text}
use Rattle.scaled_decimal.specs.declared.rounding.Mode.{Mode}
use Rattle.scaled_decimal.specs.declared.rounding.Mode.TheVariants as modes
use Rattle.pap_tree.specs.Words.{level_of_operator, operator_text, call_word, round_word}
use Rattle.pap_tree.specs.declared.expression.Call.{Call}
use Rattle.pap_tree.specs.declared.expression.Call.TheVariants as calls
use Rattle.pap_tree.specs.declared.expression.Unary.TheVariants.{Minus, Not, Negate, Abs}
use Rattle.pap_tree.specs.declared.expression.Binary.{Binary}
use Rattle.pap_tree.specs.declared.expression.Binary.TheVariants.{Sub}
use Rattle.pap_tree.specs.Term.{One, unary, value_of, value_of_scaled, new_big, set_scale, Two, operator, method, divide, Term, leaf, item, one, two, choice}
use Rattle.pap_tree.specs.Spelling as bytes
use Rattle.pap_tree.specs.Spelling.{binding_level, spelling, spelled_one, spelled_two, scale_and_mode}
use Rattle.pap_tree.specs.Tokens as tokens
use Rattle.pap_tree.specs.Tokens.{Token, Literal, Word, Operator, Mark, Question, Colon, Dot, Comma, Open, Close, OpenItem, CloseItem, int, greatest_int, is_word_text}
use Rattle.pap_tree.specs.Texts.{begins_point}
use Rattle.expr_grammar.specs.SpelledTokens as spelled
use Rattle.expr_grammar.specs.SpelledTokens.{begins_signed, rounding_tokens, method_tokens, one_tokens, two_tokens, spelled_tokens}
use Rattle.pap_tree.specs.Scales.{OneKeepsScale, TwoKeepsScale}
use Rattle.expr_grammar.proofs.Lexing.{Lex, Cut, join, lead}
use Rattle.expr_grammar.proofs.Numerals.{int_lex}
use Rattle.expr_grammar.proofs.Pieces.{Good, NoEquals, Spaced, sign_then, word_then, point_sign, open_sign, close_sign, comma_sign, open_item, close_item, question_sign, colon_sign, minus_sign, bang_sign, operator_lex, more_good, in_brackets, boxed, number_alone, point_alone}
use Rattle.expr_grammar.proofs.Held.{IsHeld}
use Rattle.expr_grammar.proofs.Leaves.{leaf_good, word_good, name_word, other_start}

-- ---- pieces

close_lex : Lex Cut (codes ")") (Mark Close ∷ [])
close_lex w r us e c h = close_sign w r us e tt h

-- a good text, and then more up to a cut
then_lex : (a b : List ℕ) (ts us : List Token) → Good a ts → ((rest : List ℕ) → Cut rest → Cut (b ++ rest)) → Lex Cut b us → Lex Cut (a ++ b) (ts ++ us)
then_lex a b ts us g follow h = join Cut Cut a b ts us g.lex h follow

closed_lex : (a : List ℕ) (ts : List Token) → Good a ts → Lex Cut (a ++ codes ")") (ts ++ (Mark Close ∷ []))
closed_lex a ts g = then_lex a (codes ")") ts (Mark Close ∷ []) g (λ rest c. refl) close_lex

mode_text : (m : Mode) → is_word_text (round_word m) ≡ true
mode_text modes.Down = refl
mode_text modes.Up = refl
mode_text modes.Floor = refl
mode_text modes.Ceiling = refl
mode_text modes.HalfUp = refl
mode_text modes.HalfDown = refl
mode_text modes.HalfEven = refl

mode_lex : (m : Mode) → Lex Cut (codes "BigDecimal." ++ (round_word m ++ codes ")")) (Word (codes "BigDecimal") ∷ Mark Dot ∷ Word (round_word m) ∷ Mark Close ∷ [])
mode_lex m =
    word_then Cut (codes "BigDecimal") (46 ∷ (round_word m ++ codes ")")) (Mark Dot ∷ Word (round_word m) ∷ Mark Close ∷ []) refl (λ rest c. refl)
    (sign_then Cut 46 (Mark Dot) (round_word m ++ codes ")") (Word (round_word m) ∷ Mark Close ∷ []) point_sign
    (word_then Cut (round_word m) (codes ")") (Mark Close ∷ []) (mode_text m) (λ rest c. refl) close_lex))

small : (s : ℕ) → s ≤ most_places → s ≤ greatest_int
small s h = omega (arith, h)

-- a scale, a mode and the closing bracket
rounding_lex : (s : ℕ) (m : Mode) → s ≤ most_places → Lex Cut (scale_and_mode s m ++ codes ")") (rounding_tokens s m)
rounding_lex s m h =
    subst (λ z. Lex Cut z (rounding_tokens s m)) (sym (append_assoc (whole_text s) (codes ", BigDecimal." ++ round_word m) (codes ")")))
    (join Cut Cut (whole_text s) (codes ", BigDecimal." ++ (round_word m ++ codes ")")) (Literal (int s) ∷ []) (Mark Comma ∷ Word (codes "BigDecimal") ∷ Mark Dot ∷ Word (round_word m) ∷ Mark Close ∷ []) (int_lex s (small s h))
    (sign_then Cut 44 (Mark Comma) (32 ∷ (codes "BigDecimal." ++ (round_word m ++ codes ")"))) (Word (codes "BigDecimal") ∷ Mark Dot ∷ Word (round_word m) ∷ Mark Close ∷ []) comma_sign (lead Cut (32 ∷ []) (codes "BigDecimal." ++ (round_word m ++ codes ")")) (Word (codes "BigDecimal") ∷ Mark Dot ∷ Word (round_word m) ∷ Mark Close ∷ []) refl (mode_lex m))) (λ rest c. refl))

-- a method's word and what stands in its brackets
method_lex : (w b : List ℕ) (us : List Token) → is_word_text w ≡ true → Lex Cut b us → Lex Cut (46 ∷ (w ++ (40 ∷ b))) (method_tokens w us)
method_lex w b us h k =
    sign_then Cut 46 (Mark Dot) (w ++ (40 ∷ b)) (Word w ∷ Mark Open ∷ us) point_sign (word_then Cut w (40 ∷ b) (Mark Open ∷ us) h (λ rest c. refl) (sign_then Cut 40 (Mark Open) b us open_sign k))

value_lex : (b : List ℕ) (us : List Token) → Lex Cut b us → Lex Cut (codes "BigDecimal.valueOf(" ++ b) (spelled.value_of_tokens us)
value_lex b us k =
    word_then Cut (codes "BigDecimal") (46 ∷ (codes "valueOf(" ++ b)) (Mark Dot ∷ Word (codes "valueOf") ∷ Mark Open ∷ us) refl (λ rest c. refl)
    (sign_then Cut 46 (Mark Dot) (codes "valueOf(" ++ b) (Word (codes "valueOf") ∷ Mark Open ∷ us) point_sign
    (word_then Cut (codes "valueOf") (40 ∷ b) (Mark Open ∷ us) refl (λ rest c. refl) (sign_then Cut 40 (Mark Open) b us open_sign k)))

at_level_good : (wanted own : ℕ) (a : List ℕ) (ts : List Token) → Good a ts → Good (bytes.at_level wanted own a) (spelled.tokens_at_level wanted own ts)
at_level_good wanted own a ts g = boxed (nat_lt own wanted) a ts g

-- ---- operations on one operand

value_good : (b : List ℕ) (us : List Token) → Lex Cut b us → Good (codes "BigDecimal.valueOf(" ++ b) (spelled.value_of_tokens us)
value_good b us k = record { lex = value_lex b us k; number = λ rest us c. refl; point = λ rest us c. refl; start = λ rest. other_start 66 _ refl }

scaled_lex : (a : List ℕ) (ts : List Token) (s : ℕ) → s ≤ most_places → Good a ts → Lex Cut (a ++ (codes ", " ++ (whole_text s ++ codes ")"))) (ts ++ (Mark Comma ∷ Literal (int s) ∷ Mark Close ∷ []))
scaled_lex a ts s h g =
    then_lex a (codes ", " ++ (whole_text s ++ codes ")")) ts _ g (λ rest c. refl)
    (sign_then Cut 44 (Mark Comma) (32 ∷ (whole_text s ++ codes ")")) (Literal (int s) ∷ Mark Close ∷ []) comma_sign (lead Cut (32 ∷ []) (whole_text s ++ codes ")") (Literal (int s) ∷ Mark Close ∷ []) refl
    (join Cut Cut (whole_text s) (codes ")") (Literal (int s) ∷ []) (Mark Close ∷ []) (int_lex s (small s h)) close_lex (λ rest c. refl))))

-- a text that begins with no number has no point in front
no_number : (text : List ℕ) → bytes.begins_number text ≡ false → bytes.begins_point text ≡ false
no_number [] h = refl
no_number (b ∷ bs) h = ap (λ c. c && (bytes.begins_fraction bs || bytes.begins_point bs)) (neither (is_ascii_digit b) (b == 45) h)
  where
    neither : (a b : Bool) → (a || b) ≡ false → a ≡ false
    neither true b e = e
    neither false b e = refl

no_literal : (ts : List Token) → begins_signed ts ≡ false → begins_point (Operator Sub ∷ ts) ≡ false
no_literal [] h = refl
no_literal (Literal n ∷ ts) h = absurd cc
no_literal (t ∷ ts) h = refl

-- a - before an operand that begins with no number and no -
minus_text : (a : List ℕ) (ts : List Token) → Good a ts → ((us : List Token) → begins_signed (ts ++ us) ≡ false) → Good (codes "-" ++ a) (Operator Sub ∷ ts)
minus_text a ts g e = record {
  lex = sign_then Cut 45 (Operator Sub) a ts minus_sign g.lex;
  number = λ rest us c. refl;
  point = λ rest us c. no_number (a ++ rest) (g.number rest us c ∙ e us) ∙ sym (no_literal (ts ++ us) (e us));
  start = λ rest. other_start 45 _ refl;
}

-- or in brackets
minus_boxed : (n : ℕ) (a : List ℕ) (ts : List Token) (c : Bool) → (nat_lt n 7 || begins_signed ts) ≡ c → Good a ts → Good (codes "-" ++ bytes.bracketed c a) (Operator Sub ∷ spelled.bracketed_tokens c ts)
minus_boxed n a ts true e g = minus_text (bytes.bracketed true a) (spelled.bracketed_tokens true ts) (in_brackets a ts g) (λ us. refl)
minus_boxed n a ts false e g = minus_text a ts g (signed_more ts g (second (nat_lt n 7) (begins_signed ts) e))
  where
    second : (a b : Bool) → (a || b) ≡ false → b ≡ false
    second true b e = absurd cc
    second false b e = e

    signed_more : (ts : List Token) → Good a ts → begins_signed ts ≡ false → (us : List Token) → begins_signed (ts ++ us) ≡ false
    signed_more ts g e us = sym (g.number [] us refl) ∙ g.number [] [] refl ∙ ap begins_signed (append-nil ts) ∙ e

new_lex : (b : List ℕ) (us : List Token) → Lex Cut b us → Lex Cut (codes "new BigDecimal(" ++ b) (Word (codes "new") ∷ Word (codes "BigDecimal") ∷ Mark Open ∷ us)
new_lex b us k =
    word_then Cut (codes "new") (32 ∷ (codes "BigDecimal(" ++ b)) (Word (codes "BigDecimal") ∷ Mark Open ∷ us) refl (λ rest c. refl)
    (lead Cut (32 ∷ []) (codes "BigDecimal(" ++ b) (Word (codes "BigDecimal") ∷ Mark Open ∷ us) refl
    (word_then Cut (codes "BigDecimal") (40 ∷ b) (Mark Open ∷ us) refl (λ rest c. refl) (sign_then Cut 40 (Mark Open) b us open_sign k)))

new_good : (b : List ℕ) (us : List Token) → Lex Cut b us → Good (codes "new BigDecimal(" ++ b) (Word (codes "new") ∷ Word (codes "BigDecimal") ∷ Mark Open ∷ us)
new_good b us k = record { lex = new_lex b us k; number = λ rest us c. refl; point = λ rest us c. refl; start = λ rest. other_start 110 _ refl }

minus_good : (n : ℕ) (a : List ℕ) (ts : List Token) → Good a ts → Good (spelled_one (unary Minus) n a) (one_tokens (unary Minus) n ts)
minus_good n a ts g =
    subst (λ c. Good (codes "-" ++ bytes.bracketed (nat_lt n 7 || c) a) (one_tokens (unary Minus) n ts)) (sym (number_alone a ts g))
    (minus_boxed n a ts (nat_lt n 7 || begins_signed ts) refl g)

bang_good : (a : List ℕ) (ts : List Token) → Good a ts → Good (codes "!" ++ a) (Mark tokens.Bang ∷ ts)
bang_good a ts g = record {
  lex = join NoEquals Cut (33 ∷ []) a (Mark tokens.Bang ∷ []) ts bang_sign g.lex (λ rest c. g.start rest);
  number = λ rest us c. refl;
  point = λ rest us c. refl;
  start = λ rest. other_start 33 _ refl;
}

one_good : (op : One) (n : ℕ) (a : List ℕ) (ts : List Token) → OneKeepsScale op → Good a ts → Good (spelled_one op n a) (one_tokens op n ts)
one_good (unary Minus) n a ts h g = minus_good n a ts g
one_good (unary Not) n a ts h g = bang_good (bytes.at_level 7 n a) (spelled.tokens_at_level 7 n ts) (at_level_good 7 n a ts g)
one_good (unary Negate) n a ts h g =
    more_good (bytes.at_level 8 n a) (codes ".negate()") (spelled.tokens_at_level 8 n ts) _ (at_level_good 8 n a ts g) (λ rest c. refl) (method_lex (codes "negate") (codes ")") (Mark Close ∷ []) refl close_lex)
one_good (unary Abs) n a ts h g =
    more_good (bytes.at_level 8 n a) (codes ".abs()") (spelled.tokens_at_level 8 n ts) _ (at_level_good 8 n a ts g) (λ rest c. refl) (method_lex (codes "abs") (codes ")") (Mark Close ∷ []) refl close_lex)
one_good value_of n a ts h g = value_good (a ++ codes ")") (ts ++ (Mark Close ∷ [])) (closed_lex a ts g)
one_good (value_of_scaled s) n a ts h g = value_good (a ++ (codes ", " ++ (whole_text s ++ codes ")"))) _ (scaled_lex a ts s h g)
one_good new_big n a ts h g =
    let e = point_alone a ts g in
    subst (λ c. Good (codes "new BigDecimal(" ++ (bytes.bracketed c a ++ codes ")")) (one_tokens new_big n ts)) (sym e)
    (new_good _ _ (closed_lex (bytes.bracketed (begins_point ts) a) (spelled.bracketed_tokens (begins_point ts) ts) (boxed (begins_point ts) a ts g)))
one_good (set_scale s m) n a ts h g =
    more_good (bytes.at_level 8 n a) (codes ".setScale(" ++ (scale_and_mode s m ++ codes ")")) (spelled.tokens_at_level 8 n ts) _ (at_level_good 8 n a ts g) (λ rest c. refl)
    (method_lex (codes "setScale") (scale_and_mode s m ++ codes ")") (rounding_tokens s m) refl (rounding_lex s m h))

-- ---- operations on two

call_text : (c : Call) → is_word_text (call_word c) ≡ true
call_text calls.Add = refl
call_text calls.Subtract = refl
call_text calls.Multiply = refl
call_text calls.DivideExact = refl
call_text calls.CompareTo = refl
call_text calls.Min = refl
call_text calls.Max = refl

call_cut : (c : Call) (b rest : List ℕ) → Cut ((46 ∷ (call_word c ++ b)) ++ rest)
call_cut calls.Add b rest = refl
call_cut calls.Subtract b rest = refl
call_cut calls.Multiply b rest = refl
call_cut calls.DivideExact b rest = refl
call_cut calls.CompareTo b rest = refl
call_cut calls.Min b rest = refl
call_cut calls.Max b rest = refl

-- an operator between two spaces, and what follows it
operator_then : (o : Binary) (b : List ℕ) (us : List Token) → Lex Cut b us → Lex Cut (codes " " ++ (operator_text o ++ (codes " " ++ b))) (Operator o ∷ us)
operator_then o b us k =
    lead Cut (32 ∷ []) (operator_text o ++ (codes " " ++ b)) (Operator o ∷ us) refl
    (join Spaced Cut (operator_text o) (32 ∷ b) (Operator o ∷ []) us (operator_lex o) (lead Cut (32 ∷ []) b us refl k) (λ rest c. (b ++ rest, refl)))

two_good : (op : Two) (m n : ℕ) (a b : List ℕ) (ts us : List Token) → TwoKeepsScale op → Good a ts → Good b us → Good (spelled_two op m a n b) (two_tokens op m ts n us)
two_good (operator o) m n a b ts us h g k =
    more_good (bytes.at_level (level_of_operator o) m a) _ (spelled.tokens_at_level (level_of_operator o) m ts) _ (at_level_good (level_of_operator o) m a ts g) (λ rest c. refl)
    (operator_then o _ _ (at_level_good (level_of_operator o + 1) n b us k).lex)
two_good (method c) m n a b ts us h g k =
    more_good (bytes.at_level 8 m a) (codes "." ++ (call_word c ++ bytes.bracketed true b)) (spelled.tokens_at_level 8 m ts) _ (at_level_good 8 m a ts g) (λ rest e. call_cut c (bytes.bracketed true b) rest)
    (method_lex (call_word c) (b ++ codes ")") (us ++ (Mark Close ∷ [])) (call_text c) (closed_lex b us k))
two_good (divide s r) m n a b ts us h g k =
    more_good (bytes.at_level 8 m a) (codes ".divide(" ++ (b ++ (codes ", " ++ (scale_and_mode s r ++ codes ")")))) (spelled.tokens_at_level 8 m ts) _ (at_level_good 8 m a ts g) (λ rest c. refl)
    (method_lex (codes "divide") (b ++ (codes ", " ++ (scale_and_mode s r ++ codes ")"))) _ refl
    (then_lex b (codes ", " ++ (scale_and_mode s r ++ codes ")")) us _ k (λ rest c. refl)
    (sign_then Cut 44 (Mark Comma) (32 ∷ (scale_and_mode s r ++ codes ")")) (rounding_tokens s r) comma_sign (lead Cut (32 ∷ []) (scale_and_mode s r ++ codes ")") (rounding_tokens s r) refl (rounding_lex s r h)))))

-- ---- all trees

item_good : (x a : List ℕ) (ts : List Token) → Good x (Word x ∷ []) → Good a ts → Good (x ++ (codes "[" ++ (a ++ codes "]"))) (Word x ∷ Mark OpenItem ∷ (ts ++ (Mark CloseItem ∷ [])))
item_good x a ts w g =
    more_good x (codes "[" ++ (a ++ codes "]")) (Word x ∷ []) _ w (λ rest c. refl)
    (sign_then Cut 91 (Mark OpenItem) (a ++ codes "]") _ open_item (then_lex a (codes "]") ts (Mark CloseItem ∷ []) g (λ rest c. refl) (λ w r us e c h. close_item w r us e tt h)))

choice_good : (n : ℕ) (c a b : List ℕ) (ts us vs : List Token) → Good c ts → Good a us → Good b vs
    → Good (bytes.at_level 1 n c ++ (codes " ? " ++ (a ++ (codes " : " ++ b)))) (spelled.tokens_at_level 1 n ts ++ (Mark Question ∷ (us ++ (Mark Colon ∷ vs))))
choice_good n c a b ts us vs f g k =
    more_good (bytes.at_level 1 n c) (codes " ? " ++ (a ++ (codes " : " ++ b))) (spelled.tokens_at_level 1 n ts) _ (at_level_good 1 n c ts f) (λ rest c. refl)
    (lead Cut (32 ∷ []) (63 ∷ (32 ∷ (a ++ (codes " : " ++ b)))) (Mark Question ∷ (us ++ (Mark Colon ∷ vs))) refl
    (sign_then Cut 63 (Mark Question) (32 ∷ (a ++ (codes " : " ++ b))) (us ++ (Mark Colon ∷ vs)) question_sign
    (lead Cut (32 ∷ []) (a ++ (codes " : " ++ b)) (us ++ (Mark Colon ∷ vs)) refl (then_lex a (codes " : " ++ b) us (Mark Colon ∷ vs) g (λ rest c. refl)
    (lead Cut (32 ∷ []) (58 ∷ (32 ∷ b)) (Mark Colon ∷ vs) refl (sign_then Cut 58 (Mark Colon) (32 ∷ b) vs colon_sign (lead Cut (32 ∷ []) b vs refl k.lex)))))))

pub good : (x : Term) → IsHeld x → Good (spelling x) (spelled_tokens x)
good (leaf l) h = leaf_good l h
good (item x a) h = item_good x (spelling a) (spelled_tokens a) (word_good x (name_word x h.0)) (good a h.1)
good (one op a) h = one_good op (binding_level a) (spelling a) (spelled_tokens a) h.0 (good a h.1)
good (two op a b) h = two_good op (binding_level a) (binding_level b) (spelling a) (spelling b) (spelled_tokens a) (spelled_tokens b) h.0 (good a h.1) (good b h.2)
good (choice c a b) h = choice_good (binding_level c) (spelling c) (spelling a) (spelling b) (spelled_tokens c) (spelled_tokens a) (spelled_tokens b) (good c h.0) (good a h.1) (good b h.2)
