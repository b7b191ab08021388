-- The canonical spelling of a tree is a text of the tree.
use Rattle.std.proofs.Common.{◌≡◌, ℕ, suc, ◌+◌, ◌≤◌, Bool, true, false, List, [], ◌∷◌, ◌++◌, ℤ, pos, negsuc, refl, sym, ap, subst, arith}
use Rattle.std.specs.Prelude.{◌||◌, nat_lt, codes, IsTrue}
use Rattle.std.proofs.lemmas.Bool.{ltb-false}
use Rattle.std.proofs.lemmas.List.{append-nil}
use Rattle.pap_tree.specs.Names.{is_name}
use Rattle.scaled_decimal.specs.Decimals.{decimal, numerator_of, scale_of}
use Rattle.scaled_decimal.specs.declared.rounding.Mode.{Mode}
use Rattle.pap_tree.specs.declared.expression.Unary.TheVariants.{Minus, Not, Negate, Abs}
use Rattle.pap_tree.specs.declared.expression.Binary.TheVariants.{Sub}
use Rattle.pap_tree.specs.Term as terms
use Rattle.pap_tree.specs.Term.{Leaf, One, unary, value_of, value_of_scaled, new_big, set_scale, Two, operator, method, divide, Term, leaf, item, one, two, choice}
use Rattle.pap_tree.specs.Words.{level_of_operator, round_word}
use Rattle.pap_tree.specs.Spelling.{binding_level, level_of_one, level_of_two}
use Rattle.pap_tree.specs.Tokens as tokens
use Rattle.pap_tree.specs.Tokens.{Token, Literal, Word, Operator, Mark, Question, Colon, Dot, Open, Close}
use Rattle.pap_tree.specs.Grammar as grammar
use Rattle.pap_tree.specs.Grammar.{Level, tree, mode}
use Rattle.pap_tree.specs.Texts as texts
use Rattle.pap_tree.specs.Texts.{Derives, begins_number, begins_point}
use Rattle.expr_grammar.specs.SpelledTokens.{bracketed_tokens, tokens_at_level, begins_signed, int_tokens, long_tokens, point_tokens, leaf_tokens, one_tokens, two_tokens, spelled_tokens}
use Rattle.pap_tree.specs.Scales.{OneKeepsScale, TwoKeepsScale}
use Rattle.expr_grammar.proofs.Closing.{operator_high}
use Rattle.expr_grammar.proofs.Levels.{looser}
use Rattle.expr_grammar.proofs.Ranges.{IsNamed, IsRanged}

-- ---- levels and brackets

one_level : (op : One) → level_of_one op ≤ 9
one_level (unary Minus) = omega arith
one_level (unary Not) = omega arith
one_level (unary Negate) = omega arith
one_level (unary Abs) = omega arith
one_level op = omega arith

two_level : (op : Two) → level_of_two op ≤ 9
two_level (operator o) = let h = operator_high o in omega (arith, h)
two_level (method c) = omega arith
two_level (divide s m) = omega arith

tightest : (x : Term) → binding_level x ≤ 9
tightest (leaf l) = omega arith
tightest (item x a) = omega arith
tightest (one op a) = one_level op
tightest (two op a b) = two_level op
tightest (choice c a b) = omega arith

-- its canonical spelling is a text of its own level
abbrev IsSpelled : Term → Type 0
IsSpelled x = Derives (Level (binding_level x)) (spelled_tokens x) (tree x)

in_brackets : (n : ℕ) (x : Term) (a : List Token) → n ≤ 9 → Derives (Level 0) a (tree x) → Derives (Level n) (Mark Open ∷ (a ++ (Mark Close ∷ []))) (tree x)
in_brackets n x a h t = looser 9 n (Mark Open ∷ (a ++ (Mark Close ∷ []))) x h (omega arith) (texts.by _ (grammar.in_brackets x) (texts.opens (texts.part refl t (texts.is texts.done))))

outermost : (x : Term) → IsSpelled x → Derives (Level 0) (spelled_tokens x) (tree x)
outermost x t = looser (binding_level x) 0 (spelled_tokens x) x (omega arith) (tightest x) t

by_brackets : (n : ℕ) (x : Term) (c : Bool) → nat_lt (binding_level x) n ≡ c → n ≤ 9 → IsSpelled x → Derives (Level n) (bracketed_tokens c (spelled_tokens x)) (tree x)
by_brackets n x true e h t = in_brackets n x (spelled_tokens x) h (outermost x t)
by_brackets n x false e h t = looser (binding_level x) n (spelled_tokens x) x (ltb-false (binding_level x) n e) (tightest x) t

-- an operand where the grammar wants a level
operand : (n : ℕ) (x : Term) → n ≤ 9 → IsSpelled x → Derives (Level n) (tokens_at_level n (binding_level x) (spelled_tokens x)) (tree x)
operand n x h t = by_brackets n x (nat_lt (binding_level x) n) refl h t

text_is : (n : ℕ) (a b : List Token) (x : Term) → a ≡ b → Derives (Level n) a (tree x) → Derives (Level n) b (tree x)
text_is n a b x e t = subst (λ a. Derives (Level n) a (tree x)) e t

-- ---- leaves

plain_literal : (n : tokens.Number) → Derives (Level 9) (Literal n ∷ []) (tree (leaf (grammar.leaf_of n)))
plain_literal n = texts.by _ (grammar.a_literal (grammar.form_of n) (grammar.leaf_of n)) (texts.part refl (texts.by _ (grammar.without_sign (grammar.form_of n) n refl) (texts.is texts.done)) texts.done)

minus_literal : (n : tokens.Number) (l : Leaf) → grammar.negative_of n ≡ l → Derives (Level 9) (Operator Sub ∷ Literal n ∷ []) (tree (leaf l))
minus_literal n l e =
    subst (λ l. Derives (Level 9) (Operator Sub ∷ Literal n ∷ []) (tree (leaf l))) e
    (texts.by _ (grammar.a_literal (grammar.form_of n) (grammar.negative_of n)) (texts.part refl (texts.by _ (grammar.with_sign (grammar.form_of n) n refl) (texts.opens (texts.is texts.done))) texts.done))

whole_text : (i : ℤ) → Derives (Level 9) (int_tokens i) (tree (leaf (terms.whole i)))
whole_text (pos n) = plain_literal (tokens.int n)
whole_text (negsuc n) = minus_literal (tokens.int (suc n)) (terms.whole (negsuc n)) refl

long_text : (i : ℤ) → Derives (Level 9) (long_tokens i) (tree (leaf (terms.long i)))
long_text (pos n) = plain_literal (tokens.long n)
long_text (negsuc n) = minus_literal (tokens.long (suc n)) (terms.long (negsuc n)) refl

point_text : (i : ℤ) (s : ℕ) → Derives (Level 9) (point_tokens i s) (tree (leaf (terms.point (decimal i s))))
point_text (pos n) s = plain_literal (tokens.point (decimal (pos n) s))
point_text (negsuc n) s = minus_literal (tokens.point (decimal (pos (suc n)) s)) (terms.point (decimal (negsuc n) s)) refl

leaf_text : (l : Leaf) → IsNamed l → Derives (Level 9) (leaf_tokens l) (tree (leaf l))
leaf_text (terms.whole i) h = whole_text i
leaf_text (terms.long i) h = long_text i
leaf_text (terms.point d) h = point_text (numerator_of d) (scale_of d)
leaf_text (terms.text d) h = texts.by _ (grammar.a_new_text d) (texts.is (texts.is (texts.opens (texts.is (texts.is texts.done)))))
leaf_text (terms.known k) h = texts.by _ (grammar.a_known k) (texts.is (texts.is (texts.is texts.done)))
leaf_text (terms.named x) h = texts.by _ (grammar.a_name x h) (texts.is texts.done)

-- ---- operations on one operand

neither : (a b : Bool) → (a || b) ≡ false → (a ≡ false) × (b ≡ false)
neither true b e = absurd cc
neither false b e = (refl, e)

no_number : (a : List Token) → begins_signed a ≡ false → begins_number a ≡ false
no_number [] e = refl
no_number (Literal n ∷ a) e = absurd cc
no_number (t ∷ a) e = refl

-- brackets stand where the operand would begin with a number or a -
unsigned : (n : ℕ) (c : Bool) (a : List Token) → (nat_lt n 7 || begins_signed a) ≡ c → begins_number (bracketed_tokens c a) ≡ false
unsigned n true a e = refl
unsigned n false a e = no_number a (neither (nat_lt n 7) (begins_signed a) e).1

mode_text : (m : Mode) → Derives grammar.Rounding (Word (codes "BigDecimal") ∷ Mark Dot ∷ Word (round_word m) ∷ []) (mode m)
mode_text m = texts.by _ (grammar.old_mode m) (texts.is (texts.is (texts.is texts.done)))

minus_operand : (x : Term) (c : Bool) → (nat_lt (binding_level x) 7 || begins_signed (spelled_tokens x)) ≡ c → IsSpelled x → Derives (Level 7) (bracketed_tokens c (spelled_tokens x)) (tree x)
minus_operand x true e t = in_brackets 7 x (spelled_tokens x) (omega arith) (outermost x t)
minus_operand x false e t = looser (binding_level x) 7 (spelled_tokens x) x (ltb-false (binding_level x) 7 (neither (nat_lt (binding_level x) 7) (begins_signed (spelled_tokens x)) e).0) (tightest x) t

new_operand : (x : Term) (c : Bool) → begins_point (spelled_tokens x) ≡ c → IsSpelled x → Derives (Level 0) (bracketed_tokens c (spelled_tokens x)) (tree x)
new_operand x true e t = in_brackets 0 x (spelled_tokens x) (omega arith) (outermost x t)
new_operand x false e t = outermost x t

no_point : (a : List Token) (c : Bool) → begins_point a ≡ c → begins_point (bracketed_tokens c a) ≡ false
no_point a true e = refl
no_point a false e = e

one_text : (op : One) (x : Term) → OneKeepsScale op → IsSpelled x → Derives (Level (level_of_one op)) (one_tokens op (binding_level x) (spelled_tokens x)) (tree (one op x))
one_text (unary Minus) x h t =
    let c = nat_lt (binding_level x) 7 || begins_signed (spelled_tokens x) in
    text_is 7 _ _ _ (ap (λ a. Operator Sub ∷ a) (append-nil (bracketed_tokens c (spelled_tokens x))))
    (texts.by _ (grammar.minus x) (texts.opens (texts.part (unsigned (binding_level x) c (spelled_tokens x) refl) (minus_operand x c refl t) texts.done)))
one_text (unary Not) x h t =
    text_is 7 _ _ _ (ap (λ a. Mark tokens.Bang ∷ a) (append-nil (tokens_at_level 7 (binding_level x) (spelled_tokens x))))
    (texts.by _ (grammar.negation x) (texts.opens (texts.part refl (operand 7 x (omega arith) t) texts.done)))
one_text (unary Negate) x h t =
    texts.by _ (grammar.plain_call Negate (codes "negate") x grammar.negate) (texts.part refl (operand 8 x (omega arith) t) (texts.is (texts.is (texts.opens (texts.is texts.done)))))
one_text (unary Abs) x h t =
    texts.by _ (grammar.plain_call Abs (codes "abs") x grammar.abs) (texts.part refl (operand 8 x (omega arith) t) (texts.is (texts.is (texts.opens (texts.is texts.done)))))
one_text value_of x h t = texts.by _ (grammar.a_value x) (texts.is (texts.is (texts.is (texts.opens (texts.part refl (outermost x t) (texts.is texts.done))))))
one_text (value_of_scaled s) x h t =
    texts.by _ (grammar.a_scaled_value s x h) (texts.is (texts.is (texts.is (texts.opens (texts.part refl (outermost x t) (texts.is (texts.scale (texts.is texts.done))))))))
one_text new_big x h t =
    let c = begins_point (spelled_tokens x) in
    texts.by _ (grammar.a_new_big x) (texts.is (texts.is (texts.opens (texts.part (no_point (spelled_tokens x) c refl) (new_operand x c refl t) (texts.is texts.done)))))
one_text (set_scale s m) x h t =
    texts.by _ (grammar.set_scale_to s m x h) (texts.part refl (operand 8 x (omega arith) t)
    (texts.is (texts.is (texts.opens (texts.scale (texts.is (texts.part refl (mode_text m) (texts.is texts.done))))))))

-- ---- operations on two

next_level : (o : _) → suc (level_of_operator o) ≡ level_of_operator o + 1
next_level o = omega arith

two_text : (op : Two) (x y : Term) → TwoKeepsScale op → IsSpelled x → IsSpelled y
    → Derives (Level (level_of_two op)) (two_tokens op (binding_level x) (spelled_tokens x) (binding_level y) (spelled_tokens y)) (tree (two op x y))
two_text (operator o) x y h t u =
    let n = level_of_operator o in
    let le = operator_high o in
    let left = tokens_at_level n (binding_level x) (spelled_tokens x) in
    let right = tokens_at_level (n + 1) (binding_level y) (spelled_tokens y) in
    let r : Derives (Level (suc n)) right (tree y) = subst (λ m. Derives (Level m) right (tree y)) (sym (next_level o)) (operand (n + 1) y (omega (arith, le)) u) in
    text_is n (left ++ (Operator o ∷ (right ++ []))) (left ++ (Operator o ∷ right)) _ (ap (λ b. left ++ (Operator o ∷ b)) (append-nil right))
    (texts.by _ (grammar.operation n o x y refl) (texts.part refl (operand n x (omega (arith, le)) t) (texts.is (texts.part refl r texts.done))))
two_text (method c) x y h t u =
    texts.by _ (grammar.call c x y) (texts.part refl (operand 8 x (omega arith) t) (texts.is (texts.is (texts.opens (texts.part refl (outermost y u) (texts.is texts.done))))))
two_text (divide s m) x y h t u =
    texts.by _ (grammar.divide_to s m x y h) (texts.part refl (operand 8 x (omega arith) t)
    (texts.is (texts.is (texts.opens (texts.part refl (outermost y u) (texts.is (texts.scale (texts.is (texts.part refl (mode_text m) (texts.is texts.done))))))))))

-- ---- all trees

choice_text : (c x y : Term) → IsSpelled c → IsSpelled x → IsSpelled y → IsSpelled (choice c x y)
choice_text c x y t u v =
    let first = tokens_at_level 1 (binding_level c) (spelled_tokens c) in
    text_is 0 (first ++ (Mark Question ∷ (spelled_tokens x ++ (Mark Colon ∷ (spelled_tokens y ++ []))))) (first ++ (Mark Question ∷ (spelled_tokens x ++ (Mark Colon ∷ spelled_tokens y)))) _
    (ap (λ b. first ++ (Mark Question ∷ (spelled_tokens x ++ (Mark Colon ∷ b)))) (append-nil (spelled_tokens y)))
    (texts.by _ (grammar.choose c x y) (texts.part refl (operand 1 c (omega arith) t) (texts.opens (texts.part refl (outermost x u) (texts.is (texts.part refl (outermost y v) texts.done))))))

item_text : (w : List ℕ) (x : Term) → IsTrue (is_name w) → IsSpelled x → IsSpelled (item w x)
item_text w x h t = texts.by _ (grammar.an_item w x h) (texts.is (texts.opens (texts.part refl (outermost x t) (texts.is texts.done))))

spelled : (x : Term) → IsRanged x → IsSpelled x
spelled (leaf l) h = leaf_text l h
spelled (item w x) h = item_text w x h.0 (spelled x h.1)
spelled (one op x) h = one_text op x h.0 (spelled x h.1)
spelled (two op x y) h = two_text op x y h.0 (spelled x h.1) (spelled y h.2)
spelled (choice c x y) h = choice_text c x y (spelled c h.0) (spelled x h.1) (spelled y h.2)

pub spelling_text : (x : Term) → IsRanged x → Derives (Level 0) (spelled_tokens x) (tree x)
spelling_text x h = outermost x (spelled x h)
