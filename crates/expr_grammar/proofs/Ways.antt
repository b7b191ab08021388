-- The machine goes through each way of the grammar.
use Rattle.std.proofs.Common.{◌≡◌, ℕ, suc, ◌≤◌, Bool, true, false, cond, Some, None, List, [], ◌∷◌, ◌++◌, pos, refl, ap, subst, append_assoc, arith}
use Rattle.std.specs.Prelude.{option_map, codes, neg_ℤ}
use Rattle.std.proofs.lemmas.Bool.{leb-true, le-leb}
use Rattle.scaled_decimal.specs.Decimals.{Decimal, decimal, negated}
use Rattle.scaled_decimal.specs.Limits.{most_places}
use Rattle.pap_tree.specs.Names.{is_name}
use Rattle.pap_tree.specs.declared.expression.Unary.TheVariants as unaries
use Rattle.pap_tree.specs.declared.expression.Binary.TheVariants as binaries
use Rattle.pap_tree.specs.declared.expression.Call.TheVariants as calls
use Rattle.pap_tree.specs.Term.{Term, known, named, text, unary, value_of, value_of_scaled, new_big, set_scale, method, divide, leaf, item, one, two}
use Rattle.pap_tree.specs.Declarations.{number, big, table}
use Rattle.pap_tree.specs.Words.{level_of_operator}
use Rattle.pap_tree.specs.Tokens as tokens
use Rattle.pap_tree.specs.Tokens.{Number, Token, Literal, Word, Operator, Mark, Question, Dot, Open, Close}
use Rattle.pap_tree.specs.Grammar as grammar
use Rattle.pap_tree.specs.Grammar.{Item, Line, Level, LineMeaning, Way, leaf_of, negative_of}
use Rattle.expr_grammar.specs.Machine.{ScaleUse, Head, the_class, a_new, head_word, head_of, big_begun, settling, of_number, applied, opposite, magnitude, rescaled, class_held, moded, Frame, InBrackets, InCall, InItem, InValue, InNew, Negating, Denying, Left, Chosen, Otherwise, Assigning, Room, Alone, InTable, rounding, dividing, setting, valuing, declaring, OfLine, OfValue, OfNew, the_decimal, the_mode, State, Want, Have, Named, Due, Member, Static, ScaleDue, Parting, Moding, Moded, Naming, Signed, Minus, ValuedInt, ValuedPoint, Settling, Listing, Listed, Done, level, level_of, binds, made, behind_operand, tightness, called, of_class, taken, literal_step, begun, scaled, settled, step}
use Rattle.expr_grammar.proofs.Holes.{hole, clashes, follows}
use Rattle.expr_grammar.proofs.Handles as handles
use Rattle.expr_grammar.proofs.Handles.{Suits, opening, after, Same, Follows, Handles}
use Rattle.expr_grammar.proofs.Closing.{operator_low, operator_high, stays, stays_whole, taking, taking_last}
use Rattle.expr_grammar.proofs.Words.{call_is, known_is, old_mode_is, new_mode_is}
use Rattle.expr_grammar.proofs.ShortenedLemmas.{shortened_is}

-- ---- what may follow

exact : (l : Line) (s : State) → Same l s s
exact l s = record { next = λ t e. refl; end = refl }

exactly : (l : Line) (s : State) → Follows l l s s
exactly l s = record { looser = λ t e. e; same = exact l s }

-- a tighter level goes on with less
pub tighter : (m n : ℕ) (t : Token) → n ≤ m → follows (Level n) t ≡ true → follows (Level m) t ≡ true
tighter m n t h e = let f = leb-true (tightness t) n e in le-leb (tightness t) m (omega (arith, f, h))

-- the operand of a frame that no token ends
closing : (m n : ℕ) (f : Frame) (x : Term) (k : List Frame) → n ≤ m → binds f ≡ Some n → Follows (Level m) (Level n) (Have x (f ∷ k)) (Have (made f x) k)
closing m n f x k h b = record {
  looser = λ t e. tighter m n t h e;
  same = record { next = λ t e. taking f n x k t b e; end = taking_last f n x k b };
}

-- ---- steps

-- before a sign that stands after a whole expression
dotted : (x : Term) (k : List Frame) → step (Have x k) (Mark Dot) ≡ Some (Member x k)
dotted x k = ap (behind_operand (Mark Dot)) (stays_whole x k)

asked : (c : Term) (k : List Frame) → hole k ≤ 0 → step (Have c k) (Mark Question) ≡ Some (Want (Chosen c ∷ k))
asked c k h = ap (behind_operand (Mark Question)) (stays 1 c k (omega (arith, h)) (omega arith) (omega arith))

operated : (o : _) (x : Term) (k : List Frame) → hole k ≤ level_of_operator o → step (Have x k) (Operator o) ≡ Some (Want (Left o x ∷ k))
operated o x k h = ap (behind_operand (Operator o)) (stays (level_of_operator o) x k h (operator_low o) (operator_high o))

plain_literal : (k : List Frame) (n : Number) → clashes (Want k) (Literal n ∷ []) ≡ false → literal_step k n ≡ Some (Have (leaf (leaf_of n)) k)
plain_literal [] n e = refl
plain_literal (Negating ∷ k) n e = absurd cc
plain_literal (InNew ∷ k) (tokens.int n) e = refl
plain_literal (InNew ∷ k) (tokens.long n) e = refl
plain_literal (InNew ∷ k) (tokens.point d) e = absurd cc
plain_literal (f ∷ k) n e = refl

minus_literal : (k : List Frame) (n : Number) → clashes (Want k) (Operator binaries.Sub ∷ Literal n ∷ []) ≡ false → taken k n (negative_of n) ≡ Some (Have (leaf (negative_of n)) k)
minus_literal [] n e = refl
minus_literal (InNew ∷ k) (tokens.int n) e = refl
minus_literal (InNew ∷ k) (tokens.long n) e = refl
minus_literal (InNew ∷ k) (tokens.point d) e = absurd cc
minus_literal (f ∷ k) n e = refl

named_step : (k : List Frame) (x : List ℕ) → is_name x ≡ true → step (Want k) (Word x) ≡ Some (Named x k)
named_step k x e = ap (λ c. cond c (Some (Named x k)) (begun k (head_of x))) e

scaled_step : (j : ScaleUse) (s : ℕ) → s ≤ most_places → step (ScaleDue j) (Literal (tokens.int s)) ≡ Some (scaled j s)
scaled_step j s h = ap (λ c. cond c (Some (scaled j s)) None) (le-leb s most_places h)

assigned_step : (x : List ℕ) → is_name x ≡ true → step Naming (Word x) ≡ Some (Due 0 (Mark tokens.Equals) (Want (Assigning x ∷ [])))
assigned_step x e = ap (λ c. cond c (Some (Due 0 (Mark tokens.Equals) (Want (Assigning x ∷ [])))) None) e

-- a name is as good as the expression of the name, but before an item
named_same : (x : List ℕ) (k : List Frame) → Same (Level 9) (Named x k) (Have (leaf (named x)) k)
named_same x k = record { next = as_good; end = refl }
  where
    as_good : (t : Token) → follows (Level 9) t ≡ true → step (Named x k) t ≡ step (Have (leaf (named x)) k) t
    as_good (Mark tokens.OpenItem) e = absurd cc
    as_good t e = refl

here : (n : ℕ) → n ≤ n
here n = omega arith

-- the next token of an expression goes on with nothing tighter
loosened : (n : ℕ) (x : Term) (k : List Frame) → Follows (Level (suc n)) (Level n) (Have x k) (Have x k)
loosened n x k = record { looser = λ t e. tighter (suc n) n t (omega arith) e; same = exact (Level n) (Have x k) }

-- ---- the decimals of constants

big_begin : (r : Room) (h : Head) → step (opening r) (Word (head_word h)) ≡ Some (big_begun r h)
big_begin Alone the_class = refl
big_begin Alone a_new = refl
big_begin (InTable ds) the_class = refl
big_begin (InTable ds) a_new = refl

low : (r : Room) → level_of (opening r) ≤ 0
low Alone = here 0
low (InTable ds) = here 0

raised : (r : Room) (n : ℕ) → suc (level_of (opening r)) ≤ suc n
raised r n = let h = low r in omega (arith, h)

raised_twice : (r : Room) → suc (suc (level_of (opening r))) ≤ 2
raised_twice r = let h = low r in omega (arith, h)

big_done : {c : List Token → Bool} {m : ℕ} (r : Room) (d : Decimal) → Handles c grammar.Big m [] (settled r d) (after (opening r) (grammar.declared (big d)))
big_done Alone d = handles.done (exact _ _) (here 0)
big_done (InTable ds) d = handles.done (exact _ _) (here 0)

-- ---- the ways

pub ways : {l : Line} {way : List Item} {x : LineMeaning} → Way l way x → (s : State) → Suits l s
    → Handles (clashes s) l (level_of s) way s (after s x)
ways (grammar.choose c a b) _ (handles.expression _ k h) =
    handles.then_opens (Want (Chosen c ∷ k)) (handles.expression 1 k (omega (arith, h))) (here _) (λ a f e. e) refl (asked c k h)
    (handles.then_is (Want (Otherwise c a ∷ k)) (handles.expression 0 (Chosen c ∷ k) (here 0)) (here _) (λ a f e. refl) refl refl
    (handles.last (handles.expression 0 (Otherwise c a ∷ k) (here 0)) (here _) (λ a f e. refl) (closing 0 0 (Otherwise c a) b k (here 0) refl) (omega arith)))
ways (grammar.tighter n x g) _ (handles.expression _ k h) =
    handles.last (handles.expression (suc n) k (omega (arith, h))) (here _) (λ a f e. e) (loosened n x k) (here _)
ways (grammar.operation n o x y g) _ (handles.expression _ k h) =
    handles.then_is (Want (Left o x ∷ k)) (handles.expression n k h) (here _) (λ a f e. e) (le-leb (level_of_operator o) n (omega (arith, g)))
    (operated o x k (omega (arith, g, h)))
    (handles.last (handles.expression (suc n) (Left o x ∷ k) (omega (arith, g))) (here _) (λ a f e. refl) (closing (suc n) n (Left o x) y k (omega arith) (ap Some g)) (here _))
ways (grammar.minus x) _ (handles.expression _ k h) =
    handles.opens (Want (Negating ∷ k)) (here _) (λ e. refl)
    (handles.last (handles.expression 7 (Negating ∷ k) (here 7)) (here _) (λ a f e. f) (closing 7 7 Negating x k (here 7) refl) (omega arith))
ways (grammar.negation x) _ (handles.expression _ k h) =
    handles.opens (Want (Denying ∷ k)) (here _) (λ e. refl)
    (handles.last (handles.expression 7 (Denying ∷ k) (here 7)) (here _) (λ a f e. refl) (closing 7 7 Denying x k (here 7) refl) (omega arith))
ways (grammar.call c x y) _ (handles.expression _ k h) =
    handles.then_is (Member x k) (handles.expression 8 k h) (here _) (λ a f e. e) refl (dotted x k)
    (handles.is (called x k (applied c)) (here _) (λ e. ap (option_map (called x k)) (call_is c))
    (handles.opens (Want (InCall c x ∷ k)) (here _) (λ e. refl)
    (handles.then_is (Have (two (method c) x y) k) (handles.expression 0 (InCall c x ∷ k) (here 0)) (here _) (λ a f e. refl) refl refl
    (handles.done (exact _ _) (here _)))))
ways (grammar.divide_to s m x y g) _ (handles.expression _ k h) =
    handles.then_is (Member x k) (handles.expression 8 k h) (here _) (λ a f e. e) refl (dotted x k)
    (handles.is (called x k (applied calls.DivideExact)) (here _) (λ e. refl)
    (handles.opens (Want (InCall calls.DivideExact x ∷ k)) (here _) (λ e. refl)
    (handles.then_is (ScaleDue (rounding (dividing x y) k)) (handles.expression 0 (InCall calls.DivideExact x ∷ k) (here 0)) (here _) (λ a f e. refl) refl refl
    (handles.scale (Parting (dividing x y) s k) (here _) refl (scaled_step (rounding (dividing x y) k) s g)
    (handles.is (Moding (dividing x y) s k) (here _) (λ e. refl)
    (handles.then_is (Have (two (divide s m) x y) k) (handles.a_mode (dividing x y) s k) (here _) (λ a f e. refl) refl refl
    (handles.done (exact _ _) (here _))))))))
ways (grammar.set_scale_to s m x g) _ (handles.expression _ k h) =
    handles.then_is (Member x k) (handles.expression 8 k h) (here _) (λ a f e. e) refl (dotted x k)
    (handles.is (called x k rescaled) (here _) (λ e. refl)
    (handles.opens (ScaleDue (rounding (setting x) k)) (here _) (λ e. refl)
    (handles.scale (Parting (setting x) s k) (here _) refl (scaled_step (rounding (setting x) k) s g)
    (handles.is (Moding (setting x) s k) (here _) (λ e. refl)
    (handles.then_is (Have (one (set_scale s m) x) k) (handles.a_mode (setting x) s k) (here _) (λ a f e. refl) refl refl
    (handles.done (exact _ _) (here _)))))))
ways (grammar.plain_call _ _ x grammar.negate) _ (handles.expression _ k h) =
    handles.then_is (Member x k) (handles.expression 8 k h) (here _) (λ a f e. e) refl (dotted x k)
    (handles.is (called x k opposite) (here _) (λ e. refl)
    (handles.opens (Due (suc (level k)) (Mark Close) (Have (one (unary unaries.Negate) x) k)) (here _) (λ e. refl)
    (handles.is (Have (one (unary unaries.Negate) x) k) (here _) (λ e. refl)
    (handles.done (exact _ _) (here _)))))
ways (grammar.plain_call _ _ x grammar.abs) _ (handles.expression _ k h) =
    handles.then_is (Member x k) (handles.expression 8 k h) (here _) (λ a f e. e) refl (dotted x k)
    (handles.is (called x k magnitude) (here _) (λ e. refl)
    (handles.opens (Due (suc (level k)) (Mark Close) (Have (one (unary unaries.Abs) x) k)) (here _) (λ e. refl)
    (handles.is (Have (one (unary unaries.Abs) x) k) (here _) (λ e. refl)
    (handles.done (exact _ _) (here _)))))
ways (grammar.a_literal f l) _ (handles.expression _ k h) =
    handles.last (handles.operand f k) (here _) (λ a f e. e) (record { looser = λ t e. refl; same = exact _ _ }) (here _)
ways (grammar.a_name x g) _ (handles.expression _ k h) =
    handles.is (Named x k) (here _) (λ e. named_step k x g) (handles.done (named_same x k) (here _))
ways (grammar.an_item x i g) _ (handles.expression _ k h) =
    handles.is (Named x k) (here _) (λ e. named_step k x g)
    (handles.opens (Want (InItem x ∷ k)) (here _) (λ e. refl)
    (handles.then_is (Have (item x i) k) (handles.expression 0 (InItem x ∷ k) (here 0)) (here _) (λ a f e. refl) refl refl
    (handles.done (exact _ _) (here _))))
ways (grammar.in_brackets x) _ (handles.expression _ k h) =
    handles.opens (Want (InBrackets ∷ k)) (here _) (λ e. refl)
    (handles.then_is (Have x k) (handles.expression 0 (InBrackets ∷ k) (here 0)) (here _) (λ a f e. refl) refl refl
    (handles.done (exact _ _) (here _)))
ways (grammar.a_known c) _ (handles.expression _ k h) =
    handles.is (Due (level k) (Mark Dot) (Static k)) (here _) (λ e. refl)
    (handles.is (Static k) (here _) (λ e. refl)
    (handles.is (Have (leaf (known c)) k) (here _) (λ e. ap (option_map (of_class k)) (known_is c))
    (handles.done (exact _ _) (here _))))
ways (grammar.a_value x) _ (handles.expression _ k h) =
    handles.is (Due (level k) (Mark Dot) (Static k)) (here _) (λ e. refl)
    (handles.is (Static k) (here _) (λ e. refl)
    (handles.is (of_class k of_number) (here _) (λ e. refl)
    (handles.opens (Want (InValue ∷ k)) (here _) (λ e. refl)
    (handles.then_is (Have (one value_of x) k) (handles.expression 0 (InValue ∷ k) (here 0)) (here _) (λ a f e. refl) refl refl
    (handles.done (exact _ _) (here _))))))
ways (grammar.a_scaled_value s x g) _ (handles.expression _ k h) =
    handles.is (Due (level k) (Mark Dot) (Static k)) (here _) (λ e. refl)
    (handles.is (Static k) (here _) (λ e. refl)
    (handles.is (of_class k of_number) (here _) (λ e. refl)
    (handles.opens (Want (InValue ∷ k)) (here _) (λ e. refl)
    (handles.then_is (ScaleDue (valuing x k)) (handles.expression 0 (InValue ∷ k) (here 0)) (here _) (λ a f e. refl) refl refl
    (handles.scale (scaled (valuing x k) s) (here _) refl (scaled_step (valuing x k) s g)
    (handles.is (Have (one (value_of_scaled s) x) k) (here _) (λ e. refl)
    (handles.done (exact _ _) (here _))))))))
ways (grammar.a_new_big x) _ (handles.expression _ k h) =
    handles.is (Due (level k) (Word (codes "BigDecimal")) (Due (level k) (Mark Open) (Want (InNew ∷ k)))) (here _) (λ e. refl)
    (handles.is (Due (level k) (Mark Open) (Want (InNew ∷ k))) (here _) (λ e. refl)
    (handles.opens (Want (InNew ∷ k)) (here _) (λ e. refl)
    (handles.then_is (Have (one new_big x) k) (handles.expression 0 (InNew ∷ k) (here 0)) (here _) (λ a f e. f) refl refl
    (handles.done (exact _ _) (here _)))))
ways (grammar.a_new_text d) _ (handles.expression _ k h) =
    handles.is (Due (level k) (Word (codes "BigDecimal")) (Due (level k) (Mark Open) (Want (InNew ∷ k)))) (here _) (λ e. refl)
    (handles.is (Due (level k) (Mark Open) (Want (InNew ∷ k))) (here _) (λ e. refl)
    (handles.opens (Want (InNew ∷ k)) (here _) (λ e. refl)
    (handles.is (Due (suc (level k)) (Mark Close) (Have (leaf (text d)) k)) (here _) (λ e. refl)
    (handles.is (Have (leaf (text d)) k) (here _) (λ e. refl)
    (handles.done (exact _ _) (here _))))))
ways (grammar.without_sign f n g) _ (handles.operand _ k) =
    handles.is (Have (leaf (leaf_of n)) k) (here _) (λ e. plain_literal k n e) (handles.done (exact _ _) (here _))
ways (grammar.without_sign f n g) _ (handles.lone _) =
    handles.is (Done (grammar.declared (number (leaf_of n)))) (here 0) (λ e. refl) (handles.done (exact _ _) (here 0))
ways (grammar.without_sign f (tokens.int n) g) _ (handles.int_value r) =
    handles.is (ValuedInt (pos n) r) (here 1) (λ e. refl) (handles.done (exact _ _) (here 1))
ways (grammar.without_sign f (tokens.point d) g) _ (handles.point_value r) =
    handles.is (ValuedPoint d r) (here 1) (λ e. refl) (handles.done (exact _ _) (here 1))
ways (grammar.without_sign f (tokens.int n) g) _ (handles.int_new r) =
    handles.is (Due 1 (Mark Close) (settled r (decimal (pos n) 0))) (here 1) (λ e. refl) (handles.done (exact _ _) (here 1))
ways (grammar.without_sign f n g) _ s = absurd cc
ways (grammar.with_sign f n g) _ (handles.operand _ k) =
    handles.opens (Want (Negating ∷ k)) (here _) (λ e. refl)
    (handles.is (Have (leaf (negative_of n)) k) (here _) (λ e. minus_literal k n e) (handles.done (exact _ _) (omega arith)))
ways (grammar.with_sign f n g) _ (handles.lone _) =
    handles.opens (Minus OfLine) (here 0) (λ e. refl)
    (handles.is (Done (grammar.declared (number (negative_of n)))) (here 1) (λ e. refl) (handles.done (exact _ _) (omega arith)))
ways (grammar.with_sign f (tokens.int n) g) _ (handles.int_value r) =
    handles.opens (Minus (OfValue r)) (here 1) (λ e. refl)
    (handles.is (ValuedInt (neg_ℤ (pos n)) r) (here 2) (λ e. refl) (handles.done (exact _ _) (omega arith)))
ways (grammar.with_sign f (tokens.point d) g) _ (handles.point_value r) =
    handles.opens (Minus (OfValue r)) (here 1) (λ e. refl)
    (handles.is (ValuedPoint (negated d) r) (here 2) (λ e. refl) (handles.done (exact _ _) (omega arith)))
ways (grammar.with_sign f (tokens.int n) g) _ (handles.int_new r) =
    handles.opens (Minus (OfNew r)) (here 1) (λ e. refl)
    (handles.is (Due 1 (Mark Close) (settled r (decimal (neg_ℤ (pos n)) 0))) (here 2) (λ e. refl) (handles.done (exact _ _) (omega arith)))
ways (grammar.with_sign f n g) _ s = absurd cc
ways (grammar.old_mode m) _ (handles.a_mode r s k) =
    handles.is (class_held r s k the_decimal) (here _) (λ e. refl)
    (handles.is (Moded the_decimal r s k) (here _) (λ e. refl)
    (handles.is (moded r s k m) (here _) (λ e. ap (option_map (moded r s k)) (old_mode_is m))
    (handles.done (exact _ _) (here _))))
ways (grammar.new_mode m) _ (handles.a_mode r s k) =
    handles.is (class_held r s k the_mode) (here _) (λ e. refl)
    (handles.is (Moded the_mode r s k) (here _) (λ e. refl)
    (handles.is (moded r s k m) (here _) (λ e. ap (option_map (moded r s k)) (new_mode_is m))
    (handles.done (exact _ _) (here _))))
ways (grammar.assign x y g) _ handles.an_assignment =
    handles.is (Due 0 (Mark tokens.Equals) (Want (Assigning x ∷ []))) (here 0) (λ e. assigned_step x g)
    (handles.is (Want (Assigning x ∷ [])) (here 0) (λ e. refl)
    (handles.last (handles.expression 0 (Assigning x ∷ []) (here 0)) (here 0) (λ a f e. refl)
    (record { looser = λ t e. absurd cc; same = record { next = λ t e. absurd cc; end = refl } }) (here 0)))
ways (grammar.assign_ended x y g) _ handles.an_assignment =
    handles.is (Due 0 (Mark tokens.Equals) (Want (Assigning x ∷ []))) (here 0) (λ e. assigned_step x g)
    (handles.is (Want (Assigning x ∷ [])) (here 0) (λ e. refl)
    (handles.then_is (Done (grammar.assignment x y)) (handles.expression 0 (Assigning x ∷ []) (here 0)) (here 0) (λ a f e. refl) refl refl
    (handles.done (exact _ _) (here 0))))
ways (grammar.big_constant d) _ handles.a_constant = handles.last (handles.a_decimal Alone) (here 0) (λ a f e. refl) (record { looser = λ t e. e; same = exact _ _ }) (here 0)
ways (grammar.number_constant f l) _ handles.a_constant = handles.last (handles.lone f) (here 0) (λ a f e. refl) (record { looser = λ t e. e; same = exact _ _ }) (here 0)
ways (grammar.table_constant ds) _ handles.a_constant =
    handles.is (Listing []) (here 0) (λ e. refl)
    (handles.then_is (Done (grammar.declared (table ds))) (handles.the_items []) (here 0) (λ a f e. refl) refl refl
    (handles.done (exact _ _) (here 0)))
ways (grammar.last_big d) _ (handles.the_items ds) =
    handles.last (handles.a_decimal (InTable ds)) (here 0) (λ a f e. refl) (record { looser = λ t e. e; same = exact _ _ }) (here 0)
ways (grammar.more_bigs d es) _ (handles.the_items ds) =
    handles.then_is (Listing (ds ++ (d ∷ []))) (handles.a_decimal (InTable ds)) (here 0) (λ a f e. refl) refl refl
    (handles.last (handles.the_items (ds ++ (d ∷ []))) (here 0) (λ a f e. refl)
    (record { looser = λ t e. e; same = subst (λ (all : List Decimal). Same grammar.Bigs (Listed ((ds ++ (d ∷ [])) ++ es)) (Listed all)) (append_assoc ds (d ∷ []) es) (exact _ _) }) (here 0))
ways (grammar.big_known c) _ (handles.a_decimal r) =
    handles.is (big_begun r the_class) (here _) (λ e. big_begin r the_class)
    (handles.is (Settling r) (low r) (λ e. refl)
    (handles.is (settled r (grammar.known_value c)) (low r) (λ e. ap (option_map (settling r)) (known_is c))
    (big_done r (grammar.known_value c))))
ways (grammar.big_of_int i) _ (handles.a_decimal r) =
    handles.is (big_begun r the_class) (here _) (λ e. big_begin r the_class)
    (handles.is (Settling r) (low r) (λ e. refl)
    (handles.is (settling r of_number) (low r) (λ e. refl)
    (handles.opens (Signed (OfValue r)) (low r) (λ e. refl)
    (handles.then_is (settled r (decimal i 0)) (handles.int_value r) (raised r 0) (λ a f e. refl) refl refl
    (big_done r (decimal i 0))))))
ways (grammar.big_of_scaled i s g) _ (handles.a_decimal r) =
    handles.is (big_begun r the_class) (here _) (λ e. big_begin r the_class)
    (handles.is (Settling r) (low r) (λ e. refl)
    (handles.is (settling r of_number) (low r) (λ e. refl)
    (handles.opens (Signed (OfValue r)) (low r) (λ e. refl)
    (handles.then_is (ScaleDue (declaring i r)) (handles.int_value r) (raised r 0) (λ a f e. refl) refl refl
    (handles.scale (scaled (declaring i r) s) (raised r 0) refl (scaled_step (declaring i r) s g)
    (handles.is (settled r (decimal i s)) (raised r 0) (λ e. refl)
    (big_done r (decimal i s))))))))
ways (grammar.big_of_point d e g) _ (handles.a_decimal r) =
    handles.is (big_begun r the_class) (here _) (λ e. big_begin r the_class)
    (handles.is (Settling r) (low r) (λ e. refl)
    (handles.is (settling r of_number) (low r) (λ e. refl)
    (handles.opens (Signed (OfValue r)) (low r) (λ e. refl)
    (handles.then_is (settled r e) (handles.point_value r) (raised r 0) (λ a f e. refl) refl (ap (option_map (settled r)) (shortened_is d e g))
    (big_done r e)))))
ways (grammar.big_new i) _ (handles.a_decimal r) =
    handles.is (big_begun r a_new) (here _) (λ e. big_begin r a_new)
    (handles.is (Due 0 (Mark Open) (Signed (OfNew r))) (low r) (λ e. refl)
    (handles.opens (Signed (OfNew r)) (low r) (λ e. refl)
    (handles.then_is (settled r (decimal i 0)) (handles.int_new r) (raised r 0) (λ a f e. refl) refl refl
    (big_done r (decimal i 0)))))
ways (grammar.big_new_text d) _ (handles.a_decimal r) =
    handles.is (big_begun r a_new) (here _) (λ e. big_begin r a_new)
    (handles.is (Due 0 (Mark Open) (Signed (OfNew r))) (low r) (λ e. refl)
    (handles.opens (Signed (OfNew r)) (low r) (λ e. refl)
    (handles.is (Due 1 (Mark Close) (settled r d)) (raised r 0) (λ e. refl)
    (handles.is (settled r d) (raised r 0) (λ e. refl)
    (big_done r d)))))
