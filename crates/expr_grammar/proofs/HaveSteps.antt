-- What is read after a token where an expression is read.
use Rattle.std.proofs.Common.{◌≡◌, ℕ, ◌≤◌, Some, List, [], ◌∷◌, ◌++◌, refl, sym, ap, subst, ◌∙◌, arith}
use Rattle.std.specs.Prelude.{IsTrue}
use Rattle.std.proofs.lemmas.List.{append-nil}
use Rattle.pap_tree.specs.declared.expression.Call.TheVariants as calls
use Rattle.pap_tree.specs.Term.{Term, named, value_of, new_big, method, leaf, item, one, two}
use Rattle.pap_tree.specs.Names.{is_name}
use Rattle.pap_tree.specs.Words.{level_of_operator}
use Rattle.pap_tree.specs.Tokens as tokens
use Rattle.pap_tree.specs.Tokens.{Sign, Token, Word, Operator, Mark, Question, Colon, Dot, Comma, Semicolon, Close, OpenItem, CloseItem}
use Rattle.pap_tree.specs.Grammar as grammar
use Rattle.pap_tree.specs.Grammar.{Item, free, no_point, Line, Level, Assignment, LineMeaning, tree, assignment, at, sign}
use Rattle.pap_tree.specs.Texts as texts
use Rattle.pap_tree.specs.Texts.{Derives}
use Rattle.pap_tree.specs.Fronts as fronts
use Rattle.expr_grammar.specs.Machine.{Frame, InBrackets, InCall, InItem, InValue, InNew, Negating, Denying, Left, Chosen, Otherwise, Assigning, rounding, dividing, valuing, State, Want, Have, Named, Member, ScaleDue, Done, close, ended, ended_in, step, finish, whole_of}
use Rattle.expr_grammar.proofs.Holes.{hole}
use Rattle.expr_grammar.proofs.Begins.{word_clear}
use Rattle.expr_grammar.proofs.Closing.{operator_low, operator_high, stays_whole}
use Rattle.expr_grammar.proofs.Pending.{Pending, pass_is, pass_opens, further}
use Rattle.expr_grammar.proofs.Starts.{begun, started}
use Rattle.expr_grammar.proofs.Stacks.{Stack}
use Rattle.expr_grammar.proofs.Closed.{IsRead, closing, taken_part}
use Rattle.expr_grammar.proofs.Spelled.{Spelled}
use Rattle.expr_grammar.proofs.SpelledFronts.{hole_high, fresh, name_text}
use Rattle.expr_grammar.proofs.WantSteps.{moved, have_of, have_closed}

-- ---- the end of what a frame waits for

-- the expression is taken by the frame's way
took : (line : Line) (f : Frame) (k : List Frame) (l : Line) (x : Term) (more : List Item) (z : LineMeaning) (a : List Token) → (r : IsRead line (f ∷ k) 0 x a)
    → Pending (λ p. Stack line k p) k l (at 0 x ∷ more) 1 z r.before → Pending (λ p. Stack line k p) k l more 1 z a
took line f k l x more z a r p = taken_part (λ p. Stack line k p) k (f ∷ k) l free 0 0 x more 1 z (λ p. Stack line (f ∷ k) p) a r (omega arith) p refl

assigned : (line : Line) (w : List ℕ) (k : List Frame) (x : Term) (a b : List Token) → IsRead line (Assigning w ∷ k) 0 x a
    → (IsTrue (is_name w) → (c : List Token) → Derives (Level 0) c (tree x) → Derives Assignment (Word w ∷ Mark tokens.Equals ∷ (c ++ b)) (assignment w x)) → Derives line (a ++ b) (assignment w x)
assigned line w k x a b r text =
    let (e, d, name, f) = r.context in
    let g : a ++ b ≡ Word w ∷ Mark tokens.Equals ∷ (r.own ++ b) = further a r.before r.own b r.whole ∙ ap (λ p. p ++ (r.own ++ b)) f in
    subst (λ l. Derives l (a ++ b) (assignment w x)) (sym e) (subst (λ c. Derives Assignment c (assignment w x)) (sym g) (text name r.own r.text))

ended_steps : (line : Line) (f : Frame) (k : List Frame) (t : Sign) (x : Term) (r : State) (a : List Token) → IsRead line (f ∷ k) 0 x a → ended f t x k ≡ Some r
    → Spelled line r (a ++ (Mark t ∷ []))
ended_steps line InBrackets k Close x r a c e =
    moved line (Have x k) r _ e (have_closed line k 9 (Mark Close) x a (omega arith) (took line InBrackets k (Level 9) x _ _ a c (c.context x)))
ended_steps line (InCall m y) k Close x r a c e =
    moved line (Have (two (method m) y x) k) r _ e (have_closed line k 8 (Mark Close) _ a (omega arith) (took line (InCall m y) k (Level 8) x _ _ a c (c.context.0 x)))
ended_steps line (InCall calls.DivideExact y) k Comma x r a c e = moved line (ScaleDue (rounding (dividing y x) k)) r _ e
    (λ s m h. pass_is (λ p. Stack line k p) k (Level 8) (Mark Comma) _ 1 _ a (took line (InCall calls.DivideExact y) k (Level 8) x _ _ a c (c.context.1 x s m refl h)))
ended_steps line (InItem w) k CloseItem x r a c e =
    moved line (Have (item w x) k) r _ e (have_closed line k 9 (Mark CloseItem) _ a (omega arith) (took line (InItem w) k (Level 9) x _ _ a c (c.context x)))
ended_steps line InValue k Close x r a c e =
    moved line (Have (one value_of x) k) r _ e (have_closed line k 9 (Mark Close) _ a (omega arith) (took line InValue k (Level 9) x _ _ a c (c.context.0 x)))
ended_steps line InValue k Comma x r a c e = moved line (ScaleDue (valuing x k)) r _ e
    (λ s h. pass_is (λ p. Stack line k p) k (Level 9) (Mark Comma) _ 1 _ a (took line InValue k (Level 9) x _ _ a c (c.context.1 x s h)))
ended_steps line InNew k Close x r a c e =
    moved line (Have (one new_big x) k) r _ e (have_closed line k 9 (Mark Close) _ a (omega arith)
    (taken_part (λ p. Stack line k p) k (InNew ∷ k) (Level 9) no_point 0 0 x _ 1 _ (λ p. Stack line (InNew ∷ k) p) a c (omega arith) (c.context.0 x) c.clear))
ended_steps line (Chosen y) k Colon x r a c e = moved line (Want (Otherwise y x ∷ k)) r _ e
    (λ z. pass_is (λ p. Stack line k p) k (Level 0) (Mark Colon) _ 1 _ a (took line (Chosen y) k (Level 0) x _ _ a c (c.context x z)))
ended_steps line (Assigning w) k Semicolon x r a c e = moved line (Done (assignment w x)) r _ e
    (assigned line w k x a (Mark Semicolon ∷ []) c (λ name b h. texts.by _ (grammar.assign_ended w x name) (texts.is (texts.is (texts.part refl h (texts.is texts.done))))))
ended_steps line f k t x r a c e = absurd cc

closed_steps : (line : Line) (j : List Frame) (t : Sign) (x : Term) (r : State) (a : List Token) → IsRead line j 0 x a → ended_in j t x ≡ Some r → Spelled line r (a ++ (Mark t ∷ []))
closed_steps line [] t x r a c e = absurd cc
closed_steps line (f ∷ k) t x r a c e = ended_steps line f k t x r a c e

-- no item follows an expression that is no name
no_item : (j : List Frame) (x : Term) (r : State) → ended_in j OpenItem x ≡ Some r → ⊥
no_item [] x r e = cc
no_item (InBrackets ∷ k) x r e = cc
no_item (InCall calls.DivideExact y ∷ k) x r e = cc
no_item (f ∷ k) x r e = cc

-- ---- what goes on with an expression

-- a condition stands where nothing tighter than a condition is due
wide : (k : List Frame) → hole k ≤ 1 → hole k ≤ 0
wide [] h = omega arith
wide (Negating ∷ k) h = absurd (omega (arith, h))
wide (Denying ∷ k) h = absurd (omega (arith, h))
wide (Left o x ∷ k) h = let g = operator_low o in absurd (omega (arith, h, g))
wide (f ∷ k) h = omega arith

low : (line : Line) (x : Term) (k : List Frame) (a : List Token) → IsRead line k 8 x a → IsRead line (close 0 x k).1 0 (close 0 x k).0 a
low line x k a s = closing line 0 (omega arith) k 8 x a (omega arith) s

operated : (line : Line) (x : Term) (k : List Frame) (o : _) (a : List Token) → IsRead line k (level_of_operator o) x a → Spelled line (Want (Left o x ∷ k)) (a ++ (Operator o ∷ []))
operated line x k o a c = λ y.
    pass_is (λ p. Stack line k p) k (Level (level_of_operator o)) (Operator o) _ 0 _ a
    (started (λ p. Stack line k p) k (Level (level_of_operator o)) (level_of_operator o) x _ _ a c.fits (grammar.operation (level_of_operator o) o x y refl) c)

asked : (line : Line) (x : Term) (k : List Frame) (a : List Token) → IsRead line k 1 x a → Spelled line (Want (Chosen x ∷ k)) (a ++ (Mark Question ∷ []))
asked line x k a c = λ u v.
    pass_opens (λ p. Stack line k p) k (Level 0) (Mark Question) _ 0 _ a (started (λ p. Stack line k p) k (Level 0) 1 x _ _ a (wide k c.fits.0, omega arith) (grammar.choose x u v) c)

pub have_steps : (line : Line) (x : Term) (k : List Frame) (t : Token) (r : State) (a : List Token) → IsRead line k 8 x a → step (Have x k) t ≡ Some r → Spelled line r (a ++ (t ∷ []))
have_steps line x k (Operator o) r a s e =
    let h = operator_high o in
    let q = close (level_of_operator o) x k in
    moved line (Want (Left o q.0 ∷ q.1)) r _ e (operated line q.0 q.1 o a (closing line (level_of_operator o) (omega (arith, h)) k 8 x a (omega (arith, h)) s))
have_steps line x k (Mark Dot) r a s e =
    let f : Some (Member x k) ≡ Some r = ap (λ q. Some (Member q.0 q.1)) (sym (stays_whole x k)) ∙ e in
    moved line (Member x k) r _ f (a, s, refl)
have_steps line x k (Mark Question) r a s e =
    let q = close 1 x k in
    moved line (Want (Chosen q.0 ∷ q.1)) r _ e (asked line q.0 q.1 a (closing line 1 (omega arith) k 8 x a (omega arith) s))
have_steps line x k (Mark OpenItem) r a s e = absurd (no_item (close 10 x k).1 (close 10 x k).0 r e)
have_steps line x k (Mark t) r a s e = closed_steps line (close 0 x k).1 t (close 0 x k).0 r a (low line x k a s) e
have_steps line x k t r a s e = absurd cc

-- a name, which an item may follow too
named_have : (line : Line) (w : List ℕ) (k : List Frame) (p a : List Token) → Stack line k p → IsTrue (is_name w) → a ≡ p ++ (Word w ∷ []) → IsRead line k 8 (leaf (named w)) a
named_have line w k p a s h e = have_of line k 9 (leaf (named w)) a (omega arith) (fresh line k (leaf (named w)) p (Word w ∷ []) a s (name_text w h) (word_clear k w []) e)

item_steps : (line : Line) (w : List ℕ) (k : List Frame) (p a : List Token) → Stack line k p → IsTrue (is_name w) → a ≡ p ++ (Word w ∷ []) → Spelled line (Want (InItem w ∷ k)) (a ++ (Mark OpenItem ∷ []))
item_steps line w k p a s h e = λ y.
    begun (λ p. Stack line k p) k (Level 9) (at 0 y ∷ sign CloseItem ∷ []) 1 (tree (item w y)) p (Word w ∷ Mark OpenItem ∷ []) _ s ((let g = hole_high k in omega (arith, g)), omega arith)
    (λ c f. word_clear k w (Mark OpenItem ∷ c)) (λ c n i f. fronts.by _ (grammar.an_item w y h) (fronts.is (fronts.opens f))) (λ c f. texts.by _ (grammar.an_item w y h) (texts.is (texts.opens f)))
    (further a p (Word w ∷ []) (Mark OpenItem ∷ []) e)

pub named_steps : (line : Line) (w : List ℕ) (k : List Frame) (t : Token) (r : State) (a : List Token) → Spelled line (Named w k) a → step (Named w k) t ≡ Some r → Spelled line r (a ++ (t ∷ []))
named_steps line w k (Mark OpenItem) r a (p, s, h, f) e = moved line (Want (InItem w ∷ k)) r _ e (item_steps line w k p a s h f)
named_steps line w k t r a (p, s, h, f) e = have_steps line (leaf (named w)) k t r a (named_have line w k p a s h f) e

-- ---- the end of the line

whole_text : (line : Line) (j : List Frame) (x : Term) (y : LineMeaning) (a : List Token) → IsRead line j 0 x a → whole_of x j ≡ Some y → Derives line a y
whole_text line [] x y a c e =
    let f : tree x ≡ y = cc in
    let g : a ≡ c.own = c.whole ∙ ap (λ p. p ++ c.own) c.context.1 in
    subst (λ l. Derives l a y) (sym c.context.0) (subst (λ b. Derives (Level 0) b y) (sym g) (subst (λ y. Derives (Level 0) c.own y) f c.text))
whole_text line (Assigning w ∷ k) x y a c e =
    let f : assignment w x ≡ y = cc in
    let g = assigned line w k x a [] c (λ name b h. texts.by _ (grammar.assign w x name) (texts.is (texts.is (texts.part refl h texts.done)))) in
    subst (λ y. Derives line a y) f (subst (λ b. Derives line b (assignment w x)) (append-nil a) g)
whole_text line (f ∷ k) x y a c e = absurd cc

pub have_text : (line : Line) (x : Term) (k : List Frame) (y : LineMeaning) (a : List Token) → IsRead line k 8 x a → finish (Have x k) ≡ Some y → Derives line a y
have_text line x k y a s e = whole_text line (close 0 x k).1 (close 0 x k).0 y a (low line x k a s) e

pub named_text : (line : Line) (w : List ℕ) (k : List Frame) (y : LineMeaning) (a : List Token) → Spelled line (Named w k) a → finish (Named w k) ≡ Some y → Derives line a y
named_text line w k y a (p, s, h, f) e = have_text line (leaf (named w)) k y a (named_have line w k p a s h f) e
