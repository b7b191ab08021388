-- What is read after a token where an expression is due.
use Rattle.std.proofs.Common.{◌≡◌, ℕ, suc, ◌+◌, ◌≤◌, inl, inr, false, Option, Some, None, List, [], ◌∷◌, ◌++◌, refl, sym, subst, append_assoc, arith}
use Rattle.std.specs.Prelude.{codes}
use Rattle.scaled_decimal.specs.Decimals.{Decimal}
use Rattle.pap_tree.specs.Names.{is_name}
use Rattle.pap_tree.specs.declared.expression.Known.TheVariants as knowns
use Rattle.pap_tree.specs.declared.expression.Unary.TheVariants as unaries
use Rattle.pap_tree.specs.declared.expression.Binary.TheVariants as binaries
use Rattle.pap_tree.specs.Term.{Leaf, Term, text, unary, new_big, leaf, one}
use Rattle.pap_tree.specs.Tokens as tokens
use Rattle.pap_tree.specs.Tokens.{Number, Token, Literal, Quoted, Word, Operator, Mark, Dot, Open, Close}
use Rattle.pap_tree.specs.Grammar as grammar
use Rattle.pap_tree.specs.Grammar.{Is, Part, no_number, no_point, Line, Level, tree, at, sign, word, leaf_of, negative_of, form_of}
use Rattle.pap_tree.specs.Texts as texts
use Rattle.pap_tree.specs.Texts.{Derives}
use Rattle.pap_tree.specs.Fronts as fronts
use Rattle.pap_tree.specs.Stopping.{new_big_decimal}
use Rattle.expr_grammar.specs.Machine.{Frame, InBrackets, InNew, Negating, Denying, Head, the_class, a_new, head_word, head_of, State, Want, Have, Named, Due, Static, level, taken, literal_step, quoted_step, begun as begins_with, step}
use Rattle.expr_grammar.proofs.Holes.{clashes}
use Rattle.expr_grammar.proofs.Begins.{word_clear, mark_clear, minus_clear}
use Rattle.expr_grammar.proofs.Words.{picked, either_some}
use Rattle.expr_grammar.proofs.Pending.{Pending, pass_is, finished, front_here, further, Fits}
use Rattle.expr_grammar.proofs.Starts.{begun}
use Rattle.expr_grammar.proofs.Levels.{some_term}
use Rattle.expr_grammar.proofs.Stacks.{Stack, plug}
use Rattle.expr_grammar.proofs.Closed.{IsRead, loosened}
use Rattle.expr_grammar.proofs.Spelled.{Spelled}
use Rattle.expr_grammar.proofs.SpelledFronts.{hole_high, fresh, plug_whole, at_level}

pub moved : (line : Line) (r s : State) (a : List Token) → Some r ≡ Some s → Spelled line r a → Spelled line s a
moved line r s a e h = let f : r ≡ s = cc in subst (λ s. Spelled line s a) f h

-- ---- an expression is read

pub have_of : (line : Line) (k : List Frame) (n : ℕ) (x : Term) (a : List Token) → 8 ≤ n → IsRead line k n x a → Spelled line (Have x k) a
have_of line k n x a h r = loosened line k n 8 x a h (let g = hole_high k in omega (arith, g)) r

pub have_fresh : (line : Line) (k : List Frame) (x : Term) (p b a : List Token) → Stack line k p → Derives (Level 9) b (tree x) → clashes (Want k) b ≡ false → a ≡ p ++ b
    → Spelled line (Have x k) a
have_fresh line k x p b a s t cl e = have_of line k 9 x a (omega arith) (fresh line k x p b a s t cl e)

-- a closing bracket was read, and nothing of the way is left
pub have_closed : (line : Line) (k : List Frame) (n : ℕ) (t : Token) (x : Term) (a : List Token) → 8 ≤ n
    → Pending (λ p. Stack line k p) k (Level n) (Is t ∷ []) 1 (tree x) a → Spelled line (Have x k) (a ++ (t ∷ []))
have_closed line k n t x a h p =
    have_of line k n x (a ++ (t ∷ [])) h (finished (λ p. Stack line k p) k (Level n) 1 (tree x) (a ++ (t ∷ [])) (pass_is (λ p. Stack line k p) k (Level n) t [] 1 (tree x) a p))

-- a closing bracket is due
pub close_due : (line : Line) (k : List Frame) (n : ℕ) (x : Term) (a : List Token) → 8 ≤ n
    → Pending (λ p. Stack line k p) k (Level n) (sign Close ∷ []) 1 (tree x) a → Spelled line (Due (suc (level k)) (Mark Close) (Have x k)) a
close_due line k n x a h p =
    (at_level line a (1 + level k) (suc (level k)) _ (omega arith) (front_here _ k (Level n) line (level k) _ _ 1 _ a (plug line k n p.fits.0 p.fits.1) refl p), have_closed line k n (Mark Close) x a h p, tt)

-- ---- literals

literal_text : (n : Number) → Derives (Level 9) (Literal n ∷ []) (tree (leaf (leaf_of n)))
literal_text n = texts.by _ (grammar.a_literal (form_of n) (leaf_of n)) (texts.part refl (texts.by _ (grammar.without_sign (form_of n) n refl) (texts.is texts.done)) texts.done)

minus_text : (n : Number) → Derives (Level 9) (Operator binaries.Sub ∷ Literal n ∷ []) (tree (leaf (negative_of n)))
minus_text n = texts.by _ (grammar.a_literal (form_of n) (negative_of n)) (texts.part refl (texts.by _ (grammar.with_sign (form_of n) n refl) (texts.opens (texts.is texts.done))) texts.done)

-- a literal was taken that doesn't clash
minus_clashes : (k : List Frame) (n : Number) (l : Leaf) (r : State) → taken k n l ≡ Some r → (Some (Have (leaf l) k) ≡ Some r) × (clashes (Want k) (Operator binaries.Sub ∷ Literal n ∷ []) ≡ false)
minus_clashes [] n l r e = (e, refl)
minus_clashes (Negating ∷ k) n l r e = (e, refl)
minus_clashes (InNew ∷ k) (tokens.int n) l r e = (e, refl)
minus_clashes (InNew ∷ k) (tokens.long n) l r e = (e, refl)
minus_clashes (InNew ∷ k) (tokens.point d) l r e = absurd cc
minus_clashes (f ∷ k) n l r e = (e, refl)

plain : (line : Line) (k : List Frame) (n : Number) (r : State) (a : List Token) → Stack line k a → clashes (Want k) (Literal n ∷ []) ≡ false → Some (Have (leaf (leaf_of n)) k) ≡ Some r
    → Spelled line r (a ++ (Literal n ∷ []))
plain line k n r a s cl e = moved line (Have (leaf (leaf_of n)) k) r _ e (have_fresh line k (leaf (leaf_of n)) a (Literal n ∷ []) _ s (literal_text n) cl refl)

literal_steps : (line : Line) (k : List Frame) (n : Number) (r : State) (a : List Token) → Stack line k a → literal_step k n ≡ Some r → Spelled line r (a ++ (Literal n ∷ []))
literal_steps line [] n r a s e = plain line [] n r a s refl e
literal_steps line (Negating ∷ k) n r a s e =
    let c = minus_clashes k n (negative_of n) r e in
    let (p, q, f) = s.1 in
    moved line (Have (leaf (negative_of n)) k) r _ c.0
    (have_fresh line k (leaf (negative_of n)) p (Operator binaries.Sub ∷ Literal n ∷ []) _ q (minus_text n) c.1 (further a p (Operator binaries.Sub ∷ []) (Literal n ∷ []) f))
literal_steps line (InNew ∷ k) (tokens.int n) r a s e = plain line (InNew ∷ k) (tokens.int n) r a s refl e
literal_steps line (InNew ∷ k) (tokens.long n) r a s e = plain line (InNew ∷ k) (tokens.long n) r a s refl e
literal_steps line (InNew ∷ k) (tokens.point d) r a s e = absurd cc
literal_steps line (f ∷ k) n r a s e = plain line (f ∷ k) n r a s refl e

quoted_steps : (line : Line) (k : List Frame) (d : Decimal) (r : State) (a : List Token) → Stack line k a → quoted_step k d ≡ Some r → Spelled line r (a ++ (Quoted d ∷ []))
quoted_steps line (InNew ∷ k) d r a s e = moved line _ r _ e (close_due line k 9 (leaf (text d)) _ (omega arith) (pass_is _ k (Level 9) (Quoted d) _ 1 _ a (s.1 d)))
quoted_steps line k d r a s e = absurd cc

-- ---- words

high : (k : List Frame) → Fits (Level 9) k
high k = ((let h = hole_high k in omega (arith, h)), omega arith)

class_begins : (line : Line) (k : List Frame) (a : List Token) → Stack line k a → Spelled line (Due (level k) (Mark Dot) (Static k)) (a ++ (Word (codes "BigDecimal") ∷ []))
class_begins line k a s = (
  at_level line _ (0 + level k) (level k) _ (omega arith) (front_here (λ p. Stack line k p) k (Level 9) line (level k) _ _ 0 _ _ (plug_whole line k) refl
      (begun _ k (Level 9) (sign Dot ∷ word (codes "ZERO") ∷ []) 0 _ a (Word (codes "BigDecimal") ∷ []) _ s (high k) (λ c f. word_clear k (codes "BigDecimal") c)
      (λ c n i f. fronts.by _ (grammar.a_known knowns.Zero) (fronts.is f)) (λ c f. texts.by _ (grammar.a_known knowns.Zero) (texts.is f)) refl)),
  (a, s, append_assoc a (Word (codes "BigDecimal") ∷ []) (Mark Dot ∷ [])),
  refl,
)

abbrev new_class : List Token
new_class = Word (codes "new") ∷ Word (codes "BigDecimal") ∷ []

new_opened : (line : Line) (k : List Frame) (a b : List Token) → Stack line k a → b ≡ a ++ new_big_decimal → Stack line (InNew ∷ k) b
new_opened line k a b s e = (
  λ y. begun (λ p. Stack line k p) k (Level 9) (Part no_point (Level 0) (tree y) ∷ sign Close ∷ []) 1 (tree (one new_big y)) a new_big_decimal b s (high k)
      (λ c f. word_clear k (codes "new") (Word (codes "BigDecimal") ∷ Mark Open ∷ c))
      (λ c n i f. fronts.by _ (grammar.a_new_big y) (fronts.is (fronts.is (fronts.opens f)))) (λ c f. texts.by _ (grammar.a_new_big y) (texts.is (texts.is (texts.opens f)))) e,
  λ d. begun (λ p. Stack line k p) k (Level 9) (Is (Quoted d) ∷ sign Close ∷ []) 1 (tree (leaf (text d))) a new_big_decimal b s (high k)
      (λ c f. word_clear k (codes "new") (Word (codes "BigDecimal") ∷ Mark Open ∷ c))
      (λ c n i f. fronts.by _ (grammar.a_new_text d) (fronts.is (fronts.is (fronts.opens f)))) (λ c f. texts.by _ (grammar.a_new_text d) (texts.is (texts.is (texts.opens f)))) e,
  (a, e),
)

new_due : (line : Line) (k : List Frame) (a b : List Token) → Stack line k a → b ≡ a ++ new_class → Spelled line (Due (level k) (Mark Open) (Want (InNew ∷ k))) b
new_due line k a b s e = (
  at_level line b (0 + level k) (level k) (Some (grammar.opens Open)) (omega arith) (front_here (λ p. Stack line k p) k (Level 9) line (level k) _ _ 0 _ b (plug_whole line k) refl
      (begun (λ p. Stack line k p) k (Level 9) (grammar.opens Open ∷ Part no_point (Level 0) (tree some_term) ∷ sign Close ∷ []) 0 (tree (one new_big some_term)) a new_class b s (high k)
      (λ c f. word_clear k (codes "new") (Word (codes "BigDecimal") ∷ c))
      (λ c n i f. fronts.by _ (grammar.a_new_big some_term) (fronts.is (fronts.is f))) (λ c f. texts.by _ (grammar.a_new_big some_term) (texts.is (texts.is f))) e)),
  new_opened line k a (b ++ (Mark Open ∷ [])) s (further b a new_class (Mark Open ∷ []) e),
  tt,
)

new_begun : (line : Line) (k : List Frame) (a b : List Token) → Stack line k a → b ≡ a ++ (Word (codes "new") ∷ [])
    → Spelled line (Due (level k) (Word (codes "BigDecimal")) (Due (level k) (Mark Open) (Want (InNew ∷ k)))) b
new_begun line k a b s e = (
  at_level line b (0 + level k) (level k) (Some (word (codes "BigDecimal"))) (omega arith) (front_here (λ p. Stack line k p) k (Level 9) line (level k) _ _ 0 _ b (plug_whole line k) refl
      (begun (λ p. Stack line k p) k (Level 9) (word (codes "BigDecimal") ∷ grammar.opens Open ∷ Part no_point (Level 0) (tree some_term) ∷ sign Close ∷ []) 0 (tree (one new_big some_term)) a
      (Word (codes "new") ∷ []) b s (high k) (λ c f. word_clear k (codes "new") c)
      (λ c n i f. fronts.by _ (grammar.a_new_big some_term) (fronts.is f)) (λ c f. texts.by _ (grammar.a_new_big some_term) (texts.is f)) e)),
  new_due line k a (b ++ (Word (codes "BigDecimal") ∷ [])) s (further b a (Word (codes "new") ∷ []) (Word (codes "BigDecimal") ∷ []) e),
  refl,
)

new_begins : (line : Line) (k : List Frame) (a : List Token) → Stack line k a
    → Spelled line (Due (level k) (Word (codes "BigDecimal")) (Due (level k) (Mark Open) (Want (InNew ∷ k)))) (a ++ (Word (codes "new") ∷ []))
new_begins line k a s = new_begun line k a (a ++ (Word (codes "new") ∷ [])) s refl

head_steps : (line : Line) (k : List Frame) (w : List ℕ) (o : Option Head) (r : State) (a : List Token) → head_of w ≡ o → Stack line k a → begins_with k o ≡ Some r
    → Spelled line r (a ++ (Word w ∷ []))
head_steps line k w None r a f s e = absurd cc
head_steps line k w (Some the_class) r a f s e =
    subst (λ w. Spelled line r (a ++ (Word w ∷ []))) (sym (picked head_word w (the_class ∷ a_new ∷ []) the_class f)) (moved line _ r _ e (class_begins line k a s))
head_steps line k w (Some a_new) r a f s e =
    subst (λ w. Spelled line r (a ++ (Word w ∷ []))) (sym (picked head_word w (the_class ∷ a_new ∷ []) a_new f)) (moved line _ r _ e (new_begins line k a s))

word_steps : (line : Line) (k : List Frame) (w : List ℕ) (r : State) (a : List Token) → Stack line k a → step (Want k) (Word w) ≡ Some r → Spelled line r (a ++ (Word w ∷ []))
word_steps line k w r a s e = elim (either_some (is_name w) (Named w k) r (begins_with k (head_of w)) e) as (λ z. Spelled line r (a ++ (Word w ∷ []))) [
  | inl f ↦ subst (λ r. Spelled line r (a ++ (Word w ∷ []))) f.1 (a, s, f.0, refl)
  | inr f ↦ head_steps line k w (head_of w) r a refl s f.1
]

-- ---- all of them

pub want_steps : (line : Line) (k : List Frame) (t : Token) (r : State) (a : List Token) → Stack line k a → step (Want k) t ≡ Some r → Spelled line r (a ++ (t ∷ []))
want_steps line k (Literal n) r a s e = literal_steps line k n r a s e
want_steps line k (Quoted d) r a s e = quoted_steps line k d r a s e
want_steps line k (Word w) r a s e = word_steps line k w r a s e
want_steps line k (Operator binaries.Sub) r a s e = moved line (Want (Negating ∷ k)) r _ e (
  λ y. begun _ k (Level 7) (Part no_number (Level 7) (tree y) ∷ []) 1 (tree (one (unary unaries.Minus) y)) a (Operator binaries.Sub ∷ []) _ s (hole_high k, omega arith)
      (λ c f. minus_clear k c f) (λ c n i f. fronts.by _ (grammar.minus y) (fronts.opens f)) (λ c f. texts.by _ (grammar.minus y) (texts.opens f)) refl,
  (a, s, refl),
)
want_steps line k (Mark tokens.Bang) r a s e = moved line (Want (Denying ∷ k)) r _ e
    (λ y. begun _ k (Level 7) (at 7 y ∷ []) 1 (tree (one (unary unaries.Not) y)) a (Mark tokens.Bang ∷ []) _ s (hole_high k, omega arith)
    (λ c f. mark_clear k tokens.Bang c) (λ c n i f. fronts.by _ (grammar.negation y) (fronts.opens f)) (λ c f. texts.by _ (grammar.negation y) (texts.opens f)) refl)
want_steps line k (Mark Open) r a s e = moved line (Want (InBrackets ∷ k)) r _ e
    (λ y. begun _ k (Level 9) (at 0 y ∷ sign Close ∷ []) 1 (tree y) a (Mark Open ∷ []) _ s (high k)
    (λ c f. mark_clear k Open c) (λ c n i f. fronts.by _ (grammar.in_brackets y) (fronts.opens f)) (λ c f. texts.by _ (grammar.in_brackets y) (texts.opens f)) refl)
want_steps line k t r a s e = absurd cc
