-- What a state has read is a front, with the state's levels.
use Rattle.std.proofs.Common.{◌≡◌, ℕ, suc, ◌+◌, ◌≤◌, false, Option, Some, None, List, [], ◌∷◌, ◌++◌, pos, refl, sym, subst, arith}
use Rattle.std.proofs.lemmas.List.{append-nil}
use Rattle.scaled_decimal.specs.Decimals.{Decimal, decimal}
use Rattle.scaled_decimal.specs.Limits.{most_places}
use Rattle.scaled_decimal.specs.declared.rounding.Mode.TheVariants as modes
use Rattle.pap_tree.specs.declared.expression.Binary.TheVariants as binaries
use Rattle.pap_tree.specs.declared.expression.Known.TheVariants as knowns
use Rattle.pap_tree.specs.Term as terms
use Rattle.pap_tree.specs.Term.{Term, leaf, named}
use Rattle.pap_tree.specs.Declarations.{big}
use Rattle.pap_tree.specs.Tokens as tokens
use Rattle.pap_tree.specs.Tokens.{Token, Word, Operator, Mark, Dot}
use Rattle.pap_tree.specs.Grammar as grammar
use Rattle.pap_tree.specs.Grammar.{Item, Is, Scale, free, Line, Level, Assignment, Constant, Big, tree, declared, rounding, sign, word}
use Rattle.pap_tree.specs.Texts as texts
use Rattle.pap_tree.specs.Texts.{Derives}
use Rattle.pap_tree.specs.Names.{is_name}
use Rattle.pap_tree.specs.declared.expression.Call.TheVariants as calls
use Rattle.pap_tree.specs.Stopping.{new_big_decimal}
use Rattle.std.specs.Prelude.{IsTrue, codes}
use Rattle.pap_tree.specs.Fronts as fronts
use Rattle.pap_tree.specs.Fronts.{Front}
use Rattle.expr_grammar.specs.Machine as machine
use Rattle.expr_grammar.specs.Machine.{Frame, Room, Alone, InTable, ScaleUse, valuing, declaring, Slot, OfLine, OfValue, OfNew, Holder, the_decimal, the_mode, holder_word, State, Want, Have, Named, Due, Member, Static, ScaleDue, Parting, Moding, Moded, Naming, Signed, Minus, ValuedInt, ValuedPoint, Settling, Listing, Listed, Done, level, level_of, level_of_job, level_of_slot}
use Rattle.expr_grammar.proofs.Holes.{hole, clashes}
use Rattle.expr_grammar.proofs.Begins.{word_clear, empty_clear}
use Rattle.expr_grammar.proofs.Closing.{operator_high}
use Rattle.expr_grammar.proofs.Pending.{Pending, Plugs, pass_is, front_here, front_inside, front_read, text_front}
use Rattle.expr_grammar.proofs.Starts.{begun, started}
use Rattle.expr_grammar.proofs.Levels.{some_term}
use Rattle.expr_grammar.proofs.Stacks.{Stack, plug}
use Rattle.expr_grammar.proofs.Closed.{IsRead}
use Rattle.expr_grammar.proofs.Spelled.{Place, PendingBig, IsSlot, scaling_of, value_tokens, class_tokens, Spelled}

-- some front with so many levels
abbrev pub IsAt : Line → List Token → ℕ → Type 0
IsAt line a n = (i : Option Item) × Front line a n i

pub level_is : (line : Line) (a : List Token) (m n : ℕ) (i : Option Item) → m ≡ n → Front line a m i → Front line a n i
level_is line a m n i e h = subst (λ n. Front line a n i) e h

pub at_level : (line : Line) (a : List Token) (m n : ℕ) (i : Option Item) → m ≡ n → Front line a m i → IsAt line a n
at_level line a m n i e h = (i, level_is line a m n i e h)

pub placed : (line : Line) (a b : List Token) (n : ℕ) (i : Option Item) → a ≡ b → Front line a n i → IsAt line b n
placed line a b n i e h = (i, subst (λ b. Front line b n i) e h)

lined : (l line : Line) (a : List Token) (n : ℕ) (i : Option Item) → l ≡ line → Front l a n i → IsAt line a n
lined l line a n i e h = (i, subst (λ l. Front l a n i) e h)

-- no stack waits for more than the operand of a prefix operator
pub hole_high : (k : List Frame) → hole k ≤ 7
hole_high [] = omega arith
hole_high (machine.Negating ∷ k) = omega arith
hole_high (machine.Denying ∷ k) = omega arith
hole_high (machine.Left o x ∷ k) = let h = operator_high o in omega (arith, h)
hole_high (f ∷ k) = omega arith

pub plug_whole : (line : Line) (k : List Frame) → Plugs (λ p. Stack line k p) k (Level 9) line (level k)
plug_whole line k = plug line k 9 (let h = hole_high k in omega (arith, h)) (omega arith)

pub plug_call : (line : Line) (k : List Frame) → Plugs (λ p. Stack line k p) k (Level 8) line (level k)
plug_call line k = plug line k 8 (let h = hole_high k in omega (arith, h)) (omega arith)

-- a front of a decimal makes a front of the constant
pub plug_big : (line : Line) (r : Room) → Plugs (λ p. Place line r p) [] Big line 0
plug_big line Alone = λ p b n i s f cl.
    subst (λ l. Front l (p ++ b) (n + 0) i) (sym s.0) (subst (λ p. Front Constant (p ++ b) (n + 0) i) (sym s.1)
    (fronts.by _ (grammar.big_constant (decimal (pos 0) 0)) (fronts.inside (n + 0) (omega arith) refl f)))
plug_big line (InTable ds) = λ p b n i s f cl.
    subst (λ l. Front l (p ++ b) (n + 0) i) (sym s.line)
    (s.fronts b (n + 0) i (fronts.by _ (grammar.last_big (decimal (pos 0) 0)) (fronts.inside (n + 0) (omega arith) refl f)))

-- ---- the states

pub fresh : (line : Line) (k : List Frame) (x : Term) (p b a : List Token) → Stack line k p → Derives (Level 9) b (tree x) → clashes (Want k) b ≡ false → a ≡ p ++ b
    → IsRead line k 9 x a
fresh line k x p b a s t cl e = record { before = p; own = b; context = s; whole = e; fits = ((let h = hole_high k in omega (arith, h)), omega arith); clear = cl; text = t }

pub name_text : (w : List ℕ) → IsTrue (is_name w) → Derives (Level 9) (Word w ∷ []) (tree (leaf (named w)))
name_text w h = texts.by _ (grammar.a_name w h) (texts.is texts.done)

-- a call's point was read
pub dotted : (line : Line) (k : List Frame) (x z : Term) (more : List Item) (p a : List Token) → grammar.Way (Level 8) (grammar.at 8 x ∷ sign Dot ∷ more) (tree z)
    → IsRead line k 8 x p → a ≡ p ++ (Mark Dot ∷ []) → Pending (λ p. Stack line k p) k (Level 8) more 0 (tree z) a
dotted line k x z more p a w r e =
    subst (λ a. Pending (λ p. Stack line k p) k (Level 8) more 0 (tree z) a) (sym e)
    (pass_is (λ p. Stack line k p) k (Level 8) (Mark Dot) more 0 (tree z) p (started (λ p. Stack line k p) k (Level 8) 8 x (sign Dot ∷ more) (tree z) p r.fits w r))

-- BigDecimal and a point were read
pub of_class : (line : Line) (k : List Frame) (z : Term) (more : List Item) (p a : List Token)
    → grammar.Way (Level 9) (word (codes "BigDecimal") ∷ sign Dot ∷ more) (tree z) → Stack line k p → a ≡ p ++ class_tokens → Pending (λ p. Stack line k p) k (Level 9) more 0 (tree z) a
of_class line k z more p a w s e =
    begun (λ p. Stack line k p) k (Level 9) more 0 (tree z) p class_tokens a s ((let h = hole_high k in omega (arith, h)), omega arith) (λ c f. word_clear k (codes "BigDecimal") (Mark Dot ∷ c))
    (λ c n i f. fronts.by _ w (fronts.is (fronts.is f))) (λ c f. texts.by _ w (texts.is (texts.is f))) e

-- the same of a decimal of a constant
pub of_big_class : (line : Line) (r : Room) (d : Decimal) (more : List Item) (p a : List Token)
    → grammar.Way Big (word (codes "BigDecimal") ∷ sign Dot ∷ more) (declared (big d)) → Place line r p → a ≡ p ++ class_tokens → PendingBig line r more 0 d a
of_big_class line r d more p a w s e =
    begun (λ p. Place line r p) [] Big more 0 (declared (big d)) p class_tokens a s tt (λ c f. refl)
    (λ c n i f. fronts.by _ w (fronts.is (fronts.is f))) (λ c f. texts.by _ w (texts.is (texts.is f))) e

pub of_big_value : (line : Line) (r : Room) (d : Decimal) (more : List Item) (p a : List Token)
    → grammar.Way Big (word (codes "BigDecimal") ∷ sign Dot ∷ word (codes "valueOf") ∷ grammar.opens tokens.Open ∷ more) (declared (big d)) → Place line r p → a ≡ p ++ value_tokens
    → PendingBig line r more 1 d a
of_big_value line r d more p a w s e =
    begun (λ p. Place line r p) [] Big more 1 (declared (big d)) p value_tokens a s tt (λ c f. refl)
    (λ c n i f. fronts.by _ w (fronts.is (fronts.is (fronts.is (fronts.opens f))))) (λ c f. texts.by _ w (texts.is (texts.is (texts.is (texts.opens f))))) e

pub of_big_new : (line : Line) (r : Room) (d : Decimal) (more : List Item) (p a : List Token)
    → grammar.Way Big (word (codes "new") ∷ word (codes "BigDecimal") ∷ grammar.opens tokens.Open ∷ more) (declared (big d)) → Place line r p → a ≡ p ++ new_big_decimal
    → PendingBig line r more 1 d a
of_big_new line r d more p a w s e =
    begun (λ p. Place line r p) [] Big more 1 (declared (big d)) p new_big_decimal a s tt (λ c f. refl)
    (λ c n i f. fronts.by _ w (fronts.is (fronts.is (fronts.opens f)))) (λ c f. texts.by _ w (texts.is (texts.is (texts.opens f)))) e

-- the place of a scale
abbrev pub place_of : ScaleUse → grammar.Scaling
place_of (valuing x k) = grammar.of_value
place_of (machine.rounding r k) = scaling_of r
place_of (declaring i r) = grammar.of_value

none : 0 ≤ most_places
none = omega arith

-- where a scale is due it comes next
pub scale_front : (line : Line) (j : ScaleUse) (a : List Token) → Spelled line (ScaleDue j) a → Front line a (level_of_job j) (Some (Scale (place_of j) 0))
scale_front line (valuing x k) a s = level_is line a (1 + level k) (suc (level k)) _ (omega arith) (front_here _ k (Level 9) line (level k) _ _ 1 _ a (plug_whole line k) refl (s 0 none))
scale_front line (machine.rounding r k) a s = level_is line a (1 + level k) (suc (level k)) _ (omega arith) (front_here _ k (Level 8) line (level k) _ _ 1 _ a (plug_call line k) refl (s 0 modes.Up none))
scale_front line (declaring i r) a s = level_is line a (1 + 0) 1 _ (omega arith) (front_here _ [] Big line 0 _ _ 1 _ a (plug_big line r) refl (s 0 none))

mode_front : (h : Holder) → Front grammar.Rounding (Word (holder_word h) ∷ Mark Dot ∷ []) 0 (Some (word (machine.held_word h modes.Up)))
mode_front the_decimal = fronts.by _ (grammar.old_mode modes.Up) (fronts.is (fronts.is fronts.here))
mode_front the_mode = fronts.by _ (grammar.new_mode modes.Up) (fronts.is (fronts.is fronts.here))

minus_front : (f : grammar.LiteralForm) (n : tokens.Number) → grammar.form_of n ≡ f → Front (grammar.Signed f) (Operator binaries.Sub ∷ []) 1 (Some (Is (tokens.Literal n)))
minus_front f n e = fronts.by _ (grammar.with_sign f n e) (fronts.opens fronts.here)

lone_front : (line : Line) (a b : List Token) (n : ℕ) (i : Option Item) → (line ≡ Constant) × (a ≡ []) → Front Constant b n i → Front line (a ++ b) n i
lone_front line a b n i (e, f) h = subst (λ l. Front l (a ++ b) n i) (sym e) (subst (λ a. Front Constant (a ++ b) n i) (sym f) h)

slot_front : (line : Line) (s : Slot) (a : List Token) → IsSlot line s a → IsAt line a (level_of_slot s)
slot_front line OfLine a s = placed line _ a 0 _ (append-nil a) (lone_front line a [] 0 _ s (fronts.by _ (grammar.big_constant (decimal (pos 0) 0)) fronts.here))
slot_front line (OfValue r) a (p, s, e) =
    at_level line a (1 + 0) 1 _ (omega arith) (front_here _ [] Big line 0 _ _ 1 _ a (plug_big line r) refl (of_big_value line r (decimal (pos 0) 0) _ p a (grammar.big_of_int (pos 0)) s e))
slot_front line (OfNew r) a (p, s, e) =
    at_level line a (1 + 0) 1 _ (omega arith) (front_here _ [] Big line 0 _ _ 1 _ a (plug_big line r) refl (of_big_new line r (decimal (pos 0) 0) _ p a (grammar.big_new (pos 0)) s e))

minus_slot : (line : Line) (s : Slot) (p a : List Token) → IsSlot line s p → a ≡ p ++ (Operator binaries.Sub ∷ []) → IsAt line a (suc (level_of_slot s))
minus_slot line OfLine p a s e =
    placed line _ a 1 _ (sym e) (lone_front line p (Operator binaries.Sub ∷ []) 1 _ s
    (fronts.by _ (grammar.number_constant grammar.an_int (terms.whole (pos 0))) (fronts.inside 1 refl refl (minus_front grammar.an_int (tokens.int 0) refl))))
minus_slot line (OfValue r) p a (q, s, f) e =
    placed line _ a 2 _ (sym e) (level_is line _ ((1 + 1) + 0) 2 _ (omega arith)
    (front_inside _ [] Big line 0 free (grammar.Signed grammar.an_int) _ _ 1 _ p (Operator binaries.Sub ∷ []) 1 _ (plug_big line r) refl (minus_front grammar.an_int (tokens.int 0) refl)
    (of_big_value line r (decimal (pos 0) 0) _ q p (grammar.big_of_int (pos 0)) s f)))
minus_slot line (OfNew r) p a (q, s, f) e =
    placed line _ a 2 _ (sym e) (level_is line _ ((1 + 1) + 0) 2 _ (omega arith)
    (front_inside _ [] Big line 0 free (grammar.Signed grammar.an_int) _ _ 1 _ p (Operator binaries.Sub ∷ []) 1 _ (plug_big line r) refl (minus_front grammar.an_int (tokens.int 0) refl)
    (of_big_new line r (decimal (pos 0) 0) _ q p (grammar.big_new (pos 0)) s f)))

pub is_front : (line : Line) (s : State) (a : List Token) → Spelled line s a → IsAt line a (level_of s)
is_front line (Want k) a s =
    placed line _ a (level k) _ (append-nil a) (level_is line (a ++ []) (0 + level k) (level k) _ (omega arith)
    (plug_whole line k a [] 0 _ s (fronts.by _ (grammar.in_brackets some_term) fronts.here) (empty_clear k)))
is_front line (Have x k) a s = at_level line a (0 + level k) (level k) _ (omega arith) (front_read _ k (Level 8) line (level k) (tree x) a (plug_call line k) s)
is_front line (Named w k) a (p, s, h, e) =
    at_level line a (0 + level k) (level k) _ (omega arith) (front_read _ k (Level 9) line (level k) (tree (leaf (named w))) a (plug_whole line k)
    (fresh line k (leaf (named w)) p (Word w ∷ []) a s (name_text w h) (word_clear k w []) e))
is_front line (Due n t s) a h = h.0
is_front line (Member x k) a (p, r, e) =
    at_level line a (0 + level k) (level k) _ (omega arith) (front_here _ k (Level 8) line (level k) _ _ 0 _ a (plug_call line k) refl (dotted line k x _ _ p a (grammar.call calls.Add x some_term) r e))
is_front line (Static k) a (p, s, e) =
    at_level line a (0 + level k) (level k) _ (omega arith) (front_here _ k (Level 9) line (level k) _ _ 0 _ a (plug_whole line k) refl (of_class line k _ _ p a (grammar.a_known knowns.Zero) s e))
is_front line (ScaleDue j) a s = (_, scale_front line j a s)
is_front line (Parting r s k) a h = at_level line a (1 + level k) (suc (level k)) _ (omega arith) (front_here _ k (Level 8) line (level k) _ _ 1 _ a (plug_call line k) refl (h.0 modes.Up))
is_front line (Moding r s k) a h = at_level line a (1 + level k) (suc (level k)) _ (omega arith) (front_here _ k (Level 8) line (level k) _ _ 1 _ a (plug_call line k) refl (h modes.Up))
is_front line (Moded h r s k) a (p, q, e) =
    placed line _ a (suc (level k)) _ (sym e) (level_is line _ ((1 + 0) + level k) (suc (level k)) _ (omega arith)
    (front_inside _ k (Level 8) line (level k) free grammar.Rounding _ _ 1 _ p (Word (holder_word h) ∷ Mark Dot ∷ []) 0 _ (plug_call line k) refl (mode_front h) (q modes.Up)))
is_front line Naming a (e, f) =
    lined Assignment line a 0 (Some (word (codes "A"))) (sym e) (subst (λ a. Front Assignment a 0 (Some (word (codes "A")))) (sym f) (fronts.by _ (grammar.assign (codes "A") some_term refl) fronts.here))
is_front line (Signed s) a h = slot_front line s a h
is_front line (Minus s) a (p, h, e) = minus_slot line s p a h e
is_front line (ValuedInt i r) a h = at_level line a (1 + 0) 1 _ (omega arith) (front_here _ [] Big line 0 _ _ 1 _ a (plug_big line r) refl h.0)
is_front line (ValuedPoint d r) a h = h.0
is_front line (Settling r) a (p, s, e) =
    at_level line a (0 + 0) 0 _ (omega arith) (front_here _ [] Big line 0 _ _ 0 _ a (plug_big line r) refl (of_big_class line r _ _ p a (grammar.big_known knowns.Zero) s e))
is_front line (Listing ds) a h =
    lined Constant line a 0 (Some (grammar.a_big (decimal (pos 0) 0))) (sym h.line)
    (subst (λ b. Front Constant b 0 (Some (grammar.a_big (decimal (pos 0) 0)))) (append-nil a) (h.fronts [] 0 _ (fronts.by _ (grammar.last_big (decimal (pos 0) 0)) fronts.here)))
is_front line (Listed ds) a h = (h.next, subst (λ l. Front l a 0 h.next) (sym h.line) h.front)
is_front line (Done x) a h = (None, text_front h)
