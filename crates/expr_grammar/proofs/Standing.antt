-- Where the machine stands after tokens that a cause speaks of.
use Rattle.std.proofs.Common.{◌≡◌, ℕ, true, Some, List, [], ◌∷◌, ◌++◌, refl, sym, ap, subst, ◌∙◌, append_assoc}
use Rattle.std.specs.Prelude.{codes, nat_le}
use Rattle.scaled_decimal.specs.Decimals.{Decimal}
use Rattle.scaled_decimal.specs.Limits.{most_places}
use Rattle.pap_tree.specs.declared.expression.Binary.TheVariants as binaries
use Rattle.pap_tree.specs.Tokens.{Token, Literal, Word, Operator, Mark, Dot, Open, int, point}
use Rattle.pap_tree.specs.Grammar as grammar
use Rattle.pap_tree.specs.Grammar.{Line, of_setting}
use Rattle.pap_tree.specs.Stopping as stopping
use Rattle.pap_tree.specs.Stopping.{WantsScale, IsFraction, new_big_decimal, unsupported, binary_fraction}
use Rattle.expr_grammar.specs.Lines.{IsWholeLine}
use Rattle.expr_grammar.specs.Machine.{Frame, InNew, dividing, setting, valuing, rounding, declaring, OfLine, OfValue, OfNew, the_decimal, the_mode, State, Want, Have, Named, Due, ScaleDue, Parting, Moded, Signed, Listing, same_token, step, steps, first_state}
use Rattle.expr_grammar.specs.Run.{point_cause, close_cause}
use Rattle.expr_grammar.proofs.Handles.{wants}
use Rattle.expr_grammar.proofs.Forward.{some_is}
use Rattle.expr_grammar.proofs.Words.{if_some, token_is}
use Rattle.expr_grammar.proofs.Spelled.{Spelled, Tells, awaits}
use Rattle.expr_grammar.proofs.Reading.{spelled, before_last, front_reaches}

-- ---- where the machine stands after some tokens

state_is : (r s : State) (P : State → Type 0) → Some r ≡ Some s → P r → P s
state_is r s P e h = subst P (some_is r s e) h

-- where a scale comes next, the state waits for one
pub wants_state : (line : Line) → IsWholeLine line → (a : List Token) (s : State) (p : grammar.Scaling) → steps (first_state line) a ≡ Some s → WantsScale line a p → wants s ≡ Some p
wants_state line w a s p e (n, v, h) =
    let g = front_reaches line w a n (Some (grammar.Scale p v)) h in
    subst (λ s. wants s ≡ Some p) (some_is g.to s (sym g.run ∙ e)) g.expects

dot_step : (line : Line) (r s : State) (b : List Token) → Spelled line r b → step r (Mark Dot) ≡ Some s → awaits s ≡ true
dot_step line (Have x k) s b h e = state_is _ s (λ s. awaits s ≡ true) e refl
dot_step line (Named w k) s b h e = state_is _ s (λ s. awaits s ≡ true) e refl
dot_step line (Due n u q) s b h e =
    let (c, f) = if_some (same_token u (Mark Dot)) q s e in
    subst (λ s. awaits s ≡ true) f (subst (λ u. Tells u q) (token_is u (Mark Dot) c) h.2)
dot_step line (Signed OfLine) s b h e = absurd cc
dot_step line (Signed (OfValue r)) s b h e = absurd cc
dot_step line (Signed (OfNew r)) s b h e = absurd cc
dot_step line r s b h e = absurd cc

-- after a point a word is due
pub dot_state : (line : Line) → IsWholeLine line → (a b : List Token) (s : State) → steps (first_state line) a ≡ Some s → a ≡ b ++ (Mark Dot ∷ []) → awaits s ≡ true
dot_state line w a b s e f =
    let p = before_last line b (Mark Dot) s (ap (steps (first_state line)) (sym f) ∙ e) in
    dot_step line p.state s b (spelled line w b p.state p.run) p.last

-- after `new` there is one way on
record IsNew (s : State) : Type 0 where
  first : ℕ
  second : ℕ
  inside : State
  is : s ≡ Due first (Word (codes "BigDecimal")) (Due second (Mark Open) inside)
  cause : point_cause inside ≡ binary_fraction
  minus : (r : State) → step inside (Operator binaries.Sub) ≡ Some r → point_cause r ≡ binary_fraction

new_in : (k : List Frame) (n m : ℕ) → IsNew (Due n (Word (codes "BigDecimal")) (Due m (Mark Open) (Want (InNew ∷ k))))
new_in k n m = record { first = n; second = m; inside = Want (InNew ∷ k); is = refl; cause = refl; minus = λ r e. state_is _ r (λ r. point_cause r ≡ binary_fraction) e refl }

new_slot : (o : _) (n m : ℕ) → IsNew (Due n (Word (codes "BigDecimal")) (Due m (Mark Open) (Signed (OfNew o))))
new_slot o n m = record { first = n; second = m; inside = Signed (OfNew o); is = refl; cause = refl; minus = λ r e. state_is _ r (λ r. point_cause r ≡ binary_fraction) e refl }

no_new : (u : Token) (q : State) → u ≡ Word (codes "new") → Tells u q → ⊥
no_new u q e h = let f : codes "new" ≡ codes "BigDecimal" = subst (λ u. Tells u q) e h in absurd cc

new_step : (line : Line) (r s : State) (b : List Token) → Spelled line r b → step r (Word (codes "new")) ≡ Some s → IsNew s
new_step line (Want k) s b h e = state_is _ s IsNew e (new_in k _ _)
new_step line (Signed OfLine) s b h e = state_is _ s IsNew e (new_slot _ _ _)
new_step line (Listing ds) s b h e = state_is _ s IsNew e (new_slot _ _ _)
new_step line (Due n u q) s b h e = let (c, f) = if_some (same_token u (Word (codes "new"))) q s e in absurd (no_new u q (token_is u (Word (codes "new")) c) h.2)
new_step line (Signed (OfValue r)) s b h e = absurd cc
new_step line (Signed (OfNew r)) s b h e = absurd cc
new_step line (Moded the_decimal r n k) s b h e = absurd cc
new_step line (Moded the_mode r n k) s b h e = absurd cc
new_step line r s b h e = absurd cc

-- where a literal with a point is a fraction, with a - before it or without
record IsFractional (s : State) : Type 0 where
  cause : point_cause s ≡ binary_fraction
  minus : (r : State) → step s (Operator binaries.Sub) ≡ Some r → point_cause r ≡ binary_fraction

-- the bracket of new BigDecimal is due
record IsNewClass (s : State) : Type 0 where
  count : ℕ
  inside : State
  is : s ≡ Due count (Mark Open) inside
  fraction : IsFractional inside

class_step : (r s : State) → IsNew r → step r (Word (codes "BigDecimal")) ≡ Some s → IsNewClass s
class_step r s n e =
    let f : Some (Due n.second (Mark Open) n.inside) ≡ Some s = ap (λ r. step r (Word (codes "BigDecimal"))) (sym n.is) ∙ e in
    state_is (Due n.second (Mark Open) n.inside) s IsNewClass f (record { count = n.second; inside = n.inside; is = refl; fraction = record { cause = n.cause; minus = n.minus } })

open_step : (r s : State) → IsNewClass r → step r (Mark Open) ≡ Some s → IsFractional s
open_step r s n e =
    let f : Some n.inside ≡ Some s = ap (λ r. step r (Mark Open)) (sym n.is) ∙ e in
    state_is n.inside s IsFractional f n.fraction

new_state : (line : Line) → IsWholeLine line → (b : List Token) (s : State) → steps (first_state line) (b ++ (Word (codes "new") ∷ [])) ≡ Some s → IsNew s
new_state line w b s e = let p = before_last line b (Word (codes "new")) s e in new_step line p.state s b (spelled line w b p.state p.run) p.last

class_state : (line : Line) → IsWholeLine line → (b : List Token) (s : State) → steps (first_state line) (b ++ (Word (codes "new") ∷ Word (codes "BigDecimal") ∷ [])) ≡ Some s → IsNewClass s
class_state line w b s e =
    let f = append_assoc b (Word (codes "new") ∷ []) (Word (codes "BigDecimal") ∷ []) in
    let p = before_last line (b ++ (Word (codes "new") ∷ [])) (Word (codes "BigDecimal")) s (ap (steps (first_state line)) f ∙ e) in
    class_step p.state s (new_state line w b p.state p.run) p.last

-- right after new BigDecimal and its bracket
fraction_inside : (line : Line) → IsWholeLine line → (b : List Token) (s : State) → steps (first_state line) (b ++ new_big_decimal) ≡ Some s → IsFractional s
fraction_inside line w b s e =
    let f = append_assoc b (Word (codes "new") ∷ Word (codes "BigDecimal") ∷ []) (Mark Open ∷ []) in
    let p = before_last line (b ++ (Word (codes "new") ∷ Word (codes "BigDecimal") ∷ [])) (Mark Open) s (ap (steps (first_state line)) f ∙ e) in
    open_step p.state s (class_state line w b p.state p.run) p.last

pub fraction_state : (line : Line) → IsWholeLine line → (a : List Token) (d : Decimal) (s : State) → steps (first_state line) a ≡ Some s → IsFraction a (Literal (point d)) → point_cause s ≡ binary_fraction
fraction_state line w a d s e (stopping.plain_fraction b c f) = (fraction_inside line w b s (ap (steps (first_state line)) (sym f) ∙ e)).cause
fraction_state line w a d s e (stopping.signed_fraction b c f) =
    let p = before_last line (b ++ new_big_decimal) (Operator binaries.Sub) s (ap (steps (first_state line)) (append_assoc b new_big_decimal (Operator binaries.Sub ∷ []) ∙ sym f) ∙ e) in
    (fraction_inside line w b p.state p.run).minus s p.last

-- after the scale of setScale
int_step : (r s : State) (n : ℕ) → wants r ≡ Some of_setting → step r (Literal (int n)) ≡ Some s → close_cause s ≡ unsupported
int_step (ScaleDue (rounding (setting x) k)) s n h e =
    let (c, f) = if_some (nat_le n most_places) (Parting (setting x) n k) s e in subst (λ s. close_cause s ≡ unsupported) f refl
int_step (ScaleDue (rounding (dividing x y) k)) s n h e = absurd cc
int_step (ScaleDue (valuing x k)) s n h e = absurd cc
int_step (ScaleDue (declaring i r)) s n h e = absurd cc
int_step r s n h e = absurd cc

pub setting_state : (line : Line) → IsWholeLine line → (a b : List Token) (n : ℕ) (s : State) → steps (first_state line) a ≡ Some s → a ≡ b ++ (Literal (int n) ∷ []) → WantsScale line b of_setting
    → close_cause s ≡ unsupported
setting_state line w a b n s e f h =
    let p = before_last line b (Literal (int n)) s (ap (steps (first_state line)) (sym f) ∙ e) in
    int_step p.state s n (wants_state line w b p.state of_setting p.run h) p.last
