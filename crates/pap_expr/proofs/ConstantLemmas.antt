-- A bracket that is due after the literal of `valueOf`.
use Rattle.std.proofs.Common.{◌≡◌, false, Some, Result, ℤ, refl, sym, ap, subst}
use Rattle.std.specs.Prelude.{option_map}
use Rattle.scaled_decimal.specs.Decimals.{Decimal, decimal}
use Rattle.pap_tree.specs.Tokens as tokens
use Rattle.pap_tree.specs.Tokens.{Token, Literal, Mark, Comma, Close, Spot}
use Rattle.expr_grammar.specs.Machine.{State, Due, Room, ValuedInt, ValuedPoint, settled, same_token, step}
use Rattle.expr_grammar.specs.Shortened.{shortened_places}
use Rattle.expr_grammar.specs.Run.{refusal_at, cause_of}
use Rattle.pap_expr.specs.declared.constant.Due.{Due as CodeDue}
use Rattle.pap_expr.specs.declared.fault.ExprFault.{ExprFault}
use Rattle.pap_expr.specs.private.Constants.{GivesNext, Moves}

-- states that step alike, with like causes
moved : (s q : State) (t : Spot) (r : Result CodeDue ExprFault) → step s t.token ≡ step q t.token → cause_of s t.token ≡ cause_of q t.token → Moves q t r → Moves s t r
moved s q t r e g h = subst (λ o. GivesNext o (refusal_at (cause_of s t.token) t.at) r) (sym e) (subst (λ c. GivesNext (step q t.token) (refusal_at c t.at) r) (sym g) h)

int_steps : (i : ℤ) (r : Room) (t : Token) → same_token (Mark Comma) t ≡ false → step (ValuedInt i r) t ≡ step (Due 0 (Mark Close) (settled r (decimal i 0))) t
int_steps i r (Mark Comma) e = absurd cc
int_steps i r t e = refl

int_causes : (i : ℤ) (r : Room) (s : State) (t : Token) → cause_of (ValuedInt i r) t ≡ cause_of (Due 0 (Mark Close) s) t
int_causes i r s (Literal (tokens.int n)) = refl
int_causes i r s (Literal (tokens.point d)) = refl
int_causes i r s (Mark Close) = refl
int_causes i r s t = refl

pub int_moves : (i : ℤ) (r : Room) (t : Spot) (result : Result CodeDue ExprFault) → same_token (Mark Comma) t.token ≡ false
    → Moves (Due 0 (Mark Close) (settled r (decimal i 0))) t result → Moves (ValuedInt i r) t result
int_moves i r t result e h =
    moved (ValuedInt i r) (Due 0 (Mark Close) (settled r (decimal i 0))) t result (int_steps i r t.token e) (int_causes i r (settled r (decimal i 0)) t.token) h

point_steps : (d e : Decimal) (r : Room) (t : Token) → shortened_places d ≡ Some e → step (ValuedPoint d r) t ≡ step (Due 0 (Mark Close) (settled r e)) t
point_steps d e r (Mark Close) h = ap (option_map (settled r)) h
point_steps d e r t h = refl

point_causes : (d : Decimal) (r : Room) (s : State) (t : Token) → cause_of (ValuedPoint d r) t ≡ cause_of (Due 0 (Mark Close) s) t
point_causes d r s (Literal (tokens.int n)) = refl
point_causes d r s (Literal (tokens.point e)) = refl
point_causes d r s (Mark Close) = refl
point_causes d r s t = refl

pub point_moves : (d e : Decimal) (r : Room) (t : Spot) (result : Result CodeDue ExprFault) → shortened_places d ≡ Some e
    → Moves (Due 0 (Mark Close) (settled r e)) t result → Moves (ValuedPoint d r) t result
point_moves d e r t result short h =
    moved (ValuedPoint d r) (Due 0 (Mark Close) (settled r e)) t result (point_steps d e r t.token short) (point_causes d r (settled r e) t.token) h
