-- The first fault of checks that stand one after the other.
use Rattle.std.proofs.Common.{◌≡◌, ℕ, ◌+◌, List, [], ◌∷◌, ◌++◌, Some, None, Bool, true, false, refl, sym, ap, subst, ◌∙◌, Ok, Err, Result}
use Rattle.std.specs.Prelude.{if◌then◌else◌}
use Rattle.std.specs.Result.{IsErrAnd}
use Rattle.std.proofs.lemmas.List.{append_assoc}
use Rattle.std.proofs.lemmas.Option.{none-some}
use Rattle.pap_tree.specs.Term.{Term}
use Rattle.pap_tree.specs.Numbering.{nodes}
use Rattle.pap_types.specs.declared.fault.TypeFault.{TypeFault}
use Rattle.pap_types.specs.declared.fault.TypeFault.TheVariants.{Kind}
use Rattle.pap_types.specs.declared.kinds.NodeKind.{NodeKind}
use Rattle.pap_types.specs.declared.nodes.Checked.{Checked}
use Rattle.pap_types.specs.declared.nodes.Operands.{Operands}
use Rattle.pap_types.specs.declared.nodes.Statement.{Statement}
use Rattle.pap_types.specs.Kinds.{kind_of}
use Rattle.pap_types.specs.Checks.{Check, check, first_fault, place}
use Rattle.pap_types.specs.private.CheckViews.{NodesAnswer, PairAnswer, OwnAnswer, checks_in, checks_of_two, scope_of_statement}

passes_on : (c : Check) (a b : List Check) → (first_fault a ≡ None → first_fault (a ++ b) ≡ first_fault b) → (passes : Bool) → (if passes then first_fault a else Some c.fault) ≡ None → (if passes then first_fault (a ++ b) else Some c.fault) ≡ first_fault b
passes_on c a b more true e = more e
passes_on c a b more false e = absurd (none-some c.fault (sym e))

-- where the first list passes, it is that of the second
pub past : (a b : List Check) → first_fault a ≡ None → first_fault (a ++ b) ≡ first_fault b
past [] b h = refl
past (c ∷ a) b h = passes_on c a b (past a b) c.passes h

fails_on : (c : Check) (a b : List Check) (f : TypeFault) → (first_fault a ≡ Some f → first_fault (a ++ b) ≡ Some f) → (passes : Bool) → (if passes then first_fault a else Some c.fault) ≡ Some f → (if passes then first_fault (a ++ b) else Some c.fault) ≡ Some f
fails_on c a b f more true e = more e
fails_on c a b f more false e = e

-- and else that of the first
pub front : (a b : List Check) (f : TypeFault) → first_fault a ≡ Some f → first_fault (a ++ b) ≡ Some f
front [] b f e = absurd (none-some f e)
front (c ∷ a) b f h = fails_on c a b f (front a b f) c.passes h

own_as : (s : Statement) (passes wanted : Bool) (n m : ℕ) (kind : NodeKind) (r : Result Checked TypeFault) → passes ≡ wanted → n ≡ m → OwnAnswer s passes kind n r → OwnAnswer s wanted kind m r
own_as s passes wanted n m kind r p e own = subst (λ w. OwnAnswer s w kind m r) p (subst (λ k. OwnAnswer s passes kind k r) e own)

answered : (s : Statement) (t : Term) (at m : ℕ) (operands : List Check) (wanted : Bool) (kind : NodeKind) (r : Result Checked TypeFault) → checks_in s t at ≡ operands ++ (check wanted (Kind (place s.method s.number m)) ∷ []) → first_fault operands ≡ None → kind ≡ kind_of (scope_of_statement s) t → m + 1 ≡ at + nodes t → OwnAnswer s wanted kind m r → NodesAnswer s t at r
answered s t at m operands wanted kind (Ok c) whole passed is next (own, of, number) = (rw whole (past operands _ passed ∙ own), of ∙ is, number ∙ next)
answered s t at m operands wanted kind (Err f) whole passed is next own = rw whole (past operands _ passed ∙ own)

-- an expression whose operands pass is answered by its own node
pub own_answer : (s : Statement) (t : Term) (at n m : ℕ) (operands : List Check) (passes wanted : Bool) (kind : NodeKind) (r : Result Checked TypeFault) → checks_in s t at ≡ operands ++ (check wanted (Kind (place s.method s.number m)) ∷ []) → first_fault operands ≡ None → passes ≡ wanted → n ≡ m → kind ≡ kind_of (scope_of_statement s) t → m + 1 ≡ at + nodes t → OwnAnswer s passes kind n r → NodesAnswer s t at r
own_answer s t at n m operands passes wanted kind r whole passed p e is next own = answered s t at m operands wanted kind r whole passed is next (own_as s passes wanted n m kind r p e own)

-- an early fault is the first of a longer list's
pub early : (s : Statement) (t : Term) (at : ℕ) (operands more : List Check) (r : Result Checked TypeFault) (f : TypeFault) → checks_in s t at ≡ operands ++ more → first_fault operands ≡ Some f → IsErrAnd r (λ y. y ≡ f) → NodesAnswer s t at r
early s t at operands more (Ok c) f whole found is = absurd is
early s t at operands more (Err g) f whole found is = rw whole (front operands more f found ∙ ap (λ h. Some h) (sym is))

-- two operands: the first of their faults
pub pair_early : (s : Statement) (a b : Term) (at : ℕ) (r : Result Operands TypeFault) (f : TypeFault) → first_fault (checks_of_two s a b at) ≡ Some f → IsErrAnd r (λ y. y ≡ f) → PairAnswer s a b at r
pair_early s a b at (Ok both) f found is = absurd is
pair_early s a b at (Err g) f found is = found ∙ ap (λ h. Some h) (sym is)

-- the second operand's checks, numbered behind the first operand's nodes
pub second_checks : (s : Statement) (a b : Term) (at n : ℕ) → first_fault (checks_in s a at) ≡ None → n ≡ at + nodes a → first_fault (checks_of_two s a b at) ≡ first_fault (checks_in s b n)
second_checks s a b at n passed e = past (checks_in s a at) _ passed ∙ ap (λ k. first_fault (checks_in s b k)) (sym e)

-- the checks of a test and of two operands behind it
abbrev pub checks_of_three : Statement → Term → Term → Term → ℕ → List Check
checks_of_three s x a b at = checks_in s x at ++ checks_of_two s a b (at + nodes x)

pub three_then : (s : Statement) (x a b : Term) (at : ℕ) (own : List Check) → checks_in s x at ++ (checks_in s a (at + nodes x) ++ (checks_in s b (at + nodes x + nodes a) ++ own)) ≡ checks_of_three s x a b at ++ own
three_then s x a b at own =
    ap (λ more. checks_in s x at ++ more) (sym (append_assoc (checks_in s a (at + nodes x)) (checks_in s b (at + nodes x + nodes a)) own))
    ∙ sym (append_assoc (checks_in s x at) (checks_of_two s a b (at + nodes x)) own)

pub later_checks : (s : Statement) (x a b : Term) (at n : ℕ) → first_fault (checks_in s x at) ≡ None → n ≡ at + nodes x → first_fault (checks_of_three s x a b at) ≡ first_fault (checks_of_two s a b n)
later_checks s x a b at n passed e = past (checks_in s x at) _ passed ∙ ap (λ k. first_fault (checks_of_two s a b k)) (sym e)
