-- What a step of the reading says of the machine's.
use Rattle.std.specs.Prelude.{◌≡◌, List, Option, Some, None, Result, Ok, Err, ⊤}
use Rattle.pap_tree.specs.Tokens.{Spot}
use Rattle.expr_grammar.specs.Machine as machine
use Rattle.expr_grammar.specs.Run.{Refusal, refusal_at, cause_of}
use Rattle.pap_expr.specs.declared.fault.ExprFault.{ExprFault}
use Rattle.pap_expr.specs.declared.fault.ExprFault.TheVariants as faults
use Rattle.pap_expr.specs.declared.state.State.{State}
use Rattle.pap_expr.specs.declared.state.State.TheVariants.{Operand}
use Rattle.pap_expr.specs.private.Views.{refusal_of}
use Rattle.pap_expr.specs.private.States.{state_of}

-- there is no next state, and the fault is this refusal_at; or memory ran out
abbrev pub Refuses : Option machine.State → Refusal → ExprFault → Type 0
Refuses o f faults.Memory = ⊤
Refuses o f e = (o ≡ None) × (refusal_of e ≡ f)

-- the result is the next state, over the frames that wait then; or there is none
abbrev pub Leads : Option machine.State → Refusal → List machine.Frame → Result State ExprFault → Type 0
Leads o f k (Ok s) = o ≡ Some (state_of s k)
Leads o f k (Err e) = Refuses o f e

-- the machine's step from a state with a token
abbrev pub Steps : machine.State → Spot → List machine.Frame → Result State ExprFault → Type 0
Steps s t k r = Leads (machine.step s t.token) (refusal_at (cause_of s t.token) t.at) k r

-- an expression is due, for which these frames wait; or memory ran out
abbrev pub Opens : List machine.Frame → List machine.Frame → Result State ExprFault → Type 0
Opens j k (Ok s) = (s ≡ Operand) × (k ≡ j)
Opens j k (Err e) = e ≡ faults.Memory
