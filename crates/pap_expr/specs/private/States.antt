-- The states of the reading as the machine's.
use Rattle.std.specs.Prelude.{suc, List, ◌∷◌, codes}
use Rattle.pap_tree.specs.Term.{term_of}
use Rattle.pap_tree.specs.Tokens.{Token, Word, Mark, Dot, Open, Close}
use Rattle.pap_tree.specs.Grammar.{assignment}
use Rattle.expr_grammar.specs.Machine as machine
use Rattle.expr_grammar.specs.Machine.{Due, Want, level}
use Rattle.pap_expr.specs.declared.state.State.{State}
use Rattle.pap_expr.specs.declared.state.State.TheVariants as states
use Rattle.pap_expr.specs.declared.state.Rounded.{Rounded}
use Rattle.pap_expr.specs.declared.state.Rounded.TheVariants as roundings
use Rattle.pap_expr.specs.declared.state.Scaled.{Scaled}
use Rattle.pap_expr.specs.declared.state.Scaled.TheVariants as scalings
use Rattle.pap_expr.specs.private.Views.{method_view, holder_view}

abbrev pub rounded_of : Rounded → machine.Rounded
rounded_of (roundings.Quotient a b) = machine.dividing (term_of a.value) (term_of b.value)
rounded_of (roundings.Setting a) = machine.setting (term_of a.value)

abbrev pub job_of : Scaled → List machine.Frame → machine.ScaleUse
job_of (scalings.Value a) k = machine.valuing (term_of a.value) k
job_of (scalings.Rounded r) k = machine.rounding (rounded_of r) k

abbrev pub the_class : Token
the_class = Word (codes "BigDecimal")

-- the state over the frames that wait
abbrev pub state_of : State → List machine.Frame → machine.State
state_of states.Operand k = Want k
state_of (states.After e) k = machine.Have (term_of e) k
state_of (states.AfterName w) k = machine.Named w k
state_of states.ClassPoint k = Due (level k) (Mark Dot) (machine.Static k)
state_of states.Static k = machine.Static k
state_of states.ValueOpen k = Due (level k) (Mark Open) (Want (machine.InValue ∷ k))
state_of states.NewClass k = Due (level k) the_class (Due (level k) (Mark Open) (Want (machine.InNew ∷ k)))
state_of states.NewOpen k = Due (level k) (Mark Open) (Want (machine.InNew ∷ k))
state_of (states.Member e) k = machine.Member (term_of e) k
state_of (states.CallOpen m e) k = machine.called (term_of e) k (method_view m)
state_of (states.Close e) k = Due (suc (level k)) (Mark Close) (machine.Have (term_of e) k)
state_of (states.Scale s) k = machine.ScaleDue (job_of s k)
state_of (states.Comma r s) k = machine.Parting (rounded_of r) s k
state_of (states.Mode r s) k = machine.Moding (rounded_of r) s k
state_of (states.ModePoint h r s) k = Due (suc (level k)) (Mark Dot) (machine.Moded (holder_view h) (rounded_of r) s k)
state_of (states.ModeWord h r s) k = machine.Moded (holder_view h) (rounded_of r) s k
state_of (states.Ended w e) k = machine.Done (assignment w (term_of e))
