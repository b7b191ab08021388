-- What the parser's answers say of the machine that reads expressions.
use Rattle.std.specs.Prelude.{IsTrue, ⊤}
use Rattle.pap_tree.specs.Names.{is_name}
use Rattle.pap_tree.specs.Tokens.{Token, Beyond, Word}
use Rattle.pap_tree.specs.Stopping.{Cause, syntax, unsupported, binary_fraction, number, deep}
use Rattle.expr_grammar.specs.Machine as machine
use Rattle.expr_grammar.specs.Run.{Refusal, refusal_at}
use Rattle.pap_expr.specs.declared.fault.ExprFault.{ExprFault}
use Rattle.pap_expr.specs.declared.fault.ExprFault.TheVariants as faults
use Rattle.pap_expr.specs.declared.words.Method.{Method}
use Rattle.pap_expr.specs.declared.words.Method.TheVariants as methods
use Rattle.pap_expr.specs.declared.words.Static.{Static}
use Rattle.pap_expr.specs.declared.words.Static.TheVariants as statics
use Rattle.pap_expr.specs.declared.words.Holder.{Holder}
use Rattle.pap_expr.specs.declared.words.Holder.TheVariants as holders

abbrev pub method_view : Method → machine.Method
method_view (methods.Applied c) = machine.applied c
method_view methods.Negate = machine.opposite
method_view methods.Abs = machine.magnitude
method_view methods.SetScale = machine.rescaled

abbrev pub static_view : Static → machine.Constancy
static_view (statics.Known k) = machine.constant k
static_view statics.ValueOf = machine.of_number

abbrev pub holder_view : Holder → machine.Holder
holder_view holders.BigDecimal = machine.the_decimal
holder_view holders.RoundingMode = machine.the_mode

-- why and where; where memory ran out this says nothing
abbrev pub refusal_of : ExprFault → Refusal
refusal_of (faults.Syntax n) = refusal_at syntax n
refusal_of (faults.Unsupported n) = refusal_at unsupported n
refusal_of (faults.BinaryFraction n) = refusal_at binary_fraction n
refusal_of (faults.Number n) = refusal_at number n
refusal_of (faults.Deep n) = refusal_at deep n
refusal_of faults.Memory = refusal_at syntax 0

-- why a token is refused that isn't allowed where it stands, whatever stands before it
abbrev pub plain_cause : Token → Cause
plain_cause Beyond = number
plain_cause t = syntax

-- a word of it is a name
abbrev pub IsNoKeyword : Token → Type 0
IsNoKeyword (Word w) = IsTrue (is_name w)
IsNoKeyword t = ⊤
