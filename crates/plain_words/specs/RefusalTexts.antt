-- With which words what is wrong begins, where the refusal decides that and not what its file has.
use Rattle.std.specs.Prelude.{ℕ, Bool, true, false, List, [], ◌++◌, codes}
use Rattle.std.specs.Fmt.{decimal}
use Rattle.pap_reader.specs.declared.fault.ReadFault.{ReadFault}
use Rattle.pap_reader.specs.declared.fault.ReadFault.TheVariants as reads
use Rattle.pap_reader.specs.Amounts.{amount_text}
use Rattle.pap_expr.specs.declared.fault.ExprFault.{ExprFault}
use Rattle.pap_expr.specs.declared.fault.ExprFault.TheVariants as expressions
use Rattle.pap_types.specs.declared.fault.TypeFault.{TypeFault}
use Rattle.pap_types.specs.declared.fault.TypeFault.TheVariants as types
use Rattle.call_order.specs.declared.fault.OrderFault.{OrderFault}
use Rattle.call_order.specs.declared.fault.OrderFault.TheVariants as orders
use Rattle.limits_file.specs.declared.fault.LimitsFault.{LimitsFault}
use Rattle.limits_file.specs.declared.fault.LimitsFault.TheVariants as limits
use Rattle.interval_num.specs.Causes.{cause_text}
use Rattle.interval_analysis.specs.declared.fault.RangeFault.{RangeFault}
use Rattle.interval_analysis.specs.declared.fault.RangeFault.TheVariants as ranges
use Rattle.pap_plan.specs.declared.refusal.PlanRefusal.{PlanRefusal}
use Rattle.pap_plan.specs.declared.refusal.PlanRefusal.TheVariants as refusals

-- none that are the same for each such refusal: what its file has decides them
abbrev pub by_file : List ℕ
by_file = []

-- there is no memory for more
abbrev pub memory_text : List ℕ
memory_text = codes "out of memory"

-- the elements of a flowchart's file aren't read
abbrev pub read_fault_text : ReadFault → List ℕ
read_fault_text (reads.Text at) = by_file
read_fault_text (reads.Element at) = by_file
read_fault_text (reads.Attribute at) = by_file
read_fault_text (reads.Many which) = codes "there may be at most " ++ amount_text which
read_fault_text reads.Memory = memory_text

-- the text of an expression isn't read
abbrev pub expression_fault_text : ExprFault → List ℕ
expression_fault_text (expressions.Syntax at) = codes "something else is expected here"
expression_fault_text (expressions.Unsupported at) = codes "this form isn't part of the profile"
expression_fault_text (expressions.BinaryFraction at) =
    codes "new BigDecimal of a number with a point takes a binary fraction, which isn't exact"
expression_fault_text (expressions.Number at) = codes "the number is beyond its range"
expression_fault_text (expressions.Deep at) =
    codes "the text has more than 1000 words, numbers and signs, or more than 64 open brackets and signs"
expression_fault_text expressions.Memory = memory_text

-- names and kinds aren't right
abbrev pub type_fault_text : TypeFault → List ℕ
type_fault_text (types.Twice name) = codes "the name " ++ (name ++ codes " is declared twice")
type_fault_text (types.Unknown name place) =
    codes "the name " ++ (name ++ codes " isn't declared, or isn't one that may stand here")
type_fault_text (types.Kind place) = codes "the types don't go together"
type_fault_text (types.ConstantWritten place) = codes "the target is a CONSTANT, which can't be given a value"
type_fault_text (types.NoMethod place) = codes "there is no METHOD of this name"
type_fault_text (types.Value name) = codes "the literal of " ++ (name ++ codes " isn't of its type")
type_fault_text (types.Memory e) = memory_text

-- methods have no order, or the plan is too long
abbrev pub order_fault_text : OrderFault → List ℕ
order_fault_text (orders.Cycle method) =
    codes "the method " ++ (method ++ codes " executes itself, directly or through the methods that it executes")
order_fault_text (orders.Chain method) =
    codes "the method " ++ (method ++ codes " begins a chain of more than 64 methods, each of which executes the next")
order_fault_text (orders.TooLong count) =
    codes "with the statements of each executed method in the place of its EXECUTE the plan has "
    ++ (decimal count ++ codes " statements, and at most 200000 may be")
order_fault_text (orders.Memory e) = memory_text

-- a range file isn't read
abbrev pub limits_fault_text : LimitsFault → List ℕ
limits_fault_text limits.Toml = codes "the range file is not valid TOML"
limits_fault_text (limits.Key label) = by_file
limits_fault_text (limits.Bound label) = by_file
limits_fault_text limits.LimitsLong = codes "the range file has more than 262144 bytes"
limits_fault_text (limits.Memory e) = memory_text

-- a node may fail, or an output may be too great
abbrev pub range_fault_text : RangeFault → List ℕ
range_fault_text (ranges.At place cause) = cause_text cause ++ codes " on inputs within their ranges"
range_fault_text (ranges.Output name) =
    codes "the OUTPUT "
    ++ (name ++ codes " may have more than 12 digits after its point, or be beyond 10^20, on inputs within their ranges")
range_fault_text (ranges.Memory e) = memory_text

-- an input and a limit don't go together by their name: where the flowchart declares that INPUT it has no limit, and else it
-- is the limit of no input
abbrev pub limit_name_text : List ℕ → Bool → List ℕ
limit_name_text name true =
    codes "the INPUT " ++ (name ++ (codes " has no entry [input." ++ (name ++ codes "] in the range file")))
limit_name_text name false = codes "the entry [input." ++ (name ++ codes "] is of no INPUT of the flowchart")

-- a limit doesn't suit the type of its input
abbrev pub limit_kind_text : List ℕ → List ℕ
limit_kind_text name =
    codes "the range of the entry [input." ++ (name ++ (codes "] doesn't suit the type of the INPUT " ++ name))

-- a binding and a flowchart don't go together: where the flowchart declares that INPUT it has no such OUTPUT, and else it is the
-- binding of no input
abbrev pub binding_text : List ℕ → Bool → List ℕ
binding_text name true = codes "the entry [bind." ++ (name ++ codes "] names no OUTPUT of the flowchart")
binding_text name false = codes "the entry [bind." ++ (name ++ codes "] is of no INPUT of the flowchart")

-- a plan is refused
abbrev pub plan_refusal_text : PlanRefusal → List ℕ
plan_refusal_text (refusals.Read fault) = read_fault_text fault
plan_refusal_text (refusals.Expr spot fault) = expression_fault_text fault
plan_refusal_text (refusals.Types fault) = type_fault_text fault
plan_refusal_text (refusals.Order fault) = order_fault_text fault
plan_refusal_text (refusals.Limits fault) = limits_fault_text fault
plan_refusal_text (refusals.LimitName name) = by_file
plan_refusal_text (refusals.LimitKind name) = limit_kind_text name
plan_refusal_text (refusals.Bind name) = by_file
plan_refusal_text (refusals.Range fault) = range_fault_text fault
plan_refusal_text refusals.Memory = memory_text
