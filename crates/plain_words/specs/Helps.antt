-- What helps against a refusal, where the refusal alone decides that and not what its file has.
use Rattle.std.specs.Prelude.{ℕ, List, ◌++◌, codes, Option, Some, None}
use Rattle.pap_reader.specs.declared.fault.ReadFault.{ReadFault}
use Rattle.pap_reader.specs.declared.fault.ReadFault.TheVariants as reads
use Rattle.pap_reader.specs.declared.fault.Which.{Which}
use Rattle.pap_reader.specs.declared.fault.Which.TheVariants as counted
use Rattle.pap_expr.specs.declared.fault.ExprFault.{ExprFault}
use Rattle.pap_expr.specs.declared.fault.ExprFault.TheVariants as expressions
use Rattle.pap_types.specs.declared.fault.TypeFault.{TypeFault}
use Rattle.pap_types.specs.declared.fault.TypeFault.TheVariants as types
use Rattle.call_order.specs.declared.fault.OrderFault.{OrderFault}
use Rattle.call_order.specs.declared.fault.OrderFault.TheVariants as orders
use Rattle.limits_file.specs.declared.fault.LimitsFault.{LimitsFault}
use Rattle.limits_file.specs.declared.fault.LimitsFault.TheVariants as limits
use Rattle.interval_num.specs.declared.cause.RangeCause.{RangeCause}
use Rattle.interval_num.specs.declared.cause.RangeCause.TheVariants as causes
use Rattle.interval_analysis.specs.declared.fault.RangeFault.{RangeFault}
use Rattle.interval_analysis.specs.declared.fault.RangeFault.TheVariants as ranges
use Rattle.pap_plan.specs.declared.refusal.PlanRefusal.{PlanRefusal}
use Rattle.pap_plan.specs.declared.refusal.PlanRefusal.TheVariants as refusals

-- what helps where there is too much of something
abbrev pub excess_help : Which → List ℕ
excess_help counted.Bytes = codes "take out comments and what isn't used"
excess_help counted.Statements = codes "take out what isn't used, and put what stands several times into a METHOD"
excess_help counted.Depth = codes "put inner IFs into a METHOD"
excess_help _ = codes "take out what isn't used"

-- what helps where the file has too many of something
abbrev pub read_help : ReadFault → Option (List ℕ)
read_help (reads.Many which) = Some (excess_help which)
read_help _ = None

-- what helps against the fault of an expression
abbrev pub expression_help : ExprFault → Option (List ℕ)
expression_help (expressions.BinaryFraction at) =
    Some (codes "write the number in quotation marks, as in new BigDecimal(\"0.4\"), or BigDecimal.valueOf(0.4)")
expression_help (expressions.Number at) =
    Some (codes "a scale goes up to 30, an int up to 2147483647, a long, with L behind it, up to 9223372036854775807, "
    ++ codes "and a decimal has at most 30 digits after its point and at most 10^37 without its point")
expression_help (expressions.Deep at) = Some (codes "split it into several statements")
expression_help _ = None

-- what helps against a fault of names and kinds
abbrev pub type_help : TypeFault → Option (List ℕ)
type_help (types.Twice name) = Some (codes "rename one of the two, or take it out")
type_help (types.Unknown name place) =
    Some (codes "correct its spelling, or declare it as an INPUT, OUTPUT, INTERNAL or CONSTANT")
type_help (types.ConstantWritten place) = Some (codes "make it an INTERNAL, or assign to another name")
type_help (types.NoMethod place) = Some (codes "correct the name, or add the METHOD")
type_help _ = None

-- what helps where methods have no order or the plan is too long
abbrev pub order_help : OrderFault → Option (List ℕ)
order_help (orders.Cycle method) = Some (codes "a run might have no end; take one EXECUTE out of that circle")
order_help (orders.Chain method) = Some (codes "put the statements of some into the method that executes them")
order_help (orders.TooLong count) = Some (codes "execute methods in fewer places")
order_help (orders.Memory e) = None

-- what helps against the fault of a range file
abbrev pub limits_help : LimitsFault → Option (List ℕ)
limits_help limits.Toml = Some (codes "correct what stands there, or before it")
limits_help limits.LimitsLong = Some (codes "take out what no input needs")
limits_help _ = None

-- what helps against the cause of a range fault
abbrev pub cause_help : RangeCause → List ℕ
cause_help causes.Wide =
    codes "an int has 32 bits, a long 64, and a BigDecimal is at most 10^37 without its point: "
    ++ (codes "take a long or a BigDecimal, narrow the ranges in the range file, "
    ++ codes "or bound the value by setScale, min or max")
cause_help causes.Scale = codes "write setScale with a smaller scale before it"
cause_help causes.Divisor =
    codes "test the divisor's own name in an IF before it, as N > 0 for a whole number, "
    ++ (codes "or N.compareTo(CENT) >= 0 with a constant of its least value for a BigDecimal, "
    ++ codes "or narrow the ranges in the range file so that it can't be 0")
cause_help causes.Index = codes "test the index in an IF before it, or narrow the ranges in the range file"

-- what helps where a node may fail, or an output may be too great
abbrev pub range_help : RangeFault → Option (List ℕ)
range_help (ranges.At place cause) = Some (cause_help cause)
range_help (ranges.Output name) =
    Some (codes "round it by setScale where it has too many digits, "
    ++ codes "and where it is too great bound it by min or narrow the ranges in the range file")
range_help (ranges.Memory e) = None

-- what helps, where the refusal alone decides it
abbrev pub help_of : PlanRefusal → Option (List ℕ)
help_of (refusals.Read fault) = read_help fault
help_of (refusals.Expr spot fault) = expression_help fault
help_of (refusals.Types fault) = type_help fault
help_of (refusals.Order fault) = order_help fault
help_of (refusals.Limits fault) = limits_help fault
help_of (refusals.Range fault) = range_help fault
help_of _ = None
