-- How a refusal is written: its group, its name and its details, with one space between.
use Rattle.std.specs.Prelude.{◌≡◌, ℕ, if◌then◌else◌, List, [], ◌++◌, codes, Option, Some, ⊤}
use Rattle.std.specs.Option.{option_and_then, option_map_or}
use Rattle.std.specs.Fmt.{decimal as number}
use Rattle.std.specs.Str.{bytes_eq}
use Rattle.pap_tree.specs.declared.place.Place.{Place}
use Rattle.pap_tree.specs.Term.{Term}
use Rattle.pap_tree.specs.Flowchart.{Body, Flowchart}
use Rattle.pap_tree.specs.Numbering.{node_of}
use Rattle.pap_tree.specs.Statements.{term_at}
use Rattle.pap_tree.specs.Places.{place_text}
use Rattle.pap_tree.specs.Spelling.{spelling}
use Rattle.pap_reader.specs.declared.fault.Which.{Which}
use Rattle.pap_reader.specs.declared.fault.Which.TheVariants as which
use Rattle.pap_reader.specs.declared.fault.ReadFault.{ReadFault}
use Rattle.pap_reader.specs.declared.fault.ReadFault.TheVariants as reads
use Rattle.pap_expr.specs.declared.fault.ExprFault.{ExprFault}
use Rattle.pap_expr.specs.declared.fault.ExprFault.TheVariants as exprs
use Rattle.plan_text.specs.declared.fault.Spot.{Spot}
use Rattle.plan_text.specs.Spots.{spot_text}
use Rattle.plan_text.specs.Plans.{IsPlan}
use Rattle.pap_types.specs.Routines.{body_named}
use Rattle.pap_tree.specs.Names.{main_name}
use Rattle.pap_types.specs.declared.fault.TypeFault.{TypeFault}
use Rattle.pap_types.specs.declared.fault.TypeFault.TheVariants as types
use Rattle.call_order.specs.declared.fault.OrderFault.{OrderFault}
use Rattle.call_order.specs.declared.fault.OrderFault.TheVariants as orders
use Rattle.limits_file.specs.declared.fault.LimitsFault.{LimitsFault}
use Rattle.limits_file.specs.declared.fault.LimitsFault.TheVariants as ranges
use Rattle.interval_num.specs.declared.cause.RangeCause.{RangeCause}
use Rattle.interval_num.specs.declared.cause.RangeCause.TheVariants.{Wide, Scale, Divisor, Index}
use Rattle.interval_analysis.specs.declared.fault.RangeFault.TheVariants as walks
use Rattle.pap_plan.specs.declared.refusal.PlanRefusal.{PlanRefusal}
use Rattle.pap_plan.specs.declared.refusal.PlanRefusal.TheVariants as refusals
use Rattle.plan_answers.specs.Lines.{spaced}

-- ---- the elements of a plan

-- the word for what there are too many of
abbrev pub which_word : Which → List ℕ
which_word which.Bytes = codes "Bytes"
which_word which.Inputs = codes "Inputs"
which_word which.Outputs = codes "Outputs"
which_word which.Internals = codes "Internals"
which_word which.Constants = codes "Constants"
which_word which.Methods = codes "Methods"
which_word which.Statements = codes "Statements"
which_word which.Depth = codes "Depth"

-- what is written of a fault of the elements
abbrev pub read_detail : ReadFault → List ℕ
read_detail (reads.Text at) = codes "plan Text " ++ number at
read_detail (reads.Element at) = codes "plan Element " ++ number at
read_detail (reads.Attribute at) = codes "plan Attribute " ++ number at
read_detail (reads.Many w) = codes "plan Many " ++ which_word w
read_detail reads.Memory = []

-- ---- its expressions

-- where the text stands, and the byte in it
abbrev pub spot_and_byte : Spot → ℕ → List ℕ
spot_and_byte spot at = spaced (spot_text spot) (number at)

-- what is written of a fault of an expression: its name, the place of its text and the byte in it
abbrev pub expr_detail : Spot → ExprFault → List ℕ
expr_detail spot (exprs.Syntax at) = codes "plan Syntax " ++ spot_and_byte spot at
expr_detail spot (exprs.Unsupported at) = codes "plan Unsupported " ++ spot_and_byte spot at
expr_detail spot (exprs.BinaryFraction at) = codes "plan BinaryFraction " ++ spot_and_byte spot at
expr_detail spot (exprs.Number at) = codes "plan Number " ++ spot_and_byte spot at
expr_detail spot (exprs.Deep at) = codes "plan Deep " ++ spot_and_byte spot at
expr_detail spot exprs.Memory = []

-- ---- its names and kinds, and the order of its methods

-- a place as it is written: METHOD:STATEMENT:NODE
abbrev pub place_written : Place → List ℕ
place_written p = place_text p.method p.stmt p.node

-- what is written of a fault of names and kinds
abbrev pub type_detail : TypeFault → List ℕ
type_detail (types.Twice name) = codes "plan Twice " ++ name
type_detail (types.Unknown name place) = codes "plan Unknown " ++ spaced name (place_written place)
type_detail (types.Kind place) = codes "plan Kind " ++ place_written place
type_detail (types.ConstantWritten place) = codes "plan ConstantWritten " ++ place_written place
type_detail (types.NoMethod place) = codes "plan NoMethod " ++ place_written place
type_detail (types.Value name) = codes "plan Value " ++ name
type_detail (types.Memory e) = []

-- what is written of a fault of the methods' order
abbrev pub order_detail : OrderFault → List ℕ
order_detail (orders.Cycle method) = codes "plan Cycle " ++ method
order_detail (orders.Chain method) = codes "plan Chain " ++ method
order_detail (orders.TooLong count) = codes "plan TooLong " ++ number count
order_detail (orders.Memory e) = []

-- ---- the range file

-- what is written of a fault of the range file
abbrev pub limits_detail : LimitsFault → List ℕ
limits_detail ranges.Toml = codes "limits Toml"
limits_detail (ranges.Key label) = codes "limits Key " ++ label
limits_detail (ranges.Bound label) = codes "limits Bound " ++ label
limits_detail ranges.LimitsLong = codes "limits LimitsLong"
limits_detail (ranges.Memory e) = []

-- ---- the ranges of values

-- the word for why a node may fail
abbrev pub cause_word : RangeCause → List ℕ
cause_word Wide = codes "Wide"
cause_word Scale = codes "Scale"
cause_word Divisor = codes "Divisor"
cause_word Index = codes "Index"

-- the statements of a method
abbrev pub body_in : Flowchart → List ℕ → Option Body
body_in f method = if bytes_eq method main_name then Some f.main else body_named f.methods method

-- the node of a place in a flowchart
abbrev pub node_at : Flowchart → Place → Option Term
node_at f p =
    option_and_then (λ body. option_and_then (λ t. node_of t p.node) (term_at body p.stmt)) (body_in f p.method)

-- the canonical spelling of the node of a place; empty where there is no node
abbrev pub spelling_at : Flowchart → Place → List ℕ
spelling_at f p = option_map_or spelling (node_at f p) []

-- why a node may fail, where it stands and how it is spelled: CAUSE PLACE EXPR
abbrev pub node_detail : Flowchart → Place → RangeCause → List ℕ
node_detail f place cause =
    codes "plan " ++ spaced (cause_word cause) (spaced (place_written place) (spelling_at f place))

-- ---- all refusals of a plan with its range file

-- what is written after `refused`, also of how a range file and its flowchart don't fit, and of an output
-- beyond its bound; the spelling of a node is that of the plan's text
abbrev pub HasDetail : List ℕ → PlanRefusal → List ℕ → Type 0
HasDetail plan (refusals.Read fault) detail = detail ≡ read_detail fault
HasDetail plan (refusals.Expr spot fault) detail = detail ≡ expr_detail spot fault
HasDetail plan (refusals.Types fault) detail = detail ≡ type_detail fault
HasDetail plan (refusals.Order fault) detail = detail ≡ order_detail fault
HasDetail plan (refusals.Limits fault) detail = detail ≡ limits_detail fault
HasDetail plan (refusals.LimitName name) detail = detail ≡ codes "plan LimitName " ++ name
HasDetail plan (refusals.LimitKind name) detail = detail ≡ codes "plan LimitKind " ++ name
HasDetail plan (refusals.Bind name) detail = detail ≡ codes "plan Bind " ++ name
HasDetail plan (refusals.Range (walks.At place cause)) detail =
    (f : Flowchart) × IsPlan plan f × (detail ≡ node_detail f place cause)
HasDetail plan (refusals.Range (walks.Output name)) detail = detail ≡ codes "plan Output " ++ name
HasDetail plan (refusals.Range (walks.Memory e)) detail = ⊥
HasDetail plan refusals.Memory detail = ⊥

-- a refusal that names a node is one of this plan: the plan's text is read
abbrev pub HasItsPlan : List ℕ → PlanRefusal → Type 0
HasItsPlan plan (refusals.Range (walks.At place cause)) = (f : Flowchart) × IsPlan plan f
HasItsPlan plan _ = ⊤
