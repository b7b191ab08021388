-- What a refusal names on the page of a plan: a statement, a method, or the row of a declared name.
use Rattle.std.specs.Prelude.{ℕ, if◌then◌else◌, List}
use Rattle.pap_tree.specs.Names.{is_name}
use Rattle.pap_tree.specs.declared.place.Place.{Place}
use Rattle.pap_types.specs.declared.fault.TypeFault.{TypeFault}
use Rattle.pap_types.specs.declared.fault.TypeFault.TheVariants as types
use Rattle.call_order.specs.declared.fault.OrderFault.TheVariants as orders
use Rattle.limits_file.specs.declared.fault.LimitsFault.TheVariants as ranges
use Rattle.interval_analysis.specs.declared.fault.RangeFault.TheVariants as walks
use Rattle.plan_text.specs.declared.fault.Spot.{Spot}
use Rattle.plan_text.specs.declared.fault.Spot.TheVariants as spots
use Rattle.pap_plan.specs.declared.refusal.PlanRefusal.{PlanRefusal}
use Rattle.pap_plan.specs.declared.refusal.PlanRefusal.TheVariants as refusals
use Rattle.flowchart_methods.specs.declared.site.Site.{Site}
use Rattle.flowchart_methods.specs.declared.site.Site.TheVariants.{Statement, Method, Declared, Nowhere}

-- ---- what a refusal names

-- the statement in which a node stands
abbrev pub statement_of : Place → Site
statement_of place = Statement place.method place.stmt

-- what the place of an expression's text names
abbrev pub named_by_spot : Spot → Site
named_by_spot (spots.Statement method stmt) = Statement method stmt
named_by_spot (spots.Declared name) = Declared name

-- what a fault of names and kinds names
abbrev pub named_by_types : TypeFault → Site
named_by_types (types.Twice name) = Declared name
named_by_types (types.Unknown name place) = statement_of place
named_by_types (types.Kind place) = statement_of place
named_by_types (types.ConstantWritten place) = statement_of place
named_by_types (types.NoMethod place) = statement_of place
named_by_types (types.Value name) = Declared name
named_by_types (types.Memory e) = Nowhere

-- a key of a range file is the name of an input, where it has the form of a name
abbrev pub named_by_key : List ℕ → Site
named_by_key key = if is_name key then Declared key else Nowhere

-- what a refusal names: the statement of its place, a method, a declared name, or nothing
abbrev pub named_by : PlanRefusal → Site
named_by (refusals.Expr spot fault) = named_by_spot spot
named_by (refusals.Types fault) = named_by_types fault
named_by (refusals.Order (orders.Cycle method)) = Method method
named_by (refusals.Order (orders.Chain method)) = Method method
named_by (refusals.Limits (ranges.Key key)) = named_by_key key
named_by (refusals.Limits (ranges.Bound key)) = named_by_key key
named_by (refusals.LimitName name) = Declared name
named_by (refusals.LimitKind name) = Declared name
named_by (refusals.Bind name) = Declared name
named_by (refusals.Range (walks.At place cause)) = statement_of place
named_by (refusals.Range (walks.Output name)) = Declared name
named_by _ = Nowhere

-- ---- where the page has it
