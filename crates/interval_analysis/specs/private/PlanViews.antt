-- What private contracts say of a plan's names, and of the ranges of its variables by number.
use Rattle.std.specs.Prelude.{◌≡◌, ℕ, List, [], ◌∷◌, length, Option, Some, None, slice_get}
use Rattle.std.proofs.Common.{Vec, Global}
use Rattle.std.specs.Option.{option_map_or}
use Rattle.pap_tree.specs.declared.plan.PlanText.{PlanText}
use Rattle.pap_tree.specs.Term.{Term, leaf, named}
use Rattle.interval_num.specs.Intervals.{Interval}
use Rattle.pap_types.specs.declared.kinds.NodeKind.{NodeKind}
use Rattle.pap_types.specs.declared.kinds.NodeKind.TheVariants.{Int}
use Rattle.pap_types.specs.Kinds.{declared_kind}
use Rattle.pap_types.specs.Scopes.{Scope, number_of}
use Rattle.interval_walk.specs.NodeRanges.{name_range}
use Rattle.interval_walk.specs.Ranges.{Ranges}
use Rattle.interval_walk.specs.Branches as meant
use Rattle.pap_types.specs.private.ScopeViews.{scope_in, variables_in}
use Rattle.interval_analysis.specs.declared.branches.Branches.{Branches}
use Rattle.interval_analysis.specs.declared.branches.Change.{Change}
use Rattle.interval_analysis.specs.private.Changes.{changed}

-- the number of the variable that an expression names
abbrev pub variable_in : PlanText → Term → Option ℕ
variable_in p (leaf (named x)) = number_of (variables_in p) x
variable_in p _ = None

-- the kind of a variable by its number; one that there isn't counts as an `int`
abbrev pub kind_at : Scope → ℕ → NodeKind
kind_at scope n = option_map_or (λ d. declared_kind d.kind) (slice_get scope.variables n) Int

-- ranges by number, each with its name
abbrev pub with_names : List (List ℕ) → List Interval → Ranges
with_names [] rs = []
with_names (x ∷ xs) [] = []
with_names (x ∷ xs) (r ∷ rs) = record { name = x; range = r } ∷ with_names xs rs

abbrev pub ranges_in : PlanText → List Interval → Ranges
ranges_in p rs = with_names (variables_in p) rs

-- the range of a name: a variable's, or that of a constant's value
abbrev pub name_range_in : PlanText → List ℕ → List Interval → Option Interval
name_range_in p x rs = name_range (scope_in p) x (ranges_in p rs)

-- one range for each variable
abbrev pub IsSized : PlanText → List Interval → Type 0
IsSized p rs = length rs ≡ length (variables_in p)

-- the ranges where a branch leads, if it can be reached
abbrev pub ranges_after : PlanText → List Interval → Option (Vec Change Global) → Option Ranges
ranges_after p rs None = None
ranges_after p rs (Some changes) = Some (ranges_in p (changed rs changes.items))

-- and where both do
abbrev pub branches_in : PlanText → List Interval → Branches → meant.Branches
branches_in p rs b = record { holds = ranges_after p rs b.holds; fails = ranges_after p rs b.fails }
