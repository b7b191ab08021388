-- What private contracts say of what is kept of the statements to which a walk comes.
use Rattle.std.specs.Prelude.{◌≡◌, ◌↔◌, ℕ, ◌+◌, ◌⊎◌, Bool, IsTrue, if◌then◌else◌, IsSome, IsSomeAnd, IfSome, List, Option, Some, None}
use Rattle.std.specs.BTreeMap.{BTreeMap, get}
use Rattle.pap_tree.specs.Flowchart.{Body, body_of}
use Rattle.pap_tree.specs.Statements.{written}
use Rattle.interval_num.specs.Intervals.{Interval}
use Rattle.pap_types.specs.Scopes.{Scope}
use Rattle.interval_walk.specs.Ranges.{Ranges}
use Rattle.interval_walk.specs.Branches as meant
use Rattle.interval_walk.specs.Visits.{Visit, BodyComes, CallsCome}
use Rattle.pap_tree.specs.private.TreeViews.{methods_in}
use Rattle.pap_types.specs.private.ScopeViews.{scope_in}
use Rattle.interval_analysis.specs.declared.branches.Branches.{Branches}
use Rattle.interval_analysis.specs.declared.expressions.Walk.{Walk}
use Rattle.interval_analysis.specs.declared.statements.Fork.{Fork}
use Rattle.interval_analysis.specs.declared.statements.Spot.{Spot}
use Rattle.interval_analysis.specs.declared.value_range.ValueRange.{ValueRange}
use Rattle.interval_analysis.specs.declared.verdict.RefusedSurvey.{RefusedSurvey}
use Rattle.interval_analysis.specs.declared.verdict.Survey.{Survey}
use Rattle.interval_analysis.specs.declared.visits.Known.{Known}
use Rattle.interval_analysis.specs.declared.visits.Visits.{Visits}
use Rattle.interval_analysis.specs.Surveys.{StatementPlace, place_cmp, IsOneOf, IsVisitedBy, value_range, IsLeastOf, IsPutBy, ExitPlace, exit_statement, IsExitOf, IsOpenBy}
use Rattle.interval_analysis.specs.private.PlanViews.{ranges_in}
use Rattle.interval_analysis.specs.private.StatementViews.{calls_in, first_spot, second_spot}

-- ---- what is kept

-- nothing is kept yet
pub record IsNothing (k : Known) : Type 0 where
  pub reached : (p : StatementPlace) → IsOneOf k.reached p → ⊥
  pub values : (p : StatementPlace) → get place_cmp k.values p ≡ None
  pub exits : (q : ExitPlace) → IsExitOf k.exits q → ⊥

abbrev pub IsNothingKnown : Visits → Type 0
IsNothingKnown v = IsSomeAnd v.known IsNothing

-- what a survey says of the statements, and what a refused one does
abbrev pub survey_known : Survey → Known
survey_known s = record { reached = s.reached; values = s.values; exits = s.exits }

abbrev pub refused_known : RefusedSurvey → Known
refused_known r = record { reached = r.reached; values = r.values; exits = r.exits }

-- besides what was known, exactly this is: that statements are reached, that ranges are put there, and that exits are open
pub record AddsThese (Reaches : StatementPlace → Type 0) (Puts : StatementPlace → ValueRange → Type 0)
    (Opens : ExitPlace → Type 0) (was now : Known) : Type 0 where
  pub reached : (p : StatementPlace) → IsOneOf now.reached p ↔ (IsOneOf was.reached p ⊎ Reaches p)
  pub values : (p : StatementPlace)
      → IsLeastOf (λ r. (get place_cmp was.values p ≡ Some r) ⊎ Puts p r) (get place_cmp now.values p)
  pub exits : (q : ExitPlace) → IsExitOf now.exits q ↔ (IsExitOf was.exits q ⊎ Opens q)

-- exactly what these visits find
abbrev pub AddsVisits : Scope → (Visit → Type 0) → (was now : Known) → Type 0
AddsVisits scope Comes was now = AddsThese (IsVisitedBy Comes) (IsPutBy scope Comes) (IsOpenBy scope Comes) was now

-- where something is kept, what these visits find is
abbrev pub GathersIn : Scope → (Visit → Type 0) → (was now : Option Known) → Type 0
GathersIn scope Comes was now = IfSome was (λ k. IsSomeAnd now (AddsVisits scope Comes k))

abbrev pub Gathers : Scope → (Visit → Type 0) → (was now : Visits) → Type 0
Gathers scope Comes was now = GathersIn scope Comes was.known now.known

-- ---- what is kept of one statement

abbrev pub place_in : Spot → StatementPlace
place_in spot = (spot.method, spot.at)

-- only that the statement is reached
abbrev pub AddsPlace : Spot → (was now : Known) → Type 0
AddsPlace spot was now = AddsThese (λ p. place_in spot ≡ p) (λ p r. ⊥) (λ q. ⊥) was now

-- what is known of the ranges of statements, and that a range is put at one of them
abbrev pub PutsInPlace : StatementPlace → ValueRange → (was now : BTreeMap StatementPlace ValueRange) → Type 0
PutsInPlace place range was now =
    (p : StatementPlace) → IsLeastOf (λ r. (get place_cmp was p ≡ Some r) ⊎ ((place ≡ p) × (range ≡ r))) (get place_cmp now p)

-- only that a range is put there
abbrev pub AddsRange : Spot → ValueRange → (was now : Known) → Type 0
AddsRange spot range was now = AddsThese (λ p. ⊥) (λ p r. (place_in spot ≡ p) × (range ≡ r)) (λ q. ⊥) was now

-- only that an exit is open there, if it is
abbrev pub AddsExit : Spot → (holds is_open : Bool) → (was now : Known) → Type 0
AddsExit spot holds is_open was now =
    AddsThese (λ p. ⊥) (λ p r. ⊥) (λ q. (place_in spot ≡ exit_statement q) × (holds ≡ q.2) × IsTrue is_open) was now

-- an EVAL that puts a range
abbrev pub AddsEval : Spot → Interval → (was now : Known) → Type 0
AddsEval spot range was now =
    AddsThese (λ p. place_in spot ≡ p) (λ p r. (place_in spot ≡ p) × (value_range range ≡ r)) (λ q. ⊥) was now

-- an IF whose test has these branches
abbrev pub AddsIf : Spot → Branches → (was now : Known) → Type 0
AddsIf spot branches was now =
    AddsThese (λ p. place_in spot ≡ p) (λ p r. ⊥)
    (λ q. (place_in spot ≡ exit_statement q) × IsSome (if q.2 then branches.holds else branches.fails)) was now

-- the same where something is kept
abbrev pub KeepsPlace : Spot → (was now : Visits) → Type 0
KeepsPlace spot was now = IfSome was.known (λ k. IsSomeAnd now.known (AddsPlace spot k))

abbrev pub KeepsEval : Spot → Interval → (was now : Visits) → Type 0
KeepsEval spot range was now = IfSome was.known (λ k. IsSomeAnd now.known (AddsEval spot range k))

abbrev pub KeepsIf : Spot → Branches → (was now : Visits) → Type 0
KeepsIf spot branches was now = IfSome was.known (λ k. IsSomeAnd now.known (AddsIf spot branches k))

-- ---- where the walk comes

-- in the walk of statements, the first of which stands there
abbrev pub ComesIn : Walk → Spot → Body → Ranges → Visit → Type 0
ComesIn w spot b env v =
    BodyComes (scope_in w.plan.now) (calls_in w spot.chain)
    (CallsCome (scope_in w.plan.now) (methods_in w.plan.now) spot.chain) spot.method v spot.at b env

-- in that of a method's body
abbrev pub ComesInCall : Walk → List ℕ → ℕ → Ranges → Visit → Type 0
ComesInCall w m chain env = CallsCome (scope_in w.plan.now) (methods_in w.plan.now) chain m env

-- in that of the lists of an IF whose test has these branches
abbrev pub ComesInLists : Walk → Spot → Body → Body → meant.Branches → Visit → Type 0
ComesInLists w spot a b br v =
    IsSomeAnd br.holds (λ s. ComesIn w (record spot { at = spot.at + 1 }) a s v)
    ⊎ IsSomeAnd br.fails (λ s. ComesIn w (record spot { at = spot.at + 1 + written a }) b s v)

-- in that of both lists, each from its own ranges
abbrev pub ComesInBoth : Walk → Spot → Fork → List Interval → List Interval → Visit → Type 0
ComesInBoth w spot f rs ss v =
    ComesIn w (first_spot spot) (body_of f.yes.now) (ranges_in w.plan.now rs) v
    ⊎ ComesIn w (second_spot spot f) (body_of f.no.now) (ranges_in w.plan.now ss) v
