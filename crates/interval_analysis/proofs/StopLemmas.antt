-- What is told of a walk that stops.
use Rattle.std.proofs.Common.{◌≡◌, ℕ, List, [], ◌∷◌, Result, Ok, Err, refl, sym, ap, ◌∙◌, subst}
use Rattle.std.specs.Prelude.{alloc_error}
use Rattle.std.specs.Result.{IsErrAnd}
use Rattle.pap_tree.specs.Flowchart.{Flowchart}
use Rattle.limits_file.specs.declared.limits.Limits.{Limits}
use Rattle.pap_types.specs.Checks.{place}
use Rattle.interval_walk.specs.Ranges.{Ranges}
use Rattle.interval_walk.specs.Failures.{NodeFault, WalkFault, node_fails, output_fails, and_then, at_stmt}
use Rattle.interval_walk.specs.Analysis.{analysed}
use Rattle.interval_analysis.specs.Answers.{IsWalkFaultOrMemory, AreFailingOperands, UnlessMemory}
use Rattle.interval_analysis.specs.declared.expressions.Stop.{Stop}
use Rattle.interval_analysis.specs.declared.expressions.Stop.TheVariants as stops
use Rattle.interval_analysis.specs.declared.fault.RangeFault.{RangeFault}
use Rattle.interval_analysis.specs.declared.fault.RangeFault.TheVariants as faults
use Rattle.interval_analysis.specs.declared.statements.Spot.{Spot}
use Rattle.interval_analysis.specs.declared.stop.WalkStop.{WalkStop}
use Rattle.interval_analysis.specs.declared.stop.WalkStop.TheVariants as walks
use Rattle.interval_analysis.specs.declared.value_range.ValueRange.{ValueRange}
use Rattle.interval_analysis.specs.private.ExpressionViews.{StopsAs}
use Rattle.interval_analysis.specs.private.StopViews.{FaultOf, IsFaultOf, RefusesAt, StopsAt, StopsWith, WithMemory, IsBehindLists, range_fault, range_operands}

-- ---- a fault as callers see it

module _ (f : Flowchart) (limits : Limits) where
  pub fault_told : (fault : RangeFault) (ranges : List ValueRange) → IsFaultOf (analysed f limits) fault ranges → IsWalkFaultOrMemory f limits fault
  fault_told (faults.At p cause) ranges h = (h.0, h.1)
  fault_told (faults.Output x) ranges h = (h.0, h.1)
  fault_told (faults.Memory e) ranges h = tt

  pub operands_told : (fault : RangeFault) (ranges : List ValueRange) → IsFaultOf (analysed f limits) fault ranges → AreFailingOperands f limits fault ranges
  operands_told (faults.At p cause) ranges h = h
  operands_told (faults.Output x) ranges h = h
  operands_told (faults.Memory e) ranges h = absurd h

  pub stop_told : (stop : WalkStop) → FaultOf (analysed f limits) stop → IsWalkFaultOrMemory f limits (range_fault stop)
  stop_told (walks.Refused refusal) h = fault_told refusal.value.fault refusal.value.operands.items h
  stop_told walks.Memory h = tt

  pub stop_operands : (stop : WalkStop) → FaultOf (analysed f limits) stop → AreFailingOperands f limits (range_fault stop) (range_operands stop)
  stop_operands (walks.Refused refusal) h = operands_told refusal.value.fault refusal.value.operands.items h
  stop_operands walks.Memory h = refl

-- what holds of each fault holds unless memory ran out
pub unless_memory : (fault : RangeFault) (P : Type 0) → P → UnlessMemory fault P
unless_memory (faults.At p cause) P h = h
unless_memory (faults.Output x) P h = h
unless_memory (faults.Memory e) P h = tt

pub of_memory : (fault : RangeFault) (P : Type 0) → fault ≡ faults.Memory alloc_error → UnlessMemory fault P
of_memory fault P is = subst (λ f. UnlessMemory f P) (sym is) tt

-- ---- a fault of an answer is that of another with the same refusals

fault_on : (r q : Result Ranges WalkFault) (fault : RangeFault) (ranges : List ValueRange) → ((e : WalkFault) → r ≡ Err e → q ≡ Err e) → IsFaultOf r fault ranges → IsFaultOf q fault ranges
fault_on r q (faults.At p cause) ranges on h = (h.0, on (node_fails p cause h.0) h.1, h.2)
fault_on r q (faults.Output x) ranges on h = (h.0, on (output_fails x h.0) h.1, h.2)
fault_on r q (faults.Memory e) ranges on h = absurd h

pub fault_through : (r q : Result Ranges WalkFault) (stop : WalkStop) → ((e : WalkFault) → r ≡ Err e → q ≡ Err e) → FaultOf r stop → FaultOf q stop
fault_through r q (walks.Refused refusal) on h = fault_on r q refusal.value.fault refusal.value.operands.items on h
fault_through r q walks.Memory on h = tt

-- what is refused doesn't pass
pub fault_passes_not : (r : Result Ranges WalkFault) (fault : RangeFault) (ranges : List ValueRange) (a : Ranges) → IsFaultOf r fault ranges → r ≡ Ok a → ⊥
fault_passes_not r (faults.At p cause) ranges a h is = (let e : Err (node_fails p cause h.0) ≡ Ok a = sym h.1 ∙ is in absurd cc)
fault_passes_not r (faults.Output x) ranges a h is = (let e : Err (output_fails x h.0) ≡ Ok a = sym h.1 ∙ is in absurd cc)
fault_passes_not r (faults.Memory e) ranges a h is = absurd h

-- an answer that is refused doesn't pass
pub stopped_not : {A E : Type 0} (r : Result A E) (a : A) (f : E) → r ≡ Err f → r ≡ Ok a → ⊥
stopped_not r a f h is = (let e : Err f ≡ Ok a = sym h ∙ is in absurd cc)

-- where memory ran out in an expression nothing else is told
memory_alone : (spot : Spot) (s : WalkStop) → RefusesAt stops.Memory spot s → s ≡ walks.Memory
memory_alone spot (walks.Refused refusal) h = absurd (fault_passes_not (Ok []) refusal.value.fault refusal.value.operands.items [] (h (Ok []) tt) refl)
memory_alone spot walks.Memory h = refl

-- the stop of an expression stops what comes behind it
pub stops_step : {A : Type 0} (r : Result A NodeFault) (go : A → Result Ranges WalkFault) (stop : Stop) (spot : Spot) → StopsAs r stop → StopsAt (and_then (at_stmt spot.method spot.at r) go) stop spot
stops_step r go (stops.At n cause) spot h = ap (λ r. and_then (at_stmt spot.method spot.at r) go) h
stops_step r go (stops.AtOne n cause a) spot h = ap (λ r. and_then (at_stmt spot.method spot.at r) go) h
stops_step r go (stops.AtTwo n cause a b) spot h = ap (λ r. and_then (at_stmt spot.method spot.at r) go) h
stops_step r go stops.Memory spot h = tt

-- ---- unless memory ran out

pub stops_any : (stop : WalkStop) (P : Type 0) → P → StopsWith stop P
stops_any (walks.Refused refusal) P h = h
stops_any walks.Memory P h = tt

pub with_any : {A : Type 0} (r : Result A WalkStop) (P : Type 0) → P → WithMemory r P
with_any (Ok a) P h = h
with_any (Err (walks.Refused refusal)) P h = h
with_any (Err walks.Memory) P h = tt

pub stops_map : (stop : WalkStop) (P Q : Type 0) → (P → Q) → StopsWith stop P → StopsWith stop Q
stops_map (walks.Refused refusal) P Q on h = on h
stops_map walks.Memory P Q on h = tt

pub with_map : {A : Type 0} (r : Result A WalkStop) (P Q : Type 0) → (P → Q) → WithMemory r P → WithMemory r Q
with_map (Ok a) P Q on h = on h
with_map (Err (walks.Refused refusal)) P Q on h = on h
with_map (Err walks.Memory) P Q on h = tt

-- the same stop
pub with_err : {A : Type 0} (r : Result A WalkStop) (stop : WalkStop) (P : Type 0) → IsErrAnd r (λ s. s ≡ stop) → StopsWith stop P → WithMemory r P
with_err (Ok a) stop P is h = absurd is
with_err (Err s) stop P is h = subst (λ s. StopsWith s P) (sym is) h

pub with_lost : {A : Type 0} (r : Result A WalkStop) (P : Type 0) → IsErrAnd r (λ s. s ≡ walks.Memory) → WithMemory r P
with_lost (Ok a) P is = absurd is
with_lost (Err s) P is = subst (λ s. StopsWith s P) (sym is) tt

-- both lists were walked
pub both_ok : (before behind : Result ℕ WalkStop) (next : ℕ) → IsBehindLists before behind (Ok next) → ((n : ℕ) × (before ≡ Ok n)) × (behind ≡ Ok next)
both_ok (Ok n) behind next h = ((n, refl), sym h)
both_ok (Err s) (Ok m) next h = absurd cc
both_ok (Err s) (Err (walks.Refused refusal)) next h = absurd cc
both_ok (Err s) (Err walks.Memory) next h = absurd cc

pub both_with : (before behind told : Result ℕ WalkStop) (P Q R : Type 0) → IsBehindLists before behind told → WithMemory before P → WithMemory behind Q → (P → Q → R) → WithMemory told R
both_with (Ok n) (Ok m) told P Q R is h g on = with_any told R (on h g)
both_with (Ok n) (Err (walks.Refused refusal)) told P Q R is h g on = with_any told R (on h g)
both_with (Ok n) (Err walks.Memory) told P Q R is h g on = subst (λ t. WithMemory t R) (sym is) tt
both_with (Err (walks.Refused refusal)) (Ok m) told P Q R is h g on = with_any told R (on h g)
both_with (Err (walks.Refused refusal)) (Err (walks.Refused other)) told P Q R is h g on = with_any told R (on h g)
both_with (Err (walks.Refused refusal)) (Err walks.Memory) told P Q R is h g on = subst (λ t. WithMemory t R) (sym is) tt
both_with (Err walks.Memory) (Ok m) told P Q R is h g on = subst (λ t. WithMemory t R) (sym is) tt
both_with (Err walks.Memory) (Err (walks.Refused refusal)) told P Q R is h g on = subst (λ t. WithMemory t R) (sym is) tt
both_with (Err walks.Memory) (Err walks.Memory) told P Q R is h g on = subst (λ t. WithMemory t R) (sym is) tt

-- what holds where an expression stops, unless memory ran out for what is told of it
pub with_stop : {A : Type 0} (stop : Stop) (spot : Spot) (s : WalkStop) (r : Result A NodeFault) (P : Type 0) → StopsAs r stop → RefusesAt stop spot s → (((a : A) → r ≡ Ok a → ⊥) → P) → StopsWith s P
with_stop (stops.At n cause) spot s r P is refuses on = stops_any s P (on (λ a e. stopped_not r a _ is e))
with_stop (stops.AtOne n cause x) spot s r P is refuses on = stops_any s P (on (λ a e. stopped_not r a _ is e))
with_stop (stops.AtTwo n cause x y) spot s r P is refuses on = stops_any s P (on (λ a e. stopped_not r a _ is e))
with_stop stops.Memory spot s r P is refuses on = subst (λ s. StopsWith s P) (sym (memory_alone spot s refuses)) tt
