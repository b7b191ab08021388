-- Where a walk fails, and why; and what goes on where it doesn't.
use Rattle.std.specs.Prelude.{ℕ, List, [], Result, Ok, Err}
use Rattle.pap_tree.specs.declared.place.Place.{Place}
use Rattle.interval_num.specs.declared.cause.RangeCause.{RangeCause}
use Rattle.interval_num.specs.declared.cause.RangeCause.TheVariants.{Wide}
use Rattle.interval_num.specs.Intervals.{Interval}
use Rattle.pap_types.specs.Checks.{place}

-- a node of an expression that may fail
pub record NodeFault : Type 0 where
  pub node : ℕ
  pub cause : RangeCause
  -- the ranges that its operands have there, from the left
  pub operands : List Interval

-- why a plan's ranges are refused
pub data WalkFault : Type 0 where
  -- a node may fail, whose operands have these ranges there, from the left
  node_fails : Place → RangeCause → List Interval → WalkFault
  -- an output may be beyond its bound, which has this range at the end
  output_fails : List ℕ → Interval → WalkFault

-- what comes after an answer; after a refusal, that refusal
abbrev pub and_then : {A B E : Type 0} → Result A E → (A → Result B E) → Result B E
and_then (Ok a) go = go a
and_then (Err e) go = Err e

-- an operation's refusal, at its node, with the ranges of its operands
abbrev pub at_node : {A : Type 0} →
    ℕ → List Interval → Result A RangeCause → Result A NodeFault
at_node node operands (Ok a) = Ok a
at_node node operands (Err cause) =
    Err (record { node = node; cause = cause; operands = operands })

-- an expression's refusal, at its statement
abbrev pub at_stmt : {A : Type 0} → List ℕ → ℕ → Result A NodeFault → Result A WalkFault
at_stmt method stmt (Ok a) = Ok a
at_stmt method stmt (Err f) = Err (node_fails (place method stmt f.node) f.cause f.operands)

-- at a node to which no run comes
abbrev pub nowhere : ℕ → NodeFault
nowhere node = record { node = node; cause = Wide; operands = [] }
