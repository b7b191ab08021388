-- What private contracts say of the variables of a walk.
use Rattle.std.specs.Prelude.{◌≡◌}
use Rattle.pap_tree.specs.declared.plan.PlanText.{PlanText}
use Rattle.interval_analysis.specs.declared.variables.Variables.{Variables}
use Rattle.interval_analysis.specs.private.Changes.{AreKept}
use Rattle.interval_analysis.specs.private.Notes.{IsNoted}
use Rattle.interval_analysis.specs.private.PlanViews.{IsSized}

-- the variables of a plan, each with a range that the code keeps
pub record AreHeld (p : PlanText) (v : Variables) : Type 0 where
  pub sized : IsSized p v.ranges.items
  pub kept : AreKept v.ranges.items

-- so they are afterwards, and what has changed is noted
pub record GoesOn (p : PlanText) (was now : Variables) : Type 0 where
  pub held : AreHeld p now
  pub noted : IsNoted was now

-- they are left as they were
pub record IsLeft (was now : Variables) : Type 0 where
  pub ranges : now.ranges.items ≡ was.ranges.items
  pub notes : now.notes.items ≡ was.notes.items
