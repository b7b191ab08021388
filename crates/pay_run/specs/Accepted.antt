-- An accepted plan without its code: its two texts and what they mean.
use Rattle.std.specs.Prelude.{ℕ, List}
use Rattle.pap_plan.specs.Acceptance.{Meaning}
use Rattle.pap_plan.specs.Plans.{Seen, meaning}

-- a plan: its two texts and what they mean
pub record Accepted : Type 0 where
  pub plan : List ℕ
  pub limits : List ℕ
  pub meaning : Meaning

-- a plan that runs, without its code
abbrev pub accepted : Seen → Accepted
accepted p = record { plan = p.plan; limits = p.limits; meaning = meaning p }
