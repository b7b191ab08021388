-- The variables of a walk.
use Rattle.std.proofs.Common.{◌≡◌, ℕ, List, length, sym, ap, ◌∙◌, subst}
use Rattle.pap_tree.specs.declared.plan.PlanText.{PlanText}
use Rattle.interval_analysis.specs.declared.branches.Change.{Change}
use Rattle.interval_analysis.specs.declared.variables.Variables.{Variables}
use Rattle.interval_analysis.specs.private.Changes.{AreKept, changed}
use Rattle.interval_analysis.specs.private.Notes.{IsNoted, TakesBackAs}
use Rattle.interval_analysis.specs.private.VariableViews.{AreHeld, GoesOn, IsLeft}
use Rattle.interval_analysis.proofs.ChangeLemmas.{length-changed}
use Rattle.interval_analysis.proofs.NoteLemmas.{noted_length, noted_none, noted_then, noted_same}
use Rattle.interval_analysis.proofs.RepeatLemmas.{noted_again}

module _ (p : PlanText) where
  pub held_same : (was now : Variables) → now.ranges.items ≡ was.ranges.items → AreHeld p was → AreHeld p now
  held_same was now same h = record { sized = ap length same ∙ h.sized; kept = subst AreKept (sym same) h.kept }

  pub goes_none : (v : Variables) → AreHeld p v → GoesOn p v v
  goes_none v h = record { held = h; noted = noted_none v }

  pub goes_then : (a b c : Variables) → GoesOn p a b → GoesOn p b c → GoesOn p a c
  goes_then a b c h k = record { held = k.held; noted = noted_then a b c h.noted k.noted }

  pub goes_apply : (was now : Variables) (cs : List Change) → AreHeld p was → now.ranges.items ≡ changed was.ranges.items cs → IsNoted was now → AreKept now.ranges.items → GoesOn p was now
  goes_apply was now cs h value noted kept = record {
    held = record { sized = ap length value ∙ length-changed was.ranges.items cs ∙ h.sized; kept = kept };
    noted = noted;
  }

  pub goes_noted : (was now : Variables) → AreHeld p was → IsNoted was now → AreKept now.ranges.items → GoesOn p was now
  goes_noted was now h noted kept = record {
    held = record { sized = noted_length was now noted ∙ h.sized; kept = kept };
    noted = noted;
  }

  -- behind what was noted some notes go, and the others take back to the same ranges
  pub goes_again : (was mid now : Variables) (mark : ℕ) → mark ≡ length was.notes.items → GoesOn p was mid → TakesBackAs mark mid now → AreKept now.ranges.items → AreHeld p was → GoesOn p was now
  goes_again was mid now mark e h back kept held = goes_noted was now held (noted_again was mid now mark e h.noted back) kept

  pub trimmed : (was mid now : Variables) (mark : ℕ) → mark ≡ length was.notes.items → AreHeld p was → GoesOn p was mid → now.ranges.items ≡ mid.ranges.items → TakesBackAs mark mid now → GoesOn p was now
  trimmed was mid now mark e held h same back = goes_again was mid now mark e h back (subst AreKept (sym same) h.held.kept) held

  -- variables that are left as they were
  pub held_left : (was now : Variables) → IsLeft was now → AreHeld p was → AreHeld p now
  held_left was now left h = held_same was now left.ranges h

  pub goes_left : (was now : Variables) → IsLeft was now → AreHeld p was → GoesOn p was now
  goes_left was now left h = record { held = held_left was now left h; noted = noted_same was now left.ranges left.notes }
