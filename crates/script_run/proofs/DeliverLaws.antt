-- A line whose answer isn't written, and of which only a refusal is kept.
use Rattle.std.proofs.Common.{◌≡◌, List, [], ◌++◌, ℕ, ◌+◌, Bool, true, false, refl, sym, ap, ◌∙◌, subst, arith, inr}
use Rattle.std.proofs.lemmas.List.{append-nil}
use Rattle.std.specs.Prelude.{None, Some, Result, Err, Vec}
use Rattle.std.specs.declared.alloc.Global.{Global}
use Rattle.script_steps.specs.Shown.{OutsideShown, shown}
use Rattle.script_steps.specs.Steps.{Standing}
use Rattle.script_steps.specs.StepClauses.{IsAnswered, IsOutOfMemory, IsBroken}
use Rattle.script_steps.specs.Unwritten.{IsAnsweredUnwritten}
use Rattle.script_steps.specs.declared.unwritten.Refusal.{Refusal}
use Rattle.script_steps.specs.declared.stop.LineStop.{LineStop}
use Rattle.script_run.specs.private.RunViews.{IsDelivered}

-- of a sink that shows nothing
abbrev pub unseen : OutsideShown → OutsideShown
unseen s = shown s.files s.failed None s.steps

-- where a refusal couldn't be kept, memory ran out
pub answer_lost : (old new : OutsideShown) {from to : Standing} {line : List ℕ} {refused : Bool} →
    IsAnswered old new from to line refused → IsOutOfMemory (unseen old) (unseen new) from to line
answer_lost old new {to = to} answered =
    let counted : new.steps ≡ old.steps + (answered.answer).steps = answered.counted in
    record {
      left = inr (answered.answer, answered.is);
      done = inr (record {
        to = to;
        answer = answered.answer;
        part = record { front = []; rest = (answered.answer).text; parts = refl; appended = tt };
        later = omega arith;
        within = omega arith;
        is = answered.is;
      });
    }

-- a refusal was put to the others
pub refusal_kept : {old new : OutsideShown} {from to : Standing} {line : List ℕ} (refusal : Refusal) (was is : Vec ℕ Global) →
    IsAnsweredUnwritten old new from to line (Some refusal) → is.items ≡ was.items ++ refusal.text.items →
    IsDelivered old new from to (Some was) (Some is) line true
refusal_kept refusal was is h put = record { answered = h.answered; kept = put ∙ ap (λ v. was.items ++ v) h.text }

-- nothing was put to them
pub nothing_kept : {old new : OutsideShown} {from to : Standing} {line : List ℕ} (was : Vec ℕ Global) →
    IsAnsweredUnwritten old new from to line None → IsDelivered old new from to (Some was) (Some was) line false
nothing_kept was h = record { answered = h.answered; kept = sym (append-nil was.items) ∙ ap (λ v. was.items ++ v) h.text }

-- the same stop
pub broken_as : {T : Type 0} (old new : OutsideShown) (from to : Standing) (line : List ℕ)
    {found stop : LineStop} → ◌≡◌ {A = Result T LineStop} (Err found) (Err stop) →
    IsBroken old new from to line found → IsBroken old new from to line stop
broken_as old new from to line {found = found} {stop = stop} is broken =
    let same : found ≡ stop = cc in
    subst (λ v. IsBroken old new from to line v) same broken
