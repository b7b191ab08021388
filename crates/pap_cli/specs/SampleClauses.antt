-- What `sample N` leaves, by its status.
use Rattle.std.specs.Prelude.{◌≡◌, ◌≢◌, ℕ, ◌+◌, ◌-◌, ◌≤◌, List, [], ◌++◌, Some}
use Rattle.std.specs.Option.{ForSome}
use Rattle.outside.specs.Causes.{Still}
use Rattle.outside.specs.Told.{Appends}
use Rattle.plan_answers.specs.Answers.{Answer}
use Rattle.pap_cli.specs.declared.status.Status.{Status}
use Rattle.pap_cli.specs.declared.status.Status.TheVariants as statuses
use Rattle.pap_cli.specs.Statuses.{done_status}
use Rattle.pap_cli.specs.Outside.{Outside, Output}
use Rattle.pap_cli.specs.FileClauses.{IsWrittenWhole, IsWrittenShort}
use Rattle.pap_cli.specs.SampleAnswers.{IsSampled}

-- where memory ran out, at most the steps of the sample were counted
pub record IsSpentOnSample (employees began steps : ℕ) : Type 0 where
  pub answer : Answer
  pub is : IsSampled employees answer
  pub within : steps ≤ began + answer.steps

-- how the call ended, by its status: what was written of the answer, and what was counted
abbrev pub EndsOnSample : ℕ → Output → Output → List ℕ → Status → Type 0
EndsOnSample employees before after out statuses.Done =
    IsWrittenWhole (IsSampled employees) out (after.steps - before.steps) statuses.Done
EndsOnSample employees before after out statuses.Refused =
    IsWrittenWhole (IsSampled employees) out (after.steps - before.steps) statuses.Refused
EndsOnSample employees before after out statuses.BadWords = ⊥
EndsOnSample employees before after out statuses.FileFault = ⊥
EndsOnSample employees before after out statuses.ReadFault = ⊥
EndsOnSample employees before after out statuses.WriteFault =
    IsWrittenShort (IsSampled employees) out (after.steps - before.steps)
EndsOnSample employees before after out statuses.NoMemory =
    (out ≡ []) × IsSpentOnSample employees before.steps after.steps
EndsOnSample employees before after out statuses.ScriptLong = ⊥

-- what the call leaves; nothing but the sink and the counter is touched
pub record LeavesOnSample (employees : ℕ) (before after : Output) (status : Status) : Type 0 where
  pub out : List ℕ
  pub appended : Appends before.written after.written out
  pub counted : before.steps ≤ after.steps
  pub ends : EndsOnSample employees before after out status

-- the answer was written whole, the counter rose by its steps, and the status says whether the sample had a refusal
pub record IsSampledWhole (employees : ℕ) (written : List ℕ) (before after : Outside) (status : Status) : Type 0 where
  pub answer : Answer
  pub is : IsSampled employees answer
  pub text : after.written ≡ Some (written ++ answer.text)
  pub cost : after.steps ≡ before.steps + answer.steps
  pub ended : status ≡ done_status answer.refused

-- where the sink tells what it holds, while memory is there and no call of it fails, the answer of `sample` was
-- written whole
abbrev pub HeadlineOnSample : ℕ → Outside → Outside → Status → Type 0
HeadlineOnSample employees before after status =
    ForSome before.written (λ written.
    status ≢ statuses.NoMemory → Still before.sink_faults after.sink_faults →
    IsSampledWhole employees written before after status)
