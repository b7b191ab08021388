-- What a call leaves that answers on a plan's file and a range file, by its status.
use Rattle.std.specs.Prelude.{◌≡◌, ◌≢◌, ◌⊎◌, ℕ, ◌+◌, ◌-◌, ◌≤◌, ◌<◌, List, [], ◌++◌, length, take, Some}
use Rattle.std.specs.Option.{ForSome}
use Rattle.outside.specs.Causes.{Still}
use Rattle.outside.specs.Told.{FileMap, Appends}
use Rattle.script_steps.specs.Shown.{OutsideShown}
use Rattle.pap_cli.specs.declared.status.Status.{Status}
use Rattle.pap_cli.specs.declared.status.Status.TheVariants as statuses
use Rattle.pap_cli.specs.Statuses.{done_status}
use Rattle.plan_answers.specs.Answers.{Answer}
use Rattle.plan_answers.specs.Fronts.{IsMissing}
use Rattle.pap_cli.specs.Outside.{Outside}

-- a relation between the bytes of a plan, those of a range file, and an answer
abbrev pub Answering : Type 1
Answering = List ℕ → List ℕ → Answer → Type 0

-- the files of these names are there, and this is the answer on their bytes
pub record AnswersFiles (Answers : Answering) (plan limits : List ℕ) (files : FileMap) (answer : Answer) : Type 0 where
  pub plan_bytes : List ℕ
  pub limits_bytes : List ℕ
  pub plan_there : files plan ≡ Some plan_bytes
  pub limits_there : files limits ≡ Some limits_bytes
  pub answers : Answers plan_bytes limits_bytes answer

-- the defined text was written, the counter rose by the run's steps, and the status says whether it is a refusal
pub record IsWrittenWhole (IsAnswer : Answer → Type 0) (out : List ℕ) (spent : ℕ) (status : Status) : Type 0 where
  pub answer : Answer
  pub is : IsAnswer answer
  pub text : out ≡ answer.text
  pub cost : spent ≡ answer.steps
  pub ended : status ≡ done_status answer.refused

-- a prefix of the defined text was written, and not the whole; the counter rose by the run's steps
pub record IsWrittenShort (IsAnswer : Answer → Type 0) (out : List ℕ) (spent : ℕ) : Type 0 where
  pub answer : Answer
  pub is : IsAnswer answer
  pub count : ℕ
  pub within : count < length answer.text
  pub text : out ≡ take count answer.text
  pub cost : spent ≡ answer.steps

-- the run was counted, and its answer wasn't written
pub record IsRunCounted (IsAnswer : Answer → Type 0) (began steps : ℕ) : Type 0 where
  pub answer : Answer
  pub is : IsAnswer answer
  pub cost : steps ≡ began + answer.steps

-- where memory ran out: nothing was counted, or the run was
abbrev pub IsCounted : (Answer → Type 0) → ℕ → ℕ → Type 0
IsCounted IsAnswer began steps = (steps ≡ began) ⊎ IsRunCounted IsAnswer began steps

-- the answer on the files was written whole, where they tell what they hold
abbrev pub EndsWhole : (FileMap → Answer → Type 0) → OutsideShown → OutsideShown → List ℕ → Status → Type 0
EndsWhole IsAnswer before after out status =
    ForSome before.files (λ files. IsWrittenWhole (IsAnswer files) out (after.steps - before.steps) status)

-- how the call ended, by its status: what was written of the answer, and what was counted
abbrev pub EndsOnFiles :
    Answering → List ℕ → List ℕ → OutsideShown → OutsideShown → List ℕ → Status → Type 0
EndsOnFiles Answers plan limits before after out statuses.Done =
    EndsWhole (AnswersFiles Answers plan limits) before after out statuses.Done
EndsOnFiles Answers plan limits before after out statuses.Refused =
    EndsWhole (AnswersFiles Answers plan limits) before after out statuses.Refused
EndsOnFiles Answers plan limits before after out statuses.BadWords = ⊥
EndsOnFiles Answers plan limits before after out statuses.FileFault =
    (out ≡ []) × (after.steps ≡ before.steps) × IsMissing before.files plan limits after.failed
EndsOnFiles Answers plan limits before after out statuses.ReadFault = ⊥
EndsOnFiles Answers plan limits before after out statuses.WriteFault = ForSome before.files (λ files.
    IsWrittenShort (AnswersFiles Answers plan limits files) out (after.steps - before.steps))
EndsOnFiles Answers plan limits before after out statuses.NoMemory = (out ≡ []) × ForSome before.files (λ files.
    IsCounted (AnswersFiles Answers plan limits files) before.steps after.steps)
EndsOnFiles Answers plan limits before after out statuses.ScriptLong = ⊥

-- what the call leaves
pub record LeavesOnFiles
    (Answers : Answering) (plan limits : List ℕ) (before after : OutsideShown)
    (status : Status) : Type 0 where
  pub out : List ℕ
  pub appended : Appends before.written after.written out
  pub counted : before.steps ≤ after.steps
  pub ends : EndsOnFiles Answers plan limits before after out status
  pub kept : status ≢ statuses.FileFault → after.failed ≡ before.failed

-- both files are there, the answer on them was written whole, the counter rose by its steps, and the status says whether it
-- is a refusal
pub record IsAnsweredOnFiles (Answers : Answering) (plan limits : List ℕ) (files : FileMap) (written : List ℕ) (before after : Outside) (status : Status) : Type 0 where
  pub answer : Answer
  pub answers : AnswersFiles Answers plan limits files answer
  pub text : after.written ≡ Some (written ++ answer.text)
  pub cost : after.steps ≡ before.steps + answer.steps
  pub ended : status ≡ done_status answer.refused

-- where the files and the sink tell what they hold, while memory is there and no call of them fails, the answer on both
-- files was written whole
abbrev pub HeadlineOnFiles : Answering → List ℕ → List ℕ → Outside → Outside → Status → Type 0
HeadlineOnFiles Answers plan limits before after status =
    ForSome before.files (λ files. ForSome before.written (λ written.
    status ≢ statuses.NoMemory → Still before.file_faults after.file_faults → Still before.sink_faults after.sink_faults →
    IsAnsweredOnFiles Answers plan limits files written before after status))
