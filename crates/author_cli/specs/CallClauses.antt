-- What a call leaves, as it ended.
use Rattle.std.specs.Prelude.{◌≡◌, ◌≢◌, ◌⊎◌, ℕ, List, ◌++◌, Option, Some, IsSome, Ok, Err, String}
use Rattle.std.specs.Option.{ForSome}
use Rattle.std.specs.declared.alloc.Global.{Global}
use Rattle.outside.specs.Causes.{Still}
use Rattle.outside.specs.Told.{FileMap, Appends, AppendsShort}
use Rattle.plan_answers.specs.Fronts.{IsMissing}
use Rattle.author_cli.specs.declared.stop.Stop.TheVariants as stops
use Rattle.author_cli.specs.Words.{NamedPlans, two_plans, with_limits, Form, chart, chart_within, ranges, compared, traced, drawn, example, linted, covered}
use Rattle.author_cli.specs.Answers.{Answer, Answers}
use Rattle.author_cli.specs.Ends.{Ended, words_of}
use Rattle.author_cli.specs.Outside.{Outside}

-- the name at which the files failed: that of a plan's two files, or the third one's where both are there
abbrev pub IsMissingOfThree : Option FileMap → (plan limits table : List ℕ) → Option (List ℕ) → Type 0
IsMissingOfThree told plan limits table failed =
    IsMissing told plan limits failed
    ⊎ ((failed ≡ Some table) × ForSome told (λ files. IsSome (files plan) × IsSome (files limits)))

-- the name at which the files failed: that of the first pair's two files, or that of the second's where both of the first are there
abbrev pub IsMissingOfPairs : Option FileMap → (old old_limits new new_limits : List ℕ) → Option (List ℕ) → Type 0
IsMissingOfPairs told old old_limits new new_limits failed =
    IsMissing told old old_limits failed
    ⊎ (IsMissing told new new_limits failed × ForSome told (λ files. IsSome (files old) × IsSome (files old_limits)))

-- the name at which the files that are compared failed
abbrev pub LacksPlan : NamedPlans → Option FileMap → Option (List ℕ) → Type 0
LacksPlan (two_plans old new) told failed = IsMissing told old new failed
LacksPlan (with_limits old old_limits new new_limits) told failed = IsMissingOfPairs told old old_limits new new_limits failed

-- the name at which the files failed: the first one, or the second one where the first file is there
abbrev pub Lacks : Form → Option FileMap → Option (List ℕ) → Type 0
Lacks (chart plan) told failed = failed ≡ Some plan
Lacks (chart_within plan limits) told failed = IsMissing told plan limits failed
Lacks (ranges plan) told failed = failed ≡ Some plan
Lacks (compared medium plans) told failed = LacksPlan plans told failed
Lacks (traced plan limits values) told failed = IsMissing told plan limits failed
Lacks (drawn plan limits values) told failed = IsMissing told plan limits failed
Lacks (example plan limits) told failed = IsMissing told plan limits failed
Lacks (linted plan limits) told failed = IsMissing told plan limits failed
Lacks (covered medium plan limits table least) told failed = IsMissingOfThree told plan limits table failed

-- ---- what each end leaves; of the text where the files tell what they hold, of the rest always

-- the whole answer was written, and these words say why a plan is refused, that two differ, or that a run fails, where that is so
pub record IsWholeAnswer (form : Form) (before after : Outside) (words : Option (List ℕ)) : Type 0 where
  pub text : List ℕ
  pub written : Appends before.written after.written text
  pub answers : ForSome before.files (λ files. Answers form files (record { text = text; reason = words }))
  pub kept : after.failed ≡ before.failed

-- a prefix of the answer was written, and not the whole
pub record IsCutShort (form : Form) (before after : Outside) : Type 0 where
  pub answer : Answer
  pub written : AppendsShort before.written after.written answer.text
  pub answers : ForSome before.files (λ files. Answers form files answer)
  pub kept : after.failed ≡ before.failed

-- a file could not be read, and nothing was written
pub record IsLacking (form : Form) (before after : Outside) : Type 0 where
  pub written : after.written ≡ before.written
  pub lacks : Lacks form before.files after.failed

-- memory ran out, and nothing was written
pub record IsUnwritten (before after : Outside) : Type 0 where
  pub written : after.written ≡ before.written
  pub kept : after.failed ≡ before.failed

-- what a call leaves, by how it ended: the whole answer, nothing where a file couldn't be read or memory ran
-- out, a prefix where the sink failed
abbrev pub Leaves : Form → Outside → Outside → Ended → Type 0
Leaves form before after (Ok reason) = IsWholeAnswer form before after (words_of reason)
Leaves form before after (Err stops.Words) = ⊥
Leaves form before after (Err stops.File) = IsLacking form before after
Leaves form before after (Err stops.Write) = IsCutShort form before after
Leaves form before after (Err stops.Memory) = IsUnwritten before after

-- ---- the headline

-- the files are there, the answer on them was written whole, and it is told why a plan is refused, that two differ, or that a run
-- fails, where that is so
pub record IsAnswered (form : Form) (files : FileMap) (written : List ℕ) (after : Outside) (ended : Ended)
    : Type 0 where
  pub answer : Answer
  pub answers : Answers form files answer
  pub text : after.written ≡ Some (written ++ answer.text)
  pub reason : Option (String Global)
  pub is_ok : ended ≡ Ok reason
  pub words : words_of reason ≡ answer.reason

-- where the files and the sink tell what they hold, while memory is there and no call of them fails
abbrev pub Headline : Form → Outside → Outside → Ended → Type 0
Headline form before after ended =
    ForSome before.files (λ files. ForSome before.written (λ written.
    ended ≢ Err stops.Memory → Still before.file_faults after.file_faults → Still before.sink_faults after.sink_faults →
    IsAnswered form files written after ended))

-- what the call leaves that carries out words of this form
pub record Carries (form : Form) (before after : Outside) (ended : Ended) : Type 0 where
  pub leaves : Leaves form before after ended
  pub headline : Headline form before after ended
