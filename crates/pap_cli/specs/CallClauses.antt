-- What a call leaves, by the form of its words: a form more is a case more.
use Rattle.std.specs.Prelude.{◌≡◌, ◌≢◌, ℕ, List}
use Rattle.outside.specs.Causes.{Rose}
use Rattle.outside.specs.declared.traits.Files.{Ghosts as FilesTell}
use Rattle.outside.specs.declared.traits.Sink.{Ghosts as SinkTells}
use Rattle.outside.specs.declared.traits.Source.{Ghosts as SourceTells}
use Rattle.script_run.specs.Notes.{Telling}
use Rattle.pap_cli.specs.declared.status.Status.{Status}
use Rattle.pap_cli.specs.declared.status.Status.TheVariants.{BadWords, FileFault, NoMemory, ReadFault, WriteFault}
use Rattle.pap_cli.specs.Words.{Form, check, once, run, sample, save, HasForm, IsBad}
use Rattle.pap_cli.specs.ScriptWords.{ReadsScript}
use Rattle.plan_answers.specs.Answers.{CheckAnswers}
use Rattle.pap_cli.specs.RunAnswers.{OnceAnswers}
use Rattle.pap_cli.specs.Outside.{Objects, Outside, outside_of, shown_of, output_of}
use Rattle.pap_cli.specs.FileClauses.{LeavesOnFiles, HeadlineOnFiles}
use Rattle.pap_cli.specs.ScriptClauses.{LeavesOnScript, HeadlineOnScript}
use Rattle.pap_cli.specs.SampleClauses.{LeavesOnSample, HeadlineOnSample}
use Rattle.pap_cli.specs.SaveClauses.{LeavesOnSave, HeadlineOnSave}

-- the status is `BadWords` exactly where the words have no form, unless memory ran out
pub record TellsBadWords (words : List (List ℕ)) (status : Status) : Type 0 where
  pub told : IsBad words → status ≢ NoMemory → status ≡ BadWords
  pub alone : status ≡ BadWords → IsBad words

-- words without a form touch nothing; words that read no script leave the source, a sample leaves the files, and `check`
-- the counter, whatever the files hold
pub record TouchesOnly {F R W : Type 0} (words : List (List ℕ)) (before after : Objects F R W) : Type 0 where
  pub without_form : IsBad words → after ≡ before
  pub source_same : (form : Form) → HasForm words form → ¬ (ReadsScript form) → after.source ≡ before.source
  pub files_same : (employees : ℕ) → HasForm words (sample employees) → after.files ≡ before.files
  pub steps_same : (plan limits : List ℕ) → HasForm words (check plan limits) → after.steps ≡ before.steps

-- a fault is answered only where its object's count rose
pub record IsCaused (before after : Outside) (status : Status) : Type 0 where
  pub file : status ≡ FileFault → Rose before.file_faults after.file_faults
  pub read : status ≡ ReadFault → Rose before.source_faults after.source_faults
  pub write : status ≡ WriteFault → Rose before.sink_faults after.sink_faults

-- what each status says of the text, of the counter, of the failed name, and of what is told of refused lines
abbrev pub Leaves : Form → Outside → Outside → Telling → Status → Type 0
Leaves (check plan limits) before after told status =
    LeavesOnFiles CheckAnswers plan limits (shown_of before) (shown_of after) status
Leaves (once plan limits values) before after told status =
    LeavesOnFiles (OnceAnswers values) plan limits (shown_of before) (shown_of after) status
Leaves run before after told status = LeavesOnScript before after told status
Leaves (sample employees) before after told status = LeavesOnSample employees (output_of before) (output_of after) status
Leaves save before after told status = LeavesOnSave before after told status

-- while memory is there and no outside call fails, what was written is the defined answer, or the transcript
abbrev pub Headline : Form → Outside → Outside → Status → Type 0
Headline (check plan limits) before after status = HeadlineOnFiles CheckAnswers plan limits before after status
Headline (once plan limits values) before after status = HeadlineOnFiles (OnceAnswers values) plan limits before after status
Headline run before after status = HeadlineOnScript before after status
Headline (sample employees) before after status = HeadlineOnSample employees before after status
Headline save before after status = HeadlineOnSave before after status

-- what the call leaves that carries out words of this form
pub record Carries (form : Form) (before after : Outside) (told : Telling) (status : Status) : Type 0 where
  pub leaves : Leaves form before after told status
  pub headline : Headline form before after status

-- what `papcalc_told` meets, which tells this of refused lines: words without a form are answered so, and nothing is
-- called; what the words don't ask for stays, and the files are only read; a fault is answered only where its object's
-- count rose; and words that have a form leave what `Carries` says
pub record CallTells
    {F R W : Type 0} (of_files : FilesTell F) (of_source : SourceTells R) (of_sink : SinkTells W)
    (words : List (List ℕ)) (before after : Objects F R W) (told : Telling) (status : Status) : Type 0 where
  pub bad_words : TellsBadWords words status
  pub touches : TouchesOnly words before after
  pub files_same : of_files.told after.files ≡ of_files.told before.files
  pub caused : IsCaused
      (outside_of of_files of_source of_sink before) (outside_of of_files of_source of_sink after) status
  pub carries : (form : Form) → HasForm words form → Carries form
      (outside_of of_files of_source of_sink before) (outside_of of_files of_source of_sink after) told status

-- what `papcalc` meets: all of `CallTells`, whatever would be told of refused lines
abbrev pub CallMeets : {F R W : Type 0} → FilesTell F → SourceTells R → SinkTells W
    → List (List ℕ) → Objects F R W → Objects F R W → Status → Type 0
CallMeets of_files of_source of_sink words before after status =
    (told : Telling) × CallTells of_files of_source of_sink words before after told status
