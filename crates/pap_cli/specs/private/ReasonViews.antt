-- What a reason tells, for a command on the bytes of two files.
use Rattle.std.specs.Prelude.{ℕ, List, Option}
use Rattle.outside.specs.Told.{FileMap}
use Rattle.plain_words.specs.Places.{PlanFiles}
use Rattle.pap_cli.specs.declared.words.Command.{Command}
use Rattle.pap_cli.specs.declared.words.Command.TheVariants.{Check, Once}
use Rattle.script_run.specs.Notes.{NotesShown, AreNoted}
use Rattle.pap_cli.specs.Reasons.{IsReasonOn, TellsOnce, TellsRefusal}

-- what a command's reason tells of two files
abbrev pub TellsOn : Command → PlanFiles → List ℕ → Type 0
TellsOn Check = TellsRefusal
TellsOn (Once values) = TellsOnce values

-- the reason of a command's refusal was put to the notes
pub record HasReasonOn (command : Command) (plan limits : List ℕ) (told : Option FileMap) (before after : NotesShown) : Type 0 where
  pub text : List ℕ
  pub is : IsReasonOn (TellsOn command) plan limits told text
  pub put : AreNoted before after text
