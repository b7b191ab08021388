-- What private contracts cite beside the definitions of ScriptWords.
use Rattle.std.specs.Prelude.{◌≡◌, ◌≤◌, ℕ, List}
use Rattle.std.specs.Fmt.{decimal as number}
use Rattle.script_run.specs.Limits.{most_employees}
use Rattle.pap_cli.specs.declared.words.FileRequest.{FileRequest}
use Rattle.pap_cli.specs.declared.words.Request.{Request}
use Rattle.pap_cli.specs.declared.words.Request.TheVariants as requests
use Rattle.pap_cli.specs.declared.words.Command.{Command}
use Rattle.pap_cli.specs.declared.words.Command.TheVariants.{Check, Once}
use Rattle.pap_cli.specs.ScriptWords.{AsksOfFiles}
use Rattle.pap_cli.specs.Words.{Form, check, once, run, sample, save, HasForm}

abbrev pub form_by : Command → List ℕ → List ℕ → Form
form_by Check plan limits = check plan limits
form_by (Once values) plan limits = once plan limits values

abbrev pub form_on_files : FileRequest → Form
form_on_files r = form_by r.command r.plan.now r.limits.now

abbrev pub form_of : Request → Form
form_of (requests.Files request) = form_on_files request
form_of requests.Run = run
form_of (requests.Sample employees) = sample employees
form_of requests.Save = save

-- a number of employees of a sample
pub record IsInRange (employees : ℕ) : Type 0 where
  pub least : 1 ≤ employees
  pub most : employees ≤ most_employees

-- a word that is such a number
pub record IsSampleWord (word : List ℕ) (employees : ℕ) : Type 0 where
  pub least : 1 ≤ employees
  pub most : employees ≤ most_employees
  pub spelled : word ≡ number employees

-- the words ask for no sample
abbrev pub AskNoSample : List (List ℕ) → Type 0
AskNoSample words = (employees : ℕ) → ¬ (HasForm words (sample employees))

-- the words ask for no answer on two files
abbrev pub AskNoFiles : List (List ℕ) → Type 0
AskNoFiles words = (form : Form) → AsksOfFiles form → ¬ (HasForm words form)
