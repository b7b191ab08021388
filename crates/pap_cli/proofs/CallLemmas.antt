-- What is so of a call whatever its words are, from what the part that it chose has left.
use Rattle.std.proofs.Common.{◌≡◌, ◌≢◌, ◌∙◌, ℕ, Bool, true, false, List, sym, subst}
use Rattle.std.specs.Prelude.{Result, Ok, Err}
use Rattle.outside.specs.Causes.{Rose}
use Rattle.script_run.specs.declared.stop.Stop.{Stop}
use Rattle.script_run.specs.declared.stop.Stop.TheVariants as stops
use Rattle.pap_cli.specs.CallClauses.{TellsBadWords, TouchesOnly, IsCaused}
use Rattle.pap_cli.specs.Outside.{Objects, Outside}
use Rattle.pap_cli.specs.Statuses.{status_of}
use Rattle.pap_cli.specs.Words.{Form, check, sample, HasForm}
use Rattle.pap_cli.specs.ScriptWords.{ReadsScript}
use Rattle.pap_cli.specs.private.WordViews.{form_by, form_on_files}
use Rattle.pap_cli.specs.declared.status.Status.{Status}
use Rattle.pap_cli.specs.declared.status.Status.TheVariants.{BadWords}
use Rattle.pap_cli.specs.declared.words.Command.{Command}
use Rattle.pap_cli.specs.declared.words.Command.TheVariants.{Check, Once}
use Rattle.pap_cli.specs.declared.words.FileRequest.{FileRequest}
use Rattle.pap_cli.proofs.StatusLemmas.{file_stop, read_stop, write_stop}
use Rattle.pap_cli.proofs.WordLemmas.{one_form}

-- ---- words

-- words of a form are told to be bad by no part
not_told : (r : Result Bool Stop) → status_of r ≢ BadWords
not_told (Ok true) e = cc
not_told (Ok false) e = cc
not_told (Err stops.File) e = cc
not_told (Err stops.Read) e = cc
not_told (Err stops.Write) e = cc
not_told (Err stops.Memory) e = cc
not_told (Err stops.Long) e = cc

pub tells_good : (words : List (List ℕ)) (own : Form) → HasForm words own → (status : Status) (r : Result Bool Stop) →
    status ≡ status_of r → TellsBadWords words status
tells_good words own has status r is = record {
  told = λ bad memory. absurd (bad own has);
  alone = λ e. absurd (not_told r (sym is ∙ e));
}

-- ---- what stays

-- from what stays under the form that the words have
pub touches_own : {F R W : Type 0} (words : List (List ℕ)) (own : Form) → HasForm words own →
    (before after : Objects F R W) →
    (¬ (ReadsScript own) → after.source ≡ before.source) →
    ((employees : ℕ) → own ≡ sample employees → after.files ≡ before.files) →
    ((plan limits : List ℕ) → own ≡ check plan limits → after.steps ≡ before.steps) →
    TouchesOnly words before after
touches_own words own has before after source files steps = record {
  without_form = λ bad. absurd (bad own has);
  source_same = λ form is none.
      source (λ reads. none (subst ReadsScript (one_form words own form has is) reads));
  files_same = λ employees is. files employees (one_form words own (sample employees) has is);
  steps_same = λ plan limits is. steps plan limits (one_form words own (check plan limits) has is);
}

no_sample : (c : Command) (plan limits : List ℕ) (employees : ℕ) → form_by c plan limits ≢ sample employees
no_sample Check plan limits employees e = cc
no_sample (Once values) plan limits employees e = cc

-- an answer on two files is no sample
pub files_no_sample : (r : FileRequest) (employees : ℕ) → form_on_files r ≢ sample employees
files_no_sample r employees = no_sample r.command r.plan.now r.limits.now employees

-- ---- faults

pub caused_by : (before after : Outside) (status : Status) (r : Result Bool Stop) → status ≡ status_of r →
    (r ≡ Err stops.File → Rose before.file_faults after.file_faults) →
    (r ≡ Err stops.Read → Rose before.source_faults after.source_faults) →
    (r ≡ Err stops.Write → Rose before.sink_faults after.sink_faults) → IsCaused before after status
caused_by before after status r is file read write = record {
  file = λ e. file (file_stop r (sym is ∙ e));
  read = λ e. read (read_stop r (sym is ∙ e));
  write = λ e. write (write_stop r (sym is ∙ e));
}
