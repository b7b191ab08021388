-- The reason of a refusal, and the notes that it is put to.
use Rattle.std.proofs.Common.{◌≡◌, ◌≢◌, ◌∙◌, ℕ, ◌++◌, Bool, true, false, List, [], refl, ap, subst, inl, inr, arith}
use Rattle.std.specs.Prelude.{Option, Some, None, IfSome, is_some, Result, Ok, Err, String, string_bytes}
use Rattle.std.specs.declared.alloc.Global.{Global}
use Rattle.std.proofs.lemmas.Bool.{false≢true}
use Rattle.outside.specs.Told.{FileMap}
use Rattle.outside.specs.declared.traits.Sink.{Ghosts as SinkTells}
use Rattle.pap_tree.specs.Flowchart.{Flowchart}
use Rattle.payroll_records.specs.declared.values.NamedValue.{NamedValue}
use Rattle.carry_bindings.specs.declared.filling.Filled.TheVariants.{State}
use Rattle.carry_bindings.specs.declared.filling.Blocked.{Blocked}
use Rattle.carry_bindings.specs.declared.filling.Blocked.TheVariants as blocked
use Rattle.pap_plan.specs.declared.refusal.PlanRefusal.{PlanRefusal}
use Rattle.pap_plan.specs.Acceptance.{IsRefused}
use Rattle.pap_plan.specs.AcceptanceClauses.{IsAcceptedAs}
use Rattle.pap_plan.specs.Plans.{Seen, meaning}
use Rattle.pay_run.specs.Accepted.{Accepted, accepted}
use Rattle.pay_run.specs.Runs.{filled}
use Rattle.diagnostics.specs.FaultLines.{IsStateLine, TellsEach}
use Rattle.diagnostics.specs.FurtherFaults.{TellsFaults}
use Rattle.diagnostics.specs.RunReasons.{named_reason, run_reasons}
use Rattle.diagnostics.proofs.Laws.{first_named}
use Rattle.plain_words.specs.Places.{PlanFiles}
use Rattle.plain_words.specs.declared.state.RunReason.{RunReason}
use Rattle.plan_answers.specs.Answers.{Answer}
use Rattle.plan_answers.specs.Fronts.{AreFronts}
use Rattle.script_run.specs.declared.stop.Stop.{Stop}
use Rattle.script_run.specs.declared.stop.Stop.TheVariants as stops
use Rattle.pap_cli.specs.declared.status.Status.{Status}
use Rattle.pap_cli.specs.declared.status.Status.TheVariants.{NoMemory, Refused}
use Rattle.pap_cli.specs.declared.words.Command.{Command}
use Rattle.pap_cli.specs.declared.words.Command.TheVariants.{Check, Once}
use Rattle.script_run.specs.Notes.{NotesShown, AreNoted}
use Rattle.pap_cli.specs.Notes.{NotesTell, HasReason}
use Rattle.pap_cli.specs.Reasons.{IsReasonOn, TellsReasons, files_on}
use Rattle.pap_cli.specs.RunAnswers.{IsRunOn}
use Rattle.pap_cli.specs.ScriptWords.{AsksOfFiles, ReadsScript}
use Rattle.pap_cli.specs.Statuses.{status_of}
use Rattle.pap_cli.specs.Words.{Form, HasForm}
use Rattle.pap_cli.specs.private.ReasonViews.{HasReasonOn, TellsOn}
use Rattle.pap_cli.specs.private.WordViews.{form_by}
use Rattle.pap_cli.proofs.WordLemmas.{one_form}

-- ---- a run without inputs

told_blocked : (f : Flowchart) (b : Blocked) (a : Answer) → IsRunOn f (State b) a → a.refused ≡ true
told_blocked f (blocked.Unknown name) a h = ap (λ (x : Answer). x.refused) h
told_blocked f (blocked.Missing name) a h = ap (λ (x : Answer). x.refused) h
told_blocked f (blocked.Range name) a h = ap (λ (x : Answer). x.refused) h
told_blocked f (blocked.Waits day) a h = absurd h

-- its answer is a refusal
pub state_answer : (f : Flowchart) (b : Blocked) (text : List ℕ) (refused : Bool) (steps : ℕ)
    → IsRunOn f (State b) (record { text = text; refused = refused; steps = steps })
    → IsRunOn f (State b) (record { text = text; refused = true; steps = steps })
state_answer f b text refused steps h =
    subst (λ (r : Bool). IsRunOn f (State b) (record { text = text; refused = r; steps = steps })) (told_blocked f b _ h) h

-- ---- what is told

pub if_some_map : {A : Type 0} (o : Option A) (P Q : A → Type 0) → ((a : A) → P a → Q a) → IfSome o P → IfSome o Q
if_some_map None P Q f h = h
if_some_map (Some a) P Q f h = f a h

some_is : {A : Type 0} (a : A) → ◌≢◌ {A = Option A} (Some a) None
some_is a e = cc

pub if_some_none : {A : Type 0} (o : Option A) (P : A → Type 0) → o ≡ None → IfSome o P
if_some_none None P e = tt
if_some_none (Some a) P e = absurd (some_is a e)

-- what is told of a refused plan
pub tells_plan : (c : Command) (files : PlanFiles) (refusal : PlanRefusal) → IsRefused files.plan.bytes files.ranges.bytes refusal
    → (text : List ℕ) → TellsFaults files refusal text → TellsOn c files text
tells_plan Check files refusal refused text h = record { refusal = refusal; refused = refused; tells = h }
tells_plan (Once values) files refusal refused text h = inl (record { refusal = refusal; refused = refused; tells = h })

-- what is told of a run without inputs
pub tells_state : (values : List NamedValue) (files : PlanFiles) (p : Seen) → IsAcceptedAs files.plan.bytes files.ranges.bytes p
    → (text : List ℕ) → TellsReasons values (accepted p) files text → TellsOn (Once values) files text
tells_state values files p h text t = inr (record {
  meaning = meaning p;
  accepted = h.accepted;
  reasons = subst (λ l. TellsReasons values (record { plan = files.plan.bytes; limits = l; meaning = meaning p }) files text) h.limits_bytes
      (subst (λ b. TellsReasons values (record { plan = b; limits = p.limits; meaning = meaning p }) files text) h.plan_bytes t);
})

pub tells_reasons : (values given : List NamedValue) (p : Accepted) (files : PlanFiles) (state : Blocked) (reasons : List RunReason)
    → filled p values [] ≡ State state → given ≡ values → reasons ≡ run_reasons p given
    → (text : List ℕ) → TellsEach (IsStateLine files) reasons text → TellsReasons values p files text
tells_reasons values given p files state reasons is same are text h = record {
  state = state;
  blocked = is;
  first = first_named p values ∙ ap named_reason is;
  tells = subst (λ l. TellsEach (IsStateLine files) l text) (are ∙ ap (λ v. run_reasons p v) same) h;
}

-- ---- two files

pub reason_on : (Tells : PlanFiles → List ℕ → Type 0) (plan limits : List ℕ) (told : Option FileMap) (bytes ranges : List ℕ)
    → ((files : FileMap) → told ≡ Some files → AreFronts files plan limits bytes ranges)
    → (text : List ℕ) → Tells (files_on plan limits bytes ranges) text → IsReasonOn Tells plan limits told text
reason_on Tells plan limits told bytes ranges read text h =
    record { bytes = bytes; ranges = ranges; read = read; tells = h }

-- ---- notes

pub put_on : (reason : Option (String Global)) (c : Command) (plan limits : List ℕ) (told : Option FileMap) (before after : NotesShown)
    → is_some reason ≡ true
    → IfSome reason (λ text. IsReasonOn (TellsOn c) plan limits told (string_bytes text))
    → IfSome reason (λ text. AreNoted before after (string_bytes text)) → HasReasonOn c plan limits told before after
put_on None c plan limits told before after some is put = absurd (false≢true some)
put_on (Some text) c plan limits told before after some is put = record { text = string_bytes text; is = is; put = put }

pub nothing_put : {A : Type 0} (o : Option A) → is_some o ≢ true → o ≡ None
nothing_put None h = refl
nothing_put (Some a) h = absurd (h refl)

pub ok_same : {E A : Type 0} {a b : A} → ◌≡◌ {A = Result A E} (Ok a) (Ok b) → a ≡ b
ok_same e = cc

-- ---- by form

pub reason_of_form : (c : Command) (plan limits : List ℕ) (told : Option FileMap) (before after : NotesShown)
    → HasReasonOn c plan limits told before after → HasReason (form_by c plan limits) told before after
reason_of_form Check plan limits told before after h = record { text = h.text; is = h.is; put = h.put }
reason_of_form (Once values) plan limits told before after h = record { text = h.text; is = h.is; put = h.put }

pub asks_of_files : (c : Command) (plan limits : List ℕ) → AsksOfFiles (form_by c plan limits)
asks_of_files Check plan limits = tt
asks_of_files (Once values) plan limits = tt

-- a refusal's status is that of an answer that is one
pub refused_ok : (r : Result Bool Stop) → status_of r ≡ Refused → r ≡ Ok true
refused_ok (Ok true) e = refl
refused_ok (Ok false) e = cc
refused_ok (Err stops.File) e = cc
refused_ok (Err stops.Read) e = cc
refused_ok (Err stops.Write) e = cc
refused_ok (Err stops.Memory) e = cc
refused_ok (Err stops.Long) e = cc

pub not_refused : NoMemory ≢ Refused
not_refused e = cc

-- words that ask for no answer on two files and for no script put nothing to the notes
pub notes_kept : {N : Type 0} (of_notes : SinkTells N) (words : List (List ℕ)) (told : Option FileMap) (notes : N) (status : Status) (own : Form)
    → HasForm words own → ¬ (AsksOfFiles own) → NotesTell of_notes words told notes notes status
notes_kept of_notes words told notes status own is not = record {
  reason = λ form has asked refused. absurd (not (subst AsksOfFiles (one_form words form own has is) asked));
  silent = λ none other. refl;
  other = λ form has none unread. refl;
}

-- of words that ask for a script nothing is said here
pub notes_told : {N : Type 0} (of_notes : SinkTells N) (words : List (List ℕ)) (told : Option FileMap) (before after : N) (status : Status)
    (own : Form) → HasForm words own → ¬ (AsksOfFiles own) → ReadsScript own → NotesTell of_notes words told before after status
notes_told of_notes words told before after status own is not reads = record {
  reason = λ form has asked refused. absurd (not (subst AsksOfFiles (one_form words form own has is) asked));
  silent = λ none other. absurd (none (record { form = own; has = is; reads = reads }));
  other = λ form has none unread. absurd (unread (subst ReadsScript (one_form words own form is has) reads));
}
