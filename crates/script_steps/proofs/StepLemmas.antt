-- A line whose files are there has one step.
use Rattle.std.proofs.Common.{◌≡◌, ◌<◌, ℕ, List, length, refl, sym, ap, ◌∙◌, subst, inl, inr}
use Rattle.std.specs.Prelude.{◌⊎◌, Option, Some, None, IsSome, Result, Ok, Err}
use Rattle.outside.specs.Told.{FileMap}
use Rattle.script_lang.specs.Commands as asked
use Rattle.script_lang.specs.Commands.{Asked}
use Rattle.script_lang.specs.Lines.{LineSays}
use Rattle.script_lang.specs.declared.fault.LineFault.{LineFault}
use Rattle.script_lang.specs.declared.fault.LineFault.TheVariants as faults
use Rattle.script_lang.proofs.Laws.{line_once, line_some}
use Rattle.payroll_records.specs.declared.day.Day.{Day}
use Rattle.plan_calendar.specs.Picking.{Entry}
use Rattle.book_year.specs.Accepted.{Accepted}
use Rattle.recalc_engine.specs.EditAnswers as edits
use Rattle.plan_answers.specs.Answers.{Answer, refusal}
use Rattle.script_steps.specs.LineTexts.{ok_line, line_detail}
use Rattle.script_steps.specs.Standings.{Standing, Doing, silence}
use Rattle.script_steps.specs.LineSteps.{IsTableStep, IsReadStep, IsPut, IsTrialStep, IsPlanStep, PlanUse, Does, IsFileOf}
use Rattle.script_steps.specs.LineSteps.{report_answer, work_answer}
use Rattle.script_steps.specs.OpenSteps.{IsOpenStep}
use Rattle.script_steps.specs.Steps.{Names, AreThere}
use Rattle.script_steps.specs.StepLaws.{HasStep, LacksAFile, LinesHaveAStep, LinesHaveOneStep, FilesAreTold}
use Rattle.script_steps.specs.StepLaws.{LongLinesAreOne, LongLinesNameNoFile}
use Rattle.script_steps.specs.TraceSteps.{trace_answer}
use Rattle.script_steps.proofs.KindLemmas.{Has, Same, stays_one, edit_some, edit_one, table_step_some}
use Rattle.script_steps.proofs.KindLemmas.{table_step_one, read_one, put_some, put_one, tried_some, tried_one, texts_some, plan_one}
use Rattle.script_steps.proofs.OpenLemmas.{open_some, open_one}
use Rattle.script_steps.proofs.FilingLemmas.{file_some, file_one, owed_some, owed_one}

is_there : {A : Type 0} (o : Option A) → IsSome o → (x : A) × (o ≡ Some x)
is_there None h = cc
is_there (Some x) h = (x, refl)

there_is : {A : Type 0} (o : Option A) (x : A) → o ≡ Some x → IsSome o
there_is None x e = cc
there_is (Some y) x e = refl

told : {A : Type 0} (o : Option A) → IsSome o ⊎ (o ≡ None)
told None = inr refl
told (Some x) = inl refl

-- ---- what a line does

module _ (files : FileMap) (from : Standing) where
  read_some : (Step : List ℕ → Doing) → ((bytes : List ℕ) → Has (Step bytes)) → (file : List ℕ)
      → IsSome (files file) → Has (IsReadStep Step files file)
  read_some Step step_some file there =
      let f = is_there (files file) there in
      let t = step_some f.0 in
      (t.0, t.1, record { bytes = f.0; there = f.1; is = t.2 })

  plan_some : (Use : PlanUse) → ((e : Entry Accepted) → Has (Use from e)) → (day : Day) (plan limits : List ℕ)
      → IsSome (files plan) → IsSome (files limits) → Has (IsPlanStep Use files from day plan limits)
  plan_some Use use_some day plan limits first second =
      let p = is_there (files plan) first in
      let l = is_there (files limits) second in
      let t = texts_some Use from day use_some p.0 l.0 in
      (t.0, t.1, record { plan_bytes = p.0; limits_bytes = l.0; plan_there = p.1; limits_there = l.1; is = t.2 })

  does_some : (what : Asked) → ((name : List ℕ) → IsFileOf what name → IsSome (files name))
      → Has (Does files from (Ok what))
  does_some asked.nothing there = (from, silence, (refl, refl))
  does_some (asked.plan day plan limits) there =
      plan_some IsPut (put_some from) day plan limits (there plan (inl refl)) (there limits (inr refl))
  does_some (asked.drop day) there = edit_some ok_line from (edits.drop day)
  does_some (asked.add r) there = edit_some ok_line from (edits.add r)
  does_some (asked.change r) there = edit_some ok_line from (edits.change r)
  does_some (asked.withdraw who when) there = edit_some ok_line from (edits.withdraw who when)
  does_some (asked.load file) there = read_some (IsTableStep from) (table_step_some from) file (there file refl)
  does_some asked.report there = (from, report_answer from, (refl, refl))
  does_some asked.work there = (from, work_answer from, (refl, refl))
  does_some (asked.trace who when) there = (from, trace_answer from.book who when, (refl, refl))
  does_some (asked.filing month) there = file_some from month
  does_some asked.owed there = owed_some from
  does_some (asked.opening file) there = read_some (IsOpenStep from) (open_some from) file (there file refl)
  does_some (asked.trial day plan limits) there =
      plan_some IsTrialStep (tried_some from) day plan limits (there plan (inl refl)) (there limits (inr refl))

  does_one : (said : Result Asked LineFault) (to to' : Standing) (a a' : Answer) → Does files from said to a
      → Does files from said to' a' → Same to to' a a'
  does_one (Err why) to to' a a' h k = stays_one from to to' (refusal (line_detail why)) a a' h k
  does_one (Ok asked.nothing) to to' a a' h k = stays_one from to to' silence a a' h k
  does_one (Ok (asked.plan day plan limits)) to to' a a' h k =
      plan_one IsPut from day put_one files plan limits to to' a a' h k
  does_one (Ok (asked.drop day)) to to' a a' h k = edit_one ok_line from (edits.drop day) to to' a a' h k
  does_one (Ok (asked.add r)) to to' a a' h k = edit_one ok_line from (edits.add r) to to' a a' h k
  does_one (Ok (asked.change r)) to to' a a' h k = edit_one ok_line from (edits.change r) to to' a a' h k
  does_one (Ok (asked.withdraw who when)) to to' a a' h k =
      edit_one ok_line from (edits.withdraw who when) to to' a a' h k
  does_one (Ok (asked.load file)) to to' a a' h k =
      read_one (IsTableStep from) (table_step_one from) files file to to' a a' h k
  does_one (Ok asked.report) to to' a a' h k = stays_one from to to' (report_answer from) a a' h k
  does_one (Ok asked.work) to to' a a' h k = stays_one from to to' (work_answer from) a a' h k
  does_one (Ok (asked.trace who when)) to to' a a' h k = stays_one from to to' (trace_answer from.book who when) a a' h k
  does_one (Ok (asked.filing month)) to to' a a' h k = file_one from month to to' a a' h k
  does_one (Ok asked.owed) to to' a a' h k = owed_one from to to' a a' h k
  does_one (Ok (asked.opening file)) to to' a a' h k =
      read_one (IsOpenStep from) (open_one from) files file to to' a a' h k
  does_one (Ok (asked.trial day plan limits)) to to' a a' h k =
      plan_one IsTrialStep from day tried_one files plan limits to to' a a' h k

  -- the files of what was done are there
  files_there : (what : Asked) (to : Standing) (a : Answer) (name : List ℕ) → Does files from (Ok what) to a
      → IsFileOf what name → IsSome (files name)
  files_there asked.nothing to a name h n = absurd n
  files_there (asked.plan day plan limits) to a name h (inl e) =
      there_is (files name) h.plan_bytes (ap files e ∙ h.plan_there)
  files_there (asked.plan day plan limits) to a name h (inr e) =
      there_is (files name) h.limits_bytes (ap files e ∙ h.limits_there)
  files_there (asked.drop day) to a name h n = absurd n
  files_there (asked.add r) to a name h n = absurd n
  files_there (asked.change r) to a name h n = absurd n
  files_there (asked.withdraw who when) to a name h n = absurd n
  files_there (asked.load file) to a name h n = there_is (files name) h.bytes (ap files n ∙ h.there)
  files_there asked.report to a name h n = absurd n
  files_there asked.work to a name h n = absurd n
  files_there (asked.trace who when) to a name h n = absurd n
  files_there (asked.filing month) to a name h n = absurd n
  files_there asked.owed to a name h n = absurd n
  files_there (asked.opening file) to a name h n = there_is (files name) h.bytes (ap files n ∙ h.there)
  files_there (asked.trial day plan limits) to a name h (inl e) =
      there_is (files name) h.plan_bytes (ap files e ∙ h.plan_there)
  files_there (asked.trial day plan limits) to a name h (inr e) =
      there_is (files name) h.limits_bytes (ap files e ∙ h.limits_there)

-- ---- a line has one step

pub some : LinesHaveAStep
some files from line there = let l = line_some line in by l.0 l.1
  where
    by : (said : Result Asked LineFault) → LineSays line said → HasStep files from line
    by (Ok what) h =
        let d = does_some files from what (λ name n. there name (record { what = what; is_line = h; is_file = n })) in
        record { to = d.0; answer = d.1; is = record { said = Ok what; says = h; does = d.2 } }
    by (Err why) h = record {
      to = from;
      answer = refusal (line_detail why);
      is = record
          { said = Err why; says = h; does = (refl, refl) };
    }

pub one : LinesHaveOneStep
one files from line to to' answer answer' a b =
    let said = line_once line a.said b.said a.says b.says in
    let same = does_one files from b.said to to' answer answer' (subst (λ s. Does files from s to answer) said a.does)
    b.does in
    (there, same.0, same.1)
  where
    there : AreThere files line
    there name n =
        let what = line_once line a.said (Ok n.what) a.says n.is_line in
        files_there files from n.what to answer name (subst (λ s. Does files from s to answer) what a.does) n.is_file

-- ---- files

-- all of these are there, or one isn't
abbrev AllOrOne : FileMap → (List ℕ → Type 0) → Type 0
AllOrOne files IsFile =
    ((name : List ℕ) → IsFile name → IsSome (files name)) ⊎ ((name : List ℕ) × IsFile name × (files name ≡ None))

one_file : (files : FileMap) (file : List ℕ) → AllOrOne files (λ name. name ≡ file)
one_file files file = by (told (files file))
  where
    by : IsSome (files file) ⊎ (files file ≡ None) → AllOrOne files (λ name. name ≡ file)
    by (inl t) = inl (λ name e. subst (λ n. IsSome (files n)) (sym e) t)
    by (inr e) = inr (file, refl, e)

two_files : (files : FileMap) (plan limits : List ℕ) → AllOrOne files (λ name. (name ≡ plan) ⊎ (name ≡ limits))
two_files files plan limits = by (told (files plan)) (told (files limits))
  where
    by : IsSome (files plan) ⊎ (files plan ≡ None) → IsSome (files limits) ⊎ (files limits ≡ None)
        → AllOrOne files (λ name. (name ≡ plan) ⊎ (name ≡ limits))
    by (inr e) other = inr (plan, inl refl, e)
    by (inl p) (inr e) = inr (limits, inr refl, e)
    by (inl p) (inl l) = inl all
      where
        all : (name : List ℕ) → (name ≡ plan) ⊎ (name ≡ limits) → IsSome (files name)
        all name (inl e) = subst (λ n. IsSome (files n)) (sym e) p
        all name (inr e) = subst (λ n. IsSome (files n)) (sym e) l

no_file : (files : FileMap) → AllOrOne files (λ name. ⊥)
no_file files = inl (λ name n. absurd n)

all_or_one : (files : FileMap) (what : Asked) → AllOrOne files (IsFileOf what)
all_or_one files asked.nothing = no_file files
all_or_one files (asked.plan day plan limits) = two_files files plan limits
all_or_one files (asked.drop day) = no_file files
all_or_one files (asked.add r) = no_file files
all_or_one files (asked.change r) = no_file files
all_or_one files (asked.withdraw who when) = no_file files
all_or_one files (asked.load file) = one_file files file
all_or_one files asked.report = no_file files
all_or_one files asked.work = no_file files
all_or_one files (asked.trace who when) = no_file files
all_or_one files (asked.filing month) = no_file files
all_or_one files asked.owed = no_file files
all_or_one files (asked.opening file) = one_file files file
all_or_one files (asked.trial day plan limits) = two_files files plan limits

-- the file of what a line says
abbrev IsFileSaid : Result Asked LineFault → List ℕ → Type 0
IsFileSaid (Ok what) name = IsFileOf what name
IsFileSaid (Err why) name = ⊥

named : (line : List ℕ) (what : Asked) → LineSays line (Ok what) → (name : List ℕ) → Names line name
    → IsFileOf what name
named line what h name n =
    subst (λ said. IsFileSaid said name) (line_once line (Ok n.what) (Ok what) n.is_line h) n.is_file

pub files_told : FilesAreTold
files_told files line = let l = line_some line in by l.0 l.1
  where
    by : (said : Result Asked LineFault) → LineSays line said → AreThere files line ⊎ LacksAFile files line
    by (Err why) h = inl (λ name n. absurd (never (line_once line (Ok n.what) (Err why) n.is_line h)))
      where
        never : {what : Asked} → Ok what ≡ Err why → ⊥
        never e = cc
    by (Ok what) h = of (all_or_one files what)
      where
        of : ((name : List ℕ) → IsFileOf what name → IsSome (files name)) ⊎
            ((name : List ℕ) × IsFileOf what name × (files name ≡ None)) → AreThere files line ⊎ LacksAFile files line
        of (inl all) = inl (λ name n. all name (named line what h name n))
        of (inr lacks) = inr (record {
          name = lacks.0;
          names = record { what = what; is_line = h; is_file = lacks.1 };
          lacks = lacks.2;
        })

-- ---- long lines

long_said : (line : List ℕ) (said : Result Asked LineFault) → 65536 < length line → LineSays line said
    → said ≡ Err faults.LineLong
long_said line said long h = line_once line said (Err faults.LineLong) h long

pub long : LongLinesAreOne
long files from to line other answer l o is =
    let said = long_said line is.said l is.says in
    record { said = Err faults.LineLong; says = o; does = subst (λ s. Does files from s to answer) said is.does }

pub long_alone : LongLinesNameNoFile
long_alone line name l n = let e = long_said line (Ok n.what) l n.is_line in cc
