-- What the functions of lines leave, said of the files and of what was written.
use Rattle.std.proofs.Common.{◌≡◌, ◌⊎◌, ℕ, ◌+◌, List, [], Bool, refl, sym, ap, subst, arith, inl, inr}
use Rattle.std.specs.Prelude.{Option, Some, is_some, Result, Ok, Err, IfOk, OnErr, String}
use Rattle.std.specs.declared.alloc.Global.{Global}
use Rattle.std.specs.Option.{ForSome}
use Rattle.std.specs.Result.{ForErr}
use Rattle.outside.specs.Causes.{Caused}
use Rattle.outside.specs.Told.{FileMap, Appends}
use Rattle.outside.specs.declared.traits.FileAnswer.{FileAnswer}
use Rattle.outside.specs.declared.traits.FileAnswer.TheVariants as answers
use Rattle.outside.proofs.Laws.{Appends-nothing}
use Rattle.script_lang.specs.Commands.{Asked}
use Rattle.script_lang.specs.Commands as asked
use Rattle.script_lang.specs.Lines.{IsLine, LineSays, IsLineFaultOrMemory}
use Rattle.script_lang.specs.declared.fault.LineFault.{LineFault}
use Rattle.script_lang.specs.declared.fault.LineFault.TheVariants as faults
use Rattle.plan_answers.specs.Answers.{Answer, refusal}
use Rattle.plan_answers.proofs.Laws.{if_ok_map, on_err_any}
use Rattle.script_steps.specs.declared.stop.LineStop.{LineStop}
use Rattle.script_steps.specs.declared.stop.LineStop.TheVariants as stops
use Rattle.script_steps.specs.LineSteps.{Does, IsFileOf, report_answer, IsNextFile, IsNextOfPlan}
use Rattle.script_steps.specs.LineTexts.{line_detail}
use Rattle.script_steps.specs.Standings.{Standing, Doing, StaysOrSteps}
use Rattle.script_steps.specs.Shown.{OutsideShown}
use Rattle.script_steps.specs.Stops.{stop_of}
use Rattle.script_steps.specs.StepClauses.{ToldStep, IsAnswered, IsBroken}
use Rattle.script_steps.specs.Steps.{IsStep}
use Rattle.script_steps.specs.private.StepViews.{IsMade, IsLost, IsWant, ToldDoes, IsUnmade, IsLineRefusal, IsWritten}
use Rattle.script_steps.specs.private.StepViews.{IsFrontWritten, IsRefusalWritten, IsRefusalUnwritten}
use Rattle.script_steps.specs.private.PlanViews.{IsUnjudged}

err_same : {T E : Type 0} (r : Result T E) (x y : E) → r ≡ Err x → r ≡ Err y → x ≡ y
err_same r x y a b = cc

-- what is so of one error is so of the result's
pub for_err : {T E : Type 0} (P : E → Type 0) (r : Result T E) (x : E) → r ≡ Err x → P x → ForErr r P
for_err P r x is h = λ e same. subst P (err_same r x e is same) h

-- ---- of another step

pub made_map : (P Q : Doing) (to : Standing) (before now : ℕ) (answer : Answer)
    → ((to : Standing) (a : Answer) → P to a → Q to a) → IsMade P to before now answer → IsMade Q to before now answer
made_map P Q to before now answer f m = record { is = f to answer m.is; counted = m.counted }

-- nothing was counted
pub made_still : (Step : Doing) (to : Standing) (steps : ℕ) (reply : Answer) → Step to reply → reply.steps ≡ 0
    → IsMade Step to steps steps reply
made_still Step to steps reply is none = record { is = is; counted = omega (arith, none) }

pub lost_map : (P Q : Doing) (before now : ℕ) → ((to : Standing) (a : Answer) → P to a → Q to a) → IsLost P before now
    → IsLost Q before now
lost_map P Q before now f l = record {
  to = l.to;
  answer = l.answer;
  is = f l.to l.answer l.is;
  later = l.later;
  within = l.within;
}

pub want_map : (P Q : Doing) (before now : ℕ) → ((to : Standing) (a : Answer) → P to a → Q to a) → IsWant P before now
    → IsWant Q before now
want_map P Q before now f (inl e) = inl e
want_map P Q before now f (inr l) = inr (lost_map P Q before now f l)

pub stays_map : (P Q : Doing) (from to : Standing) → ((to : Standing) (a : Answer) → P to a → Q to a)
    → StaysOrSteps P from to → StaysOrSteps Q from to
stays_map P Q from to f (inl e) = inl e
stays_map P Q from to f (inr s) = inr (s.0, f to s.0 s.1)

-- what a step leaves is what the line leaves that asks for it
pub told_left : {T E : Type 0} (told : Option FileMap) (from to : Standing) (what other : Asked) (P : Doing)
    (r : Result T E) → what ≡ other
    → ((to : Standing) (a : Answer) (files : FileMap) → P to a → Does files from (Ok what) to a)
    → StaysOrSteps P from to → OnErr r (StaysOrSteps (ToldDoes told from (Ok other)) from to)
told_left told from to what other P r same does left =
    subst (λ w. OnErr r (StaysOrSteps (ToldDoes told from (Ok w)) from to)) same
    (on_err_any r _ (stays_map P (ToldDoes told from (Ok what)) from to (λ to a h files e. does to a files h) left))

-- ---- no reply was made

module _ (told : Option FileMap) (Step : Doing) (what : Asked) (before now : ℕ) (failed : Option (List ℕ)) where
  -- the files didn't give one that is asked for
  pub unread : {T : Type 0} (r : Result T LineStop) (answer : FileAnswer) (name : List ℕ) → r ≡ Err (stop_of answer)
      → now ≡ before
      → (answer ≡ answers.Failed
      → IsFileOf what name × (failed ≡ Some name) × ForSome told (λ files. IsNextFile files what name))
      → ForErr r (IsUnmade told Step what before now failed)
  unread r answers.Failed name is still there =
      let f = there refl in
      for_err (IsUnmade told Step what before now failed) r stops.File is
      (record { uncounted = still; name = name; is_file = f.0; failed_there = f.1; in_order = f.2 })
  unread r answers.Memory name is still there =
      for_err (IsUnmade told Step what before now failed) r stops.Memory is (inl still)

  pub wanting : {T : Type 0} (r : Result T LineStop) → r ≡ Err stops.Memory → IsWant Step before now
      → ForErr r (IsUnmade told Step what before now failed)
  wanting r is w = for_err (IsUnmade told Step what before now failed) r stops.Memory is w

-- ---- a line that is refused

module _ (line : List ℕ) where
  -- the refusal is what the line says, and want of memory is not
  says_refused : (why : LineFault) (answer : Answer) → IsLineFaultOrMemory line why → IsLineRefusal why answer
      → LineSays line (Err why) × (answer ≡ refusal (line_detail why))
  says_refused (faults.Memory e) answer h is = absurd is
  says_refused faults.LineLong answer h is = (h, is)
  says_refused faults.Command answer h is = (h, is)
  says_refused faults.Words answer h is = (h, is)
  says_refused faults.Employee answer h is = (h, is)
  says_refused faults.Month answer h is = (h, is)
  says_refused faults.Day answer h is = (h, is)
  says_refused (faults.Value word) answer h is = (h, is)
  says_refused (faults.Twice name) answer h is = (h, is)

  -- the line's step leaves all as it is
  pub fault_step : (from : Standing) (files : FileMap) (why : LineFault) (answer : Answer) → IsLineFaultOrMemory line why
      → IsLineRefusal why answer → IsStep files from line from answer
  fault_step from files why answer h is =
      let s = says_refused why answer h is in
      record { said = Err why; says = s.0; does = (refl, s.1) }

  -- and counts nothing
  pub fault_steps : (why : LineFault) (answer : Answer) → IsLineFaultOrMemory line why → IsLineRefusal why answer
      → answer.steps ≡ 0
  fault_steps why answer h is = ap (λ (a : Answer). a.steps) (says_refused why answer h is).1

-- ---- what a line does that asks for this

module _ (old new : OutsideShown) (from : Standing) (line : List ℕ) where
  module _ (what : Asked) (says : IsLine line what) where
    step_of : (to : Standing) (answer : Answer) → ToldDoes old.files from (Ok what) to answer
        → ToldStep old.files from line to answer
    step_of to answer h files e = record { said = Ok what; says = says; does = h files e }

    pub answered : (to : Standing) (answer : Answer) (refused : Bool)
        → IsMade (ToldDoes old.files from (Ok what)) to old.steps new.steps answer
        → IsWritten old.written new.written answer.text answer.refused refused
        → IsAnswered old new from to line refused
    answered to answer refused m w = record {
      answer = answer;
      appended = w.appended;
      counted = m.counted;
      marked = w.marked;
      is = step_of to answer m.is;
    }

    -- the answer wasn't written whole
    pub cut : (to : Standing) (answer : Answer) (stop : LineStop)
        → IsMade (ToldDoes old.files from (Ok what)) to old.steps new.steps answer
        → IsFrontWritten old.written new.written answer.text stop → IsBroken old new from to line stop
    cut to answer stops.File m u = absurd u
    cut to answer stops.Write m u = record {
      answer = answer;
      part = u;
      counted = m.counted;
      is = step_of to answer m.is;
    }
    cut to answer stops.Memory m u =
        let is = m.counted in
        record {
          left = inr (answer, step_of to answer m.is);
          done = inr (record {
            to = to;
            answer = answer;
            part = u;
            later = omega (arith, is);
            within = omega (arith, is);
            is = step_of to answer m.is;
          });
        }

    -- nothing was written
    pub unmade : (to : Standing) (stop : LineStop) → new.written ≡ old.written → (stop ≡ stops.File → to ≡ from)
        → StaysOrSteps (ToldDoes old.files from (Ok what)) from to
        → IsUnmade old.files (ToldDoes old.files from (Ok what)) what old.steps new.steps new.failed stop
        → IsBroken old new from to line stop
    unmade to stops.File same still left u = record {
      unchanged = still refl;
      unbegun = record {
        nothing = subst (λ n. Appends old.written n []) (sym same) (Appends-nothing old.written);
        uncounted = u.uncounted;
      };
      name = u.name;
      names = record { what = what; is_line = says; is_file = u.is_file };
      in_order = u.in_order;
      failed_there = u.failed_there;
    }
    unmade to stops.Write same still left u = absurd u
    unmade to stops.Memory same still left (inl uncounted) = record {
      left = stays_map (ToldDoes old.files from (Ok what)) (ToldStep old.files from line) from to step_of left;
      done = inl (record {
        nothing = subst (λ n. Appends old.written n []) (sym same) (Appends-nothing old.written);
        uncounted = uncounted;
      });
    }
    unmade to stops.Memory same still left (inr l) = record {
      left = stays_map (ToldDoes old.files from (Ok what)) (ToldStep old.files from line) from to step_of left;
      done = inr (record {
        to = l.to;
        answer = l.answer;
        part = record {
          front = [];
          rest = l.answer.text;
          parts = refl;
          appended = subst (λ n. Appends old.written n []) (sym same) (Appends-nothing old.written);
        };
        later = l.later;
        within = l.within;
        is = step_of l.to l.answer l.is;
      });
    }

  -- ---- a line that is refused

  refused_step : (why : LineFault) (answer : Answer) → IsLineFaultOrMemory line why → IsLineRefusal why answer
      → ToldStep old.files from line from answer
  refused_step why answer h is files e = fault_step line from files why answer h is

  none : (why : LineFault) (answer : Answer) → IsLineFaultOrMemory line why → IsLineRefusal why answer
      → new.steps ≡ old.steps → new.steps ≡ old.steps + answer.steps
  none why answer h is still =
      let steps = fault_steps line why answer h is in
      omega (arith, steps, still)

  pub fault_answered : (why : LineFault) (refused : Bool) → new.steps ≡ old.steps → IsLineFaultOrMemory line why
      → IsRefusalWritten old.written new.written why refused → IsAnswered old new from from line refused
  fault_answered why refused still h w = record {
    answer = w.answer;
    appended = w.written.appended;
    counted = none why w.answer h w.is still;
    marked = w.written.marked;
    is = refused_step why w.answer h w.is;
  }

  pub fault_broken : (why : LineFault) (stop : LineStop) → new.steps ≡ old.steps
      → IsLineFaultOrMemory line why → IsRefusalUnwritten old.written new.written why stop
      → IsBroken old new from from line stop
  fault_broken why stops.File still h u = absurd u
  fault_broken why stops.Write still h u = record {
    answer = u.answer;
    part = u.cut;
    counted = none why u.answer h u.is still;
    is = refused_step why u.answer h u.is;
  }
  fault_broken why stops.Memory still h u = record {
    left = inl refl;
    done = inl (record { nothing = u; uncounted = still });
  }

-- ---- what a command's function comes to

module _ (old new : OutsideShown) (from to : Standing) (what : Asked) (answer : Answer)
    (made : IsMade (ToldDoes old.files from (Ok what)) to old.steps new.steps answer)
    (result : Result (Option (String Global)) LineStop) where
  pub made_answered : IfOk result (λ wrong. IsWritten old.written new.written answer.text answer.refused (is_some wrong))
      → (line : List ℕ) → IsLine line what
      → IfOk result (λ wrong. IsAnswered old new from to line (is_some wrong))
  made_answered w line says =
      if_ok_map result _ _ (λ wrong. answered old new from line what says to answer (is_some wrong) made) w

  pub made_broken : ForErr result (IsFrontWritten old.written new.written answer.text) → (line : List ℕ)
      → IsLine line what → ForErr result (λ stop. IsBroken old new from to line stop)
  made_broken u line says = λ stop e. cut old new from line what says to answer stop made (u stop e)

-- the report leaves all as it is
pub report_made : (told : Option FileMap) (from : Standing) (steps : ℕ)
    → IsMade (ToldDoes told from (Ok asked.report)) from steps steps (report_answer from)
report_made told from steps =
    made_still (ToldDoes told from (Ok asked.report)) from steps (report_answer from) (λ files e. (refl, refl)) refl

-- the sink isn't touched where no reply was made
pub unmade_broken : {T : Type 0} (old new : OutsideShown) (from to : Standing) (what : Asked) (stop : LineStop)
    → new.written ≡ old.written → (stop ≡ stops.File → to ≡ from)
    → StaysOrSteps (ToldDoes old.files from (Ok what)) from to
    → IsUnmade old.files (ToldDoes old.files from (Ok what)) what old.steps new.steps new.failed stop
    → (result : Result T LineStop) → result ≡ Err stop → (line : List ℕ) → IsLine line what
    → ForErr result (λ stop. IsBroken old new from to line stop)
unmade_broken old new from to what stop same still left u result is line says =
    for_err (λ s. IsBroken old new from to line s) result stop is
    (unmade old new from line what says to stop same still left u)

-- out of memory before anything was done
pub want_broken : {T : Type 0} (old : OutsideShown) (from : Standing) (line : List ℕ)
    (result : Result T LineStop) → result ≡ Err stops.Memory
    → ForErr result (λ stop. IsBroken old old from from line stop)
want_broken old from line result is =
    for_err (λ s. IsBroken old old from from line s) result stops.Memory is
    (record { left = inl refl; done = inl (record { nothing = Appends-nothing old.written; uncounted = refl }) })

-- a line that is refused
pub faults_answered : (old new : OutsideShown) (from : Standing) (line : List ℕ) (why : LineFault)
    (result : Result (Option (String Global)) LineStop) → new.steps ≡ old.steps → IsLineFaultOrMemory line why
    → IfOk result (λ wrong. IsRefusalWritten old.written new.written why (is_some wrong))
    → IfOk result (λ wrong. IsAnswered old new from from line (is_some wrong))
faults_answered old new from line why result still h =
    if_ok_map result _ _ (λ wrong. fault_answered old new from line why (is_some wrong) still h)

pub faults_broken : (old new : OutsideShown) (from : Standing) (line : List ℕ) (why : LineFault)
    (result : Result (Option (String Global)) LineStop) → new.steps ≡ old.steps → IsLineFaultOrMemory line why
    → ForErr result (IsRefusalUnwritten old.written new.written why)
    → ForErr result (λ stop. IsBroken old new from from line stop)
faults_broken old new from line why result still h u =
    λ stop e. fault_broken old new from line why stop still h (u stop e)

-- ---- a plan's files

-- the plan of two files wasn't judged
pub unjudged : (Step : Doing) (what : Asked) (plan limits : List ℕ) (steps : ℕ) (told : Option FileMap)
    (failed : Option (List ℕ))
    → ((name : List ℕ) → (name ≡ plan) ⊎ (name ≡ limits) → IsFileOf what name)
    → ((files : FileMap) (name : List ℕ) → IsNextOfPlan files plan limits name → IsNextFile files what name)
    → (stop : LineStop) → IsUnjudged told plan limits failed stop → {T : Type 0} (r : Result T LineStop)
    → r ≡ Err stop → ForErr r (IsUnmade told Step what steps steps failed)
unjudged Step what plan limits steps told failed of next stops.File (inl e) r is =
    for_err (IsUnmade told Step what steps steps failed) r stops.File is
    (record {
      uncounted = refl;
      name = plan;
      is_file = of plan (inl refl);
      in_order = λ files t. next files plan (inl refl);
      failed_there = e;
    })
unjudged Step what plan limits steps told failed of next stops.File (inr e) r is =
    for_err (IsUnmade told Step what steps steps failed) r stops.File is
    (record {
      uncounted = refl;
      name = limits;
      is_file = of limits (inr refl);
      in_order = λ files t. next files limits (inr (refl, e.1 files t));
      failed_there = e.0;
    })
unjudged Step what plan limits steps told failed of next stops.Write u r is = absurd u
unjudged Step what plan limits steps told failed of next stops.Memory u r is =
    for_err (IsUnmade told Step what steps steps failed) r stops.Memory is (inl refl)

-- the sink is no cause where no reply was made
pub unmade_cause : (told : Option FileMap) (Step : Doing) (what : Asked) (before now : ℕ) (failed : Option (List ℕ))
    (stop : LineStop) → IsUnmade told Step what before now failed stop → (result : Result (Option (String Global)) LineStop)
    → result ≡ Err stop → (count : ℕ) → Caused stops.Write count count result
unmade_cause told Step what before now failed stop u result is count = record {
  later = omega arith;
  rose = λ e. absurd (subst (λ s. IsUnmade told Step what before now failed s) (err_same result stop stops.Write is e)
      u);
}
