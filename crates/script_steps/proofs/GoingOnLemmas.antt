-- Going on from a saved book: what lines answer follows from the book and from what was filed.
use Rattle.std.proofs.Common.{◌≡◌, ◌⊎◌, ℕ, List, [], ◌∷◌, ◌++◌, refl, sym, ap, ◌∙◌, subst, inl, inr}
use Rattle.std.specs.List.{AllByRecursion}
use Rattle.std.specs.Prelude.{Option, Some, None, IsSome, Result, Ok, Err}
use Rattle.outside.specs.Told.{FileMap}
use Rattle.payroll_records.specs.declared.day.Day.{Day}
use Rattle.payroll_records.specs.declared.month.Month.{Month}
use Rattle.payroll_records.specs.declared.record.Record.{Record}
use Rattle.payroll_records.specs.declared.table.TableFault.{TableFault}
use Rattle.payroll_records.specs.Tables.{TableSays}
use Rattle.plan_calendar.specs.Picking.{Entry}
use Rattle.pap_plan.specs.declared.refusal.PlanRefusal.{PlanRefusal}
use Rattle.pap_plan.specs.Acceptance.{AcceptanceSays, Meaning}
use Rattle.book_edits.specs.declared.refusal.EditRefusal.{EditRefusal}
use Rattle.book_year.specs.Accepted.{Accepted}
use Rattle.book_year.specs.declared.outcome.Work.{Work}
use Rattle.correction_ledger.specs.declared.ledger.FileRefusal.{FileRefusal}
use Rattle.correction_ledger.specs.Filings.{Filings, FilingSays}
use Rattle.recalc_engine.specs.Contents.{Contents}
use Rattle.recalc_engine.specs.EditAnswers as edits
use Rattle.recalc_engine.specs.EditAnswers.{Edit}
use Rattle.recalc_engine.specs.MonthRows.{month_rows}
use Rattle.script_lang.specs.Commands as asked
use Rattle.script_lang.specs.Commands.{Asked}
use Rattle.script_lang.specs.Lines.{LineSays}
use Rattle.script_lang.specs.declared.fault.LineFault.{LineFault}
use Rattle.plan_answers.specs.Answers.{Answer, refusal}
use Rattle.script_steps.specs.LineTexts.{ok_line, line_detail, table_detail}
use Rattle.script_steps.specs.Standings.{Standing, Doing, Stays, more_work, silence, first_standing, with_book}
use Rattle.script_steps.specs.LineSteps.{Does, IsEditAnswered, IsEditStep, IsFileOf, IsLoaded, IsPlanStep, IsPut, IsReadStep}
use Rattle.script_steps.specs.LineSteps.{IsTableStep, IsTextsStep, IsTrialStep, IsUsed, PlanUse, bound_text}
use Rattle.script_steps.specs.LineSteps.{report_answer, work_answer}
use Rattle.script_steps.specs.FilingSteps.{IsFileAnswered, IsFileStep, IsOwedStep}
use Rattle.script_steps.specs.OpenSteps.{IsFresh, IsOpenStep, IsOpened, OpenRefusal, OpenSays, not_empty, filed, faulty}
use Rattle.script_steps.specs.Steps.{IsStep}
use Rattle.script_steps.specs.TraceSteps.{trace_answer}
use Rattle.script_steps.specs.GoingOn.{AnswersFollowBooks, AnswersFollowFiles, AreSameFor, AreSteps, CutScriptsGoOn}
use Rattle.script_steps.specs.GoingOn.{HaveAnswers, IsCut, opened}
use Rattle.script_steps.proofs.KeepLemmas.{make_books}
use Rattle.script_steps.proofs.SoundLemmas.{saved_text_of}
use Rattle.script_steps.proofs.StepLemmas as steps

-- the same book and the same filings, behind other work
abbrev with_made : Work → Standing → Standing
with_made made s = record { book = s.book; filings = s.filings; made = made }

-- what was filed stands, or more was filed
abbrev Keeps : Standing → Standing → Type 0
Keeps from to = (to.filings ≡ from.filings) ⊎ IsSome to.filings.last

filings_of : {a b : Standing} → a ≡ b → a.filings ≡ b.filings
filings_of e = ap (λ (s : Standing). s.filings) e

keeps_both : (a b c : Standing) → Keeps a b → Keeps b c → Keeps a c
keeps_both a b c h (inr some) = inr some
keeps_both a b c (inl e) (inl f) = inl (f ∙ e)
keeps_both a b c (inr some) (inl f) = inr (subst (λ (f : Filings). IsSome f.last) (sym f) some)

-- whatever the work before, it does this, and answers the same
abbrev Goes : (Standing → Doing) → Work → Standing → Standing → Answer → Type 0
Goes Step made from to answer =
    (more : Work) × Step (with_made made from) (with_made more to) answer × Keeps from to

-- so it is of each of its doings
abbrev Going : (Standing → Doing) → Type 0
Going Step =
    (made : Work) (from to : Standing) (answer : Answer) → Step from to answer → Goes Step made from to answer

-- ---- each kind of line

stays_going : (said : Standing → Answer) → ((made : Work) (s : Standing) → said s ≡ said (with_made made s))
    → Going (λ from to answer. Stays from to (said from) answer)
stays_going said same made from to answer h =
    (made, (ap (with_made made) h.0, h.1 ∙ same made from), inl (filings_of h.0))

edit_going : (text : List ℕ) (e : Edit) → Going (λ from. IsEditStep text from e)
edit_going text e made from to answer h = by h.verdict h.says h.is
  where
    by : (v : Result Contents EditRefusal) → edits.EditAnswers from.book e v → IsEditAnswered text from v to answer
        → Goes (λ from. IsEditStep text from e) made from to answer
    by (Ok book) says is = (
      more_work made book.last,
      record { verdict = Ok book; says = says; is = (ap (with_made (more_work made book.last)) is.0, is.1) },
      inl (filings_of is.0),
    )
    by (Err why) says is = (
      made,
      record { verdict = Err why; says = says; is = (ap (with_made made) is.0, is.1) },
      inl (filings_of is.0),
    )

table_going : (table : List ℕ) → Going (λ from. IsTableStep from table)
table_going table made from to answer h = by h.said h.says h.is
  where
    by : (v : Result (List Record) TableFault) → TableSays table v → IsLoaded from v to answer
        → Goes (λ from. IsTableStep from table) made from to answer
    by (Ok records) says is =
        let g = edit_going ok_line (edits.load records) made from to answer is in
        (g.0, record { said = Ok records; says = says; is = g.1 }, g.2)
    by (Err why) says is =
        let g = stays_going (λ s. refusal (table_detail why)) (λ m s. refl) made from to answer is in
        (g.0, record { said = Err why; says = says; is = g.1 }, g.2)

open_going : (text : List ℕ) → Going (λ from. IsOpenStep from text)
open_going text made from to answer h = by h.verdict h.says h.is
  where
    fresh : IsFresh from → IsFresh (with_made made from)
    fresh f = record { book = f.book; filings = f.filings }

    refused : (why : OpenRefusal) → OpenSays (with_made made from) text (Err why) → IsOpened from (Err why) to answer
        → Goes (λ from. IsOpenStep from text) made from to answer
    refused why says is = (
      made,
      record { verdict = Err why; says = says; is = (ap (with_made made) is.0, is.1) },
      inl (filings_of is.0),
    )

    by : (v : Result Contents OpenRefusal) → OpenSays from text v → IsOpened from v to answer
        → Goes (λ from. IsOpenStep from text) made from to answer
    by (Ok book) says is = (
      made,
      record { verdict = Ok book; says = (fresh says.0, says.1); is = (ap (with_made made) is.0, is.1) },
      inl (filings_of is.0),
    )
    by (Err not_empty) says is = refused not_empty says is
    by (Err filed) says is = refused filed says is
    by (Err (faulty why)) says is = refused (faulty why) (fresh says.0, says.1) is

read_going : (Step : Standing → List ℕ → Doing) → ((bytes : List ℕ) → Going (λ from. Step from bytes))
    → (files : FileMap) (file : List ℕ) → Going (λ from. IsReadStep (Step from) files file)
read_going Step going files file made from to answer h =
    let g = going h.bytes made from to answer h.is in
    (g.0, record { bytes = h.bytes; there = h.there; is = g.1 }, g.2)

put_going : (e : Entry Accepted) → Going (λ from. IsPut from e)
put_going e made from to answer h = edit_going (bound_text e) (edits.put e) made from to answer h

tried_going : (e : Entry Accepted) → Going (λ from. IsTrialStep from e)
tried_going e made from to answer h = (
  made,
  record { verdict = h.verdict; says = h.says; is = (ap (with_made made) h.is.0, h.is.1) },
  inl (filings_of h.is.0),
)

module _ (Use : PlanUse) (use_going : (e : Entry Accepted) → Going (λ from. Use from e)) (day : Day) where
  texts_going : (plan limits : List ℕ) → Going (λ from. IsTextsStep Use from day plan limits)
  texts_going plan limits made from to answer h = by h.verdict h.says h.is
    where
      by : (v : Result Meaning PlanRefusal) → AcceptanceSays plan limits v → IsUsed Use from day plan limits v to answer
          → Goes (λ from. IsTextsStep Use from day plan limits) made from to answer
      by (Ok m) says is =
          let g = use_going (day, record { plan = plan; limits = limits; meaning = m }) made from to answer is in
          (g.0, record { verdict = Ok m; says = says; is = g.1 }, g.2)
      by (Err why) says is = (
        made,
        record { verdict = Err why; says = says; is = (ap (with_made made) is.0, is.1) },
        inl (filings_of is.0),
      )

  plan_going : (files : FileMap) (plan limits : List ℕ) → Going (λ from. IsPlanStep Use files from day plan limits)
  plan_going files plan limits made from to answer h =
      let g = texts_going h.plan_bytes h.limits_bytes made from to answer h.is in (
        g.0,
        record {
          plan_bytes = h.plan_bytes;
          limits_bytes = h.limits_bytes;
          plan_there = h.plan_there;
          limits_there = h.limits_there;
          is = g.1;
        },
        g.2,
      )

file_going : (month : Month) → Going (λ from. IsFileStep from month)
file_going month made from to answer h = by h.verdict h.says h.is
  where
    by : (v : Result (Filings × ℕ) FileRefusal) → FilingSays (month_rows from.book) month from.filings v
        → IsFileAnswered from v to answer → Goes (λ from. IsFileStep from month) made from to answer
    by (Ok new) says is = (
      made,
      record { verdict = Ok new; says = says; is = (ap (with_made made) is.0, is.1) },
      inr (subst (λ (s : Standing). IsSome s.filings.last) (sym is.0) (subst (λ o. IsSome o) (sym says.last) refl)),
    )
    by (Err why) says is = (
      made,
      record { verdict = Err why; says = says; is = (ap (with_made made) is.0, is.1) },
      inl (filings_of is.0),
    )

owed_going : Going IsOwedStep
owed_going made from to answer h = (
  made,
  (ap (with_made made) h.0, record { verdict = h.1.verdict; says = h.1.says; told = h.1.told }),
  inl (filings_of h.0),
)

-- ---- a line

module _ (files : FileMap) where
  does_going : (said : Result Asked LineFault) → Going (λ from. Does files from said)
  does_going (Err why) = stays_going (λ s. refusal (line_detail why)) (λ m s. refl)
  does_going (Ok asked.nothing) = stays_going (λ s. silence) (λ m s. refl)
  does_going (Ok (asked.plan day plan limits)) = plan_going IsPut put_going day files plan limits
  does_going (Ok (asked.drop day)) = edit_going ok_line (edits.drop day)
  does_going (Ok (asked.add r)) = edit_going ok_line (edits.add r)
  does_going (Ok (asked.change r)) = edit_going ok_line (edits.change r)
  does_going (Ok (asked.withdraw who when)) = edit_going ok_line (edits.withdraw who when)
  does_going (Ok (asked.load file)) = read_going IsTableStep table_going files file
  does_going (Ok asked.report) = stays_going report_answer (λ m s. refl)
  does_going (Ok asked.work) = stays_going work_answer (λ m s. refl)
  does_going (Ok (asked.trace who when)) = stays_going (λ s. trace_answer s.book who when) (λ m s. refl)
  does_going (Ok (asked.filing month)) = file_going month
  does_going (Ok asked.owed) = owed_going
  does_going (Ok (asked.opening file)) = read_going IsOpenStep open_going files file
  does_going (Ok (asked.trial day plan limits)) = plan_going IsTrialStep tried_going day files plan limits

  step_going : (line : List ℕ) → Going (λ from. IsStep files from line)
  step_going line made from to answer h =
      let g = does_going h.said made from to answer h.does in
      (g.0, record { said = h.said; says = h.says; does = g.1 }, g.2)

  -- ---- several lines

  steps_going : (lines : List (List ℕ)) (answers : List Answer) (made : Work) (from to : Standing)
      → AreSteps files from lines to answers
      → (more : Work) × AreSteps files (with_made made from) lines (with_made more to) answers × Keeps from to
  steps_going [] [] made from to h = (made, ap (with_made made) h, inl (filings_of h))
  steps_going [] (answer ∷ answers) made from to h = absurd h
  steps_going (line ∷ lines) [] made from to h = absurd h
  steps_going (line ∷ lines) (answer ∷ answers) made from to h =
      let g = step_going line made from h.0 answer h.1 in
      let r = steps_going lines answers g.0 h.0 to h.2 in
      (r.0, (with_made g.0 h.0, g.1, r.1), keeps_both from h.0 to g.2 r.2)

  -- lines behind others go on from what those have left
  behind : (before after : List (List ℕ)) (earlier further : List Answer) (from left : Standing)
      → AreSteps files from before left earlier
      → HaveAnswers files from (before ++ after) (earlier ++ further) → HaveAnswers files left after further
  behind [] after [] further from left h k = subst (λ s. HaveAnswers files s after further) (sym h) k
  behind [] after (answer ∷ earlier) further from left h k = absurd h
  behind (line ∷ before) after [] further from left h k = absurd h
  behind (line ∷ before) after (answer ∷ earlier) further from left h (to, (next, is, rest)) =
      let same = steps.one files from line next h.0 answer answer is h.1 in
      behind before after earlier further h.0 left h.2
      (subst (λ s. HaveAnswers files s (before ++ after) (earlier ++ further)) same.1 (to, rest))

  and_behind : (before after : List (List ℕ)) (earlier further : List Answer) (from left : Standing)
      → AreSteps files from before left earlier
      → HaveAnswers files left after further → HaveAnswers files from (before ++ after) (earlier ++ further)
  and_behind [] after [] further from left h k = subst (λ s. HaveAnswers files s after further) h k
  and_behind [] after (answer ∷ earlier) further from left h k = absurd h
  and_behind (line ∷ before) after [] further from left h k = absurd h
  and_behind (line ∷ before) after (answer ∷ earlier) further from left h k =
      let r = and_behind before after earlier further h.0 left h.2 k in
      (r.0, (h.0, h.1, r.1))

-- ---- other files

module _ (files other : FileMap) where
  -- the bytes of a file that is the same
  same_bytes : (name bytes : List ℕ) → files name ≡ other name → files name ≡ Some bytes → other name ≡ Some bytes
  same_bytes name bytes same there = sym same ∙ there

  read_over : (Step : List ℕ → Doing) (file : List ℕ) (to : Standing) (answer : Answer) → files file ≡ other file
      → IsReadStep Step files file to answer → IsReadStep Step other file to answer
  read_over Step file to answer same h =
      record { bytes = h.bytes; there = same_bytes file h.bytes same h.there; is = h.is }

  plan_over : (Use : PlanUse) (from : Standing) (day : Day) (plan limits : List ℕ) (to : Standing) (answer : Answer)
      → files plan ≡ other plan → files limits ≡ other limits
      → IsPlanStep Use files from day plan limits to answer → IsPlanStep Use other from day plan limits to answer
  plan_over Use from day plan limits to answer first second h = record {
    plan_bytes = h.plan_bytes;
    limits_bytes = h.limits_bytes;
    plan_there = same_bytes plan h.plan_bytes first h.plan_there;
    limits_there = same_bytes limits h.limits_bytes second h.limits_there;
    is = h.is;
  }

  does_over : (what : Asked) (from to : Standing) (answer : Answer)
      → ((name : List ℕ) → IsFileOf what name → files name ≡ other name)
      → Does files from (Ok what) to answer → Does other from (Ok what) to answer
  does_over asked.nothing from to answer same h = h
  does_over (asked.plan day plan limits) from to answer same h =
      plan_over IsPut from day plan limits to answer (same plan (inl refl)) (same limits (inr refl)) h
  does_over (asked.drop day) from to answer same h = h
  does_over (asked.add r) from to answer same h = h
  does_over (asked.change r) from to answer same h = h
  does_over (asked.withdraw who when) from to answer same h = h
  does_over (asked.load file) from to answer same h = read_over (IsTableStep from) file to answer (same file refl) h
  does_over asked.report from to answer same h = h
  does_over asked.work from to answer same h = h
  does_over (asked.trace who when) from to answer same h = h
  does_over (asked.filing month) from to answer same h = h
  does_over asked.owed from to answer same h = h
  does_over (asked.opening file) from to answer same h = read_over (IsOpenStep from) file to answer (same file refl) h
  does_over (asked.trial day plan limits) from to answer same h =
      plan_over IsTrialStep from day plan limits to answer (same plan (inl refl)) (same limits (inr refl)) h

  step_over : (line : List ℕ) (from to : Standing) (answer : Answer) → AreSameFor files other line
      → IsStep files from line to answer → IsStep other from line to answer
  step_over line from to answer same h = by h.said h.says h.does
    where
      by : (said : Result Asked LineFault) → LineSays line said → Does files from said to answer
          → IsStep other from line to answer
      by (Err why) says does = record { said = Err why; says = says; does = does }
      by (Ok what) says does = record {
        said = Ok what;
        says = says;
        does = does_over what from to answer
            (λ name n. same name (record { what = what; is_line = says; is_file = n })) does;
      }

  pub steps_over : (lines : List (List ℕ)) (answers : List Answer) (from to : Standing)
      → AllByRecursion (AreSameFor files other) lines
      → AreSteps files from lines to answers → AreSteps other from lines to answers
  steps_over [] [] from to all h = h
  steps_over [] (answer ∷ answers) from to all h = absurd h
  steps_over (line ∷ lines) [] from to all h = absurd h
  steps_over (line ∷ lines) (answer ∷ answers) from to all h =
      (h.0, step_over line from h.0 answer all.0 h.1, steps_over lines answers h.0 to all.1 h.2)

  same_back : (lines : List (List ℕ)) → AllByRecursion (AreSameFor files other) lines
      → AllByRecursion (AreSameFor other files) lines
  same_back [] all = tt
  same_back (line ∷ lines) all = (λ name n. sym (all.0 name n), same_back lines all.1)

-- ---- the laws

-- the same book, of which the same was filed
pub record AreAlike (a b : Standing) : Type 0 where
  pub book : a.book ≡ b.book
  pub filings : a.filings ≡ b.filings

-- lines that go on from such
pub record GoAlike (files : FileMap) (other : Standing) (lines : List (List ℕ)) (to : Standing) (answers : List Answer)
    : Type 0 where
  pub left : Standing
  pub steps : AreSteps files other lines left answers
  pub alike : AreAlike to left

pub go_alike : (files : FileMap) (from other to : Standing) (lines : List (List ℕ)) (answers : List Answer)
    → AreAlike from other → AreSteps files from lines to answers → GoAlike files other lines to answers
go_alike files from other to lines answers alike h =
    let g = steps_going files lines answers other.made from to h in record {
      left = with_made g.0 to;
      steps = subst (λ s. AreSteps files s lines (with_made g.0 to) answers)
          (λ i. record { book = alike.book i; filings = alike.filings i; made = other.made }) g.1;
      alike = record { book = refl; filings = refl };
    }

pub follow : AnswersFollowBooks
follow files from other lines answers book filings h =
    let g = go_alike files from other h.0 lines answers (record { book = book; filings = filings }) h.1 in
    (g.left, g.steps)

pub follow_files : AnswersFollowFiles
follow_files files other from lines answers all h =
    (h.0, steps_over files other lines answers from h.0 all h.1)

never_filed : (o : Option Month) → IsSome o → o ≡ None → ⊥
never_filed None h e = cc
never_filed (Some m) h e = cc

-- where no month was filed, what was filed is as it was before the first line
pub not_filed : (files : FileMap) (lines : List (List ℕ)) (answers : List Answer) (left : Standing)
    → AreSteps files first_standing lines left answers → left.filings.last ≡ None
    → first_standing.filings ≡ left.filings
not_filed files lines answers left h none =
    by (steps_going files lines answers first_standing.made first_standing left h).2
  where
    by : Keeps first_standing left → first_standing.filings ≡ left.filings
    by (inl e) = sym e
    by (inr some) = absurd (never_filed left.filings.last some none)

-- the line opens the book that was saved
pub cut_opens : (files later : FileMap) (before : List (List ℕ)) (earlier : List Answer) (opening : List ℕ)
    → (cut : IsCut files later before earlier opening)
    → IsStep later first_standing opening (with_book first_standing cut.left.book) (opened cut.left.book)
cut_opens files later before earlier opening cut = record {
  said = Ok (asked.opening cut.file);
  says = cut.opens;
  does = record {
    bytes = cut.text;
    there = cut.there;
    is = record {
      verdict = Ok cut.left.book;
      says = (
        record { book = record { runs = refl; plans = refl }; filings = refl },
        saved_text_of cut.left.book cut.text (make_books files before earlier cut.left cut.answered) cut.saved,
      );
      is = (refl, refl);
    };
  };
}

module _ (files later : FileMap) (before after : List (List ℕ)) (earlier further : List Answer) (opening : List ℕ)
    (cut : IsCut files later before earlier opening) (same : AllByRecursion (AreSameFor files later) after) where
  -- the standing behind the line that opens the book
  abbrev there : Standing
  there = with_book first_standing cut.left.book

  unfiled : first_standing.filings ≡ cut.left.filings
  unfiled = not_filed files before earlier cut.left cut.answered cut.unfiled

  opens : IsStep later first_standing opening there (opened cut.left.book)
  opens = cut_opens files later before earlier opening cut

  forth : HaveAnswers files first_standing (before ++ after) (earlier ++ further)
      → HaveAnswers later first_standing (opening ∷ after) (opened cut.left.book ∷ further)
  forth h =
      let rest = behind files before after earlier further first_standing cut.left cut.answered h in
      let here = follow files cut.left there after further refl (sym unfiled) rest in
      let g = follow_files files later there after further same here in
      (g.0, (there, opens, g.1))

  back : HaveAnswers later first_standing (opening ∷ after) (opened cut.left.book ∷ further)
      → HaveAnswers files first_standing (before ++ after) (earlier ++ further)
  back (to, (next, is, rest)) =
      let one = steps.one later first_standing opening next there (opened cut.left.book) (opened cut.left.book)
      is opens in
      let here : HaveAnswers later there after further =
      subst (λ s. HaveAnswers later s after further) one.1 (to, rest) in
      let g = follow_files later files there after further (same_back files later after same) here in
      and_behind files before after earlier further first_standing cut.left cut.answered
      (follow files there cut.left after further refl unfiled g)

pub go_on : CutScriptsGoOn
go_on files later before after earlier further opening cut same = (
  forth files later before after earlier further opening cut same,
  back files later before after earlier further opening cut same,
)
