-- The laws of sessions and transcripts that other crates may cite.
use Rattle.std.proofs.Common.{◌≡◌, List, [], ◌∷◌, ◌++◌, ℕ, ◌+◌, ◌≤◌, refl, sym, ap, ◌∙◌, subst, append_assoc, arith, inl, inr}
use Rattle.std.specs.Prelude.{IsSome, All, Result, Ok, Err, OnOk, ⊤}
use Rattle.std.proofs.lemmas.List.{append-nil}
use Rattle.std.proofs.lemmas.List.Elements.{All-nil, All-cons}
use Rattle.outside.specs.Causes.{HasCause, Rose, Still}
use Rattle.outside.specs.Told.{Appends, FileMap}
use Rattle.script_steps.specs.Steps.{Standing, Answer, AreThere, IsStep}
use Rattle.script_steps.specs.StepLaws.{LacksAFile}
use Rattle.script_steps.proofs.Laws as step
use Rattle.script_run.specs.private.RunViews.{Follow, empty_session, with_answer}
use Rattle.script_run.specs.Notes.{AreNoted, NotesShown}
use Rattle.script_run.specs.Transcripts.{Session, lines_of, IsHalted, IsSession}
use Rattle.script_run.specs.TranscriptLaws.{ScriptsHaveATranscript, ScriptsHaveOneTranscript}
use Rattle.script_run.specs.RunClauses.{IsFrontOfSession}
-- The answers of a session, one after another; every script leaves a book that can be saved.
pub use Rattle.script_run.proofs.AnswerLaws.{HasAnswered, HasSteps, any_refused, answered_of, follow_of, has_answered, has_steps}
pub use Rattle.script_run.proofs.AnswerLaws.{leave_books, no_refusals, refusals, texts}

-- these lines take one total to the other, up to the first that names a file that isn't there
pub record FollowToHalt (files : FileMap) (from : Session) (lines : List (List ℕ)) (to : Session) : Type 0 where
  pub before : List (List ℕ)
  pub after : List (List ℕ)
  pub parts : lines ≡ before ++ after
  pub answered : Follow files from before to
  pub halted : IsHalted files after

-- from the first line on that is a session
pub session_of_totals : (files : FileMap) (lines : List (List ℕ)) (session : Session)
    → FollowToHalt files empty_session lines session → IsSession files lines session
session_of_totals files lines session h = record {
  before = h.before;
  after = h.after;
  parts = h.parts;
  answered = answered_of files h.before session h.answered;
  halted = h.halted;
}

-- and the other way
pub totals_of_session : (files : FileMap) (lines : List (List ℕ)) (session : Session)
    → IsSession files lines session → FollowToHalt files empty_session lines session
totals_of_session files lines session h = record {
  before = h.before;
  after = h.after;
  parts = h.parts;
  answered = follow_of files h.before session h.answered;
  halted = h.halted;
}

-- lines are answered after others
pub Follow-append : (files : FileMap) (from mid to : Session) (lines more : List (List ℕ)) →
    Follow files from lines mid → Follow files mid more to → Follow files from (lines ++ more) to
Follow-append files from mid to [] more same after = subst (λ v. Follow files v more to) same after
Follow-append files from mid to (line ∷ lines) more before after = (
  before.0,
  before.1,
  before.2,
  Follow-append files
      (with_answer from before.1 before.0) mid to lines more before.3 after,
)

-- one more line is answered
pub Follow-next : (files : FileMap) (from mid : Session) (lines : List (List ℕ)) (line : List ℕ)
    (standing : Standing) (answer : Answer) →
    Follow files from lines mid → IsStep files mid.standing line standing answer →
    Follow files from (lines ++ line ∷ []) (with_answer mid answer standing)
Follow-next files from mid lines line standing answer before is =
    Follow-append files from mid (with_answer mid answer standing) lines (line ∷ []) before
    (standing, answer, is, refl)

-- answers go onto the text, and steps onto the steps
pub Follow-grows : (files : FileMap) (from to : Session) (lines : List (List ℕ)) →
    Follow files from lines to → IsFrontOfSession to from.text from.steps
Follow-grows files from to [] same = record {
  later = [];
  text = ap (λ v. v.text) same
      ∙ sym (append-nil from.text);
  cost = omega (arith, ap (λ v. v.steps) same);
}
Follow-grows files from to (line ∷ lines) answered =
    let on = Follow-grows files (with_answer from answered.1 answered.0) to lines answered.3 in
    let more : from.steps + (answered.1).steps ≤ to.steps = on.cost in
    record {
      later = (answered.1).text ++ on.later;
      text = on.text ∙ append_assoc from.text (answered.1).text on.later;
      cost = omega (arith, more);
    }

-- a file that isn't there is one that isn't there
not_there : (files : FileMap) (line : List ℕ) → LacksAFile files line → ¬ (AreThere files line)
not_there files line lack = λ there. let is = subst (λ v. IsSome v) lack.lacks (there lack.name lack.names) in cc

-- answered lines name files that are there
pub Follow-there : (files : FileMap) (from to : Session) (lines : List (List ℕ)) →
    Follow files from lines to → All (λ line. AreThere files line) lines
Follow-there files from to [] same = All-nil (λ line. AreThere files line)
Follow-there files from to (line ∷ lines) answered =
    All-cons (λ line. AreThere files line) line lines
    (step.one files from.standing line answered.0 answered.0 answered.1 answered.1 answered.2 answered.2).0
    (Follow-there files (with_answer from answered.1 answered.0) to lines answered.3)

cons_head : (a b : List ℕ) (x y : List (List ℕ)) → a ∷ x ≡ b ∷ y → a ≡ b
cons_head a b x y e = cc

cons_tail : (a b : List ℕ) (x y : List (List ℕ)) → a ∷ x ≡ b ∷ y → x ≡ y
cons_tail a b x y e = cc

-- two ways to answer the first line lead to the same
after_same : (files : FileMap) (from : Session) (line other : List ℕ) (standing standing' : Standing)
    (answer answer' : Answer) → other ≡ line →
    IsStep files from.standing line standing answer → IsStep files from.standing other standing' answer' →
    with_answer from answer' standing' ≡ with_answer from answer standing
after_same files from line other standing standing' answer answer' same a b =
    let both = step.one files from.standing line standing standing' answer answer' a (subst
    (λ v. IsStep files from.standing v standing' answer') same b) in
    ap (λ v. with_answer from v standing') (sym both.2) ∙ ap (λ v. with_answer from answer v) (sym both.1)

session_parts : (files : FileMap) (from mid to : Session) (lines more before after : List (List ℕ)) →
    lines ++ more ≡ before ++ after →
    Follow files from lines mid → Follow files from before to → IsHalted files after →
    FollowToHalt files mid more to
session_parts files from mid to [] more before after parts same answered halted =
    record {
      before = before;
      after = after;
      parts = parts;
      answered = subst (λ v. Follow files v before to)
          (sym same) answered;
      halted = halted;
    }
session_parts files from mid to (line ∷ lines) more [] [] parts first answered halted = cc
session_parts files from mid to (line ∷ lines) more [] (next ∷ after) parts first answered halted =
    let there = (step.one files from.standing line first.0 first.0 first.1 first.1 first.2 first.2).0 in
    absurd (halted (subst (λ v. AreThere files v) (cons_head line next (lines ++ more) after parts) there))
session_parts files from mid to (line ∷ lines) more (next ∷ before) after parts first answered halted =
    let same = after_same files from line next first.0 answered.0 first.1 answered.1 (sym (cons_head line next
    (lines ++ more) (before ++ after) parts)) first.2 answered.2 in
    session_parts files (with_answer from first.1 first.0) mid to lines more before after (cons_tail line next
    (lines ++ more) (before ++ after) parts) first.3
    (subst (λ v. Follow files v before to) same answered.3) halted

-- where some lines are answered, the others go on from there
pub FollowToHalt-rest : (files : FileMap) (from mid to : Session) (lines more : List (List ℕ)) →
    Follow files from lines mid → FollowToHalt files from (lines ++ more) to → FollowToHalt files mid more to
FollowToHalt-rest files from mid to lines more answered session =
    session_parts files from mid to lines more session.before session.after session.parts answered session.answered
    session.halted

nothing_more : (files : FileMap) (mid to : Session) (after before later : List (List ℕ)) → after ≡ before ++ later →
    IsHalted files after → Follow files mid before to → to ≡ mid
nothing_more files mid to after [] later parts halted same = same
nothing_more files mid to [] (line ∷ before) later parts halted answered = cc
nothing_more files mid to (next ∷ after) (line ∷ before) later parts halted answered =
    let there = (step.one files mid.standing line answered.0 answered.0 answered.1 answered.1 answered.2
    answered.2).0 in
    absurd (halted (subst (λ v. AreThere files v) (sym (cons_head next line after (before ++ later) parts)) there))

-- lines take a total to one other
pub FollowToHalt-one : (files : FileMap) (from to other : Session) (lines : List (List ℕ)) →
    FollowToHalt files from lines to → FollowToHalt files from lines other → to ≡ other
FollowToHalt-one files from to other lines a b =
    let rest = FollowToHalt-rest files from to other a.before a.after a.answered (subst
    (λ v. FollowToHalt files from v other) a.parts b) in
    sym (nothing_more files to other a.after rest.before rest.after rest.parts a.halted rest.answered)

-- lines that are all answered are so
pub FollowToHalt-whole : (files : FileMap) (from to : Session) (lines : List (List ℕ)) →
    Follow files from lines to → FollowToHalt files from lines to
FollowToHalt-whole files from to lines answered = record {
  before = lines;
  after = [];
  parts = sym (append-nil lines);
  answered = answered;
  halted = tt;
}

-- a session of lines
record HasSession (files : FileMap) (from : Session) (lines : List (List ℕ)) : Type 0 where
  pub session : Session
  pub is : FollowToHalt files from lines session

halts : (files : FileMap) (from : Session) (line : List ℕ) (lines : List (List ℕ)) → ¬ (AreThere files line) →
    HasSession files from (line ∷ lines)
halts files from line lines lacks = record {
  session = from;
  is = record { before = []; after = line ∷ lines; parts = refl; answered = refl; halted = lacks };
}

goes_on : (files : FileMap) (from : Session) (line : List ℕ) (lines : List (List ℕ)) (standing : Standing)
    (answer : Answer) → IsStep files from.standing line standing answer →
    HasSession files (with_answer from answer standing) lines → HasSession files from (line ∷ lines)
goes_on files from line lines standing answer is has = record {
  session = has.session;
  is = record {
    before = line ∷ (has.is).before;
    after = (has.is).after;
    parts = ap (λ v. line ∷ v) (has.is).parts;
    answered = (standing, answer, is, (has.is).answered);
    halted = (has.is).halted;
  };
}

some_session : (files : FileMap) (from : Session) (lines : List (List ℕ)) → HasSession files from lines
some_session files from [] = record {
  session = from;
  is = record {
    before = [];
    after = [];
    parts = refl;
    answered =
        refl;
    halted = tt;
  };
}
some_session files from (line ∷ lines) =
    elim (step.told files line) [
      | inl there ↦
          let has = step.some files from.standing line there in
          goes_on files from line lines has.to has.answer has.is (some_session files
          (with_answer from has.answer has.to) lines)
      | inr lack ↦ halts files from line lines (not_there files line lack)
    ]

-- every script has a transcript
pub some : ScriptsHaveATranscript
some files script =
    let has = some_session files empty_session (lines_of script) in
    record { session = has.session; is = session_of_totals files (lines_of script) has.session has.is }

-- and no other
pub one : ScriptsHaveOneTranscript
one files script session other a b =
    FollowToHalt-one files empty_session session other (lines_of script) (totals_of_session files (lines_of script) session a)
    (totals_of_session files (lines_of script) other b)

-- ---- notes

no_rise : (before now : ℕ) → Rose before now → Still before now → ⊥
no_rise before now rose still = omega arith

-- a text that was put to them by one call
pub noted_by : {E : Type 0} (r : Result ⊤ E) (before after : NotesShown) (text : List ℕ) → OnOk r (Appends before.written after.written text)
    → HasCause before.faults after.faults r → AreNoted before after text
noted_by (Ok x) before after text ok cause = record { later = cause.later; put = λ still. ok }
noted_by (Err e) before after text ok cause =
    record { later = cause.later; put = λ still. absurd (no_rise before.faults after.faults cause.failed still) }
