-- The answers of a session, one after another: totals that lines take on are what their answers make.
use Rattle.std.proofs.Common.{◌≡◌, ℕ, ◌+◌, List, [], ◌∷◌, ◌++◌, Bool, true, false, ◌||◌, if◌then◌else◌, length, map, refl, sym, ap, ◌∙◌, subst, append_assoc, add_assoc, zero-add, arith}
use Rattle.std.specs.Prelude.{filter, flat_map, sum_by}
use Rattle.std.specs.List.{enumerate_from, list_any}
use Rattle.std.proofs.lemmas.List.{append-nil}
use Rattle.std.proofs.lemmas.List.Sums.{sum_by-cons}
use Rattle.outside.specs.Told.{FileMap}
use Rattle.script_steps.specs.GoingOn.{AreSteps, IsSavable}
use Rattle.script_steps.specs.Steps.{Answer, Standing}
use Rattle.script_steps.proofs.Laws.{make_books}
use Rattle.script_run.specs.private.LineCounts.{noted}
use Rattle.script_run.specs.private.RunViews.{Follow, empty_session, with_answer}
use Rattle.script_run.specs.Transcripts.{AreAnswered, Session, refusal_of, refused_from, session_of}
use Rattle.script_run.specs.TranscriptLaws.{ScriptsLeaveBooks}

-- what they write
abbrev pub texts : List Answer → List ℕ
texts answers = flat_map (λ (answer : Answer). answer.text) answers

-- whether one of them is a refusal, and those that are
abbrev pub any_refused : List Answer → Bool
any_refused answers = list_any (λ (answer : Answer). answer.refused) answers

abbrev pub refusals : List Answer → List ℕ
refusals answers = flat_map refusal_of answers

-- their steps
abbrev step_sum : List Answer → ℕ
step_sum answers = sum_by (λ (answer : Answer). answer.steps) answers

-- what a session was, and what it is behind some answers
pub record Goes (from to : Session) (answers : List Answer) : Type 0 where
  pub text : to.text ≡ from.text ++ texts answers
  pub refused : to.refused ≡ from.refused || any_refused answers
  pub kept : to.refusals ≡ from.refusals ++ refusals answers
  pub lines : to.lines ≡ from.lines + length answers
  pub refused_lines : to.refused_lines ≡ from.refused_lines ++ refused_from (from.lines + 1) answers
  pub steps : to.steps ≡ from.steps + step_sum answers

or_nothing : (b : Bool) → b ≡ b || false
or_nothing true = refl
or_nothing false = refl

or_both : (a b c : Bool) → (a || b) || c ≡ a || (b || c)
or_both true b c = refl
or_both false b c = refl

goes_nowhere : (s : Session) (to : Session) → to ≡ s → Goes s to []
goes_nowhere s to e = record {
  text = ap (λ (x : Session). x.text) e ∙ sym (append-nil s.text);
  refused = ap (λ (x : Session). x.refused) e ∙ or_nothing s.refused;
  kept = ap (λ (x : Session). x.refusals) e ∙ sym (append-nil s.refusals);
  lines = let same = ap (λ (x : Session). x.lines) e in omega arith;
  refused_lines = ap (λ (x : Session). x.refused_lines) e ∙ sym (append-nil s.refused_lines);
  steps = let same = ap (λ (x : Session). x.steps) e in omega arith;
}

-- the numbers of the refused, one after another
noted_by : (refused : List ℕ) (number : ℕ) (answer : Answer) (is_refused : Bool) (later : List (ℕ × Answer))
    → noted refused number is_refused ++ map (λ (at : ℕ × Answer). at.0) later
    ≡ refused ++ map (λ (at : ℕ × Answer). at.0) (if is_refused then (number, answer) ∷ later else later)
noted_by refused number answer true later = append_assoc refused (number ∷ []) (map (λ (at : ℕ × Answer). at.0) later)
noted_by refused number answer false later = append_assoc refused [] (map (λ (at : ℕ × Answer). at.0) later)

noted_then : (refused : List ℕ) (number : ℕ) (answer : Answer) (answers : List Answer)
    → noted refused number answer.refused ++ refused_from (number + 1) answers
    ≡ refused ++ refused_from number (answer ∷ answers)
noted_then refused number answer answers =
    noted_by refused number answer answer.refused
    (filter (λ (at : ℕ × Answer). (at.1).refused) (enumerate_from (number + 1) answers))

goes_further : (from to : Session) (answer : Answer) (next : Standing) (answers : List Answer)
    → Goes (with_answer from answer next) to answers → Goes from to (answer ∷ answers)
goes_further from to answer next answers h = record {
  text = h.text ∙ append_assoc from.text answer.text (texts answers);
  refused = h.refused ∙ or_both from.refused answer.refused (any_refused answers);
  kept = h.kept ∙ append_assoc from.refusals (refusal_of answer) (refusals answers);
  lines = let more : to.lines ≡ (from.lines + 1) + length answers = h.lines in omega arith;
  refused_lines = h.refused_lines ∙ noted_then from.refused_lines (from.lines + 1) answer answers;
  steps = h.steps ∙ add_assoc from.steps answer.steps (step_sum answers)
      ∙ ap (λ n. from.steps + n) (sym (sum_by-cons (λ (a : Answer). a.steps) answer answers));
}

-- where none is a refusal there are none
by_none : (a : Answer) (b : Bool) → a.refused || b ≡ false → (refusal_of a ≡ []) × (b ≡ false)
by_none a b e = by a.refused e
  where
    by : (r : Bool) → r || b ≡ false → ((if r then a.text else []) ≡ []) × (b ≡ false)
    by true f = cc
    by false f = (refl, f)

pub no_refusals : (answers : List Answer) → any_refused answers ≡ false → refusals answers ≡ []
no_refusals [] e = refl
no_refusals (answer ∷ answers) e =
    let h = by_none answer (any_refused answers) e in
    ap (λ t. t ++ refusals answers) h.0 ∙ no_refusals answers h.1

-- the answers of lines that take one total to the other
pub record HasSteps (files : FileMap) (from : Session) (lines : List (List ℕ)) (to : Session) : Type 0 where
  pub answers : List Answer
  pub steps : AreSteps files from.standing lines to.standing answers
  pub goes : Goes from to answers

pub has_steps : (files : FileMap) (from : Session) (lines : List (List ℕ)) (to : Session) → Follow files from lines to
    → HasSteps files from lines to
has_steps files from [] to h = record {
  answers = [];
  steps = ap (λ (s : Session). s.standing) h;
  goes = goes_nowhere from to h;
}
has_steps files from (line ∷ lines) to (standing, answer, is, rest) =
    let more = has_steps files (with_answer from answer standing) lines to rest in record {
      answers = answer ∷ more.answers;
      steps = (standing, is, more.steps);
      goes = goes_further from to answer standing more.answers more.goes;
    }

-- the total that they take it to
pub record HasAnswered (files : FileMap) (from : Session) (lines : List (List ℕ)) (to : Standing) (answers : List Answer)
    : Type 0 where
  pub session : Session
  pub is : Follow files from lines session
  pub goes : Goes from session answers
  pub left : session.standing ≡ to

pub has_answered : (files : FileMap) (from : Session) (lines : List (List ℕ)) (to : Standing) (answers : List Answer)
    → AreSteps files from.standing lines to answers → HasAnswered files from lines to answers
has_answered files from [] to [] h =
    record { session = from; is = refl; goes = goes_nowhere from from refl; left = sym h }
has_answered files from [] to (answer ∷ answers) h = absurd h
has_answered files from (line ∷ lines) to [] h = absurd h
has_answered files from (line ∷ lines) to (answer ∷ answers) (next, is, rest) =
    let more = has_answered files (with_answer from answer next) lines to answers rest in record {
      session = more.session;
      is = (next, answer, is, more.is);
      goes = goes_further from more.session answer next answers more.goes;
      left = more.left;
    }

-- ---- from the first line on

-- totals behind some answers are the session that these make
of_answers : (session : Session) (answers : List Answer) → Goes empty_session session answers
    → session ≡ session_of answers session.standing
of_answers session answers h =
    let lines : session.lines ≡ length answers = h.lines ∙ zero-add (length answers) in
    let steps : session.steps ≡ step_sum answers = h.steps ∙ zero-add (step_sum answers) in
    λ i. record {
      text = h.text i;
      refused = h.refused i;
      refusals = h.kept i;
      lines = lines i;
      refused_lines = h.refused_lines i;
      steps = steps i;
      standing = session.standing;
    }

-- lines that follow the empty_session are answered
pub answered_of : (files : FileMap) (lines : List (List ℕ)) (session : Session) → Follow files empty_session lines session
    → AreAnswered files lines session
answered_of files lines session h =
    let has = has_steps files empty_session lines session h in
    record {
      answers = has.answers;
      left = session.standing;
      each = has.steps;
      is = of_answers session has.answers has.goes;
    }

-- and the other way
pub follow_of : (files : FileMap) (lines : List (List ℕ)) (session : Session) → AreAnswered files lines session
    → Follow files empty_session lines session
follow_of files lines session h =
    let has = has_answered files empty_session lines h.left h.answers h.each in
    subst (λ (s : Session). Follow files empty_session lines s) (of_answers has.session h.answers has.goes
    ∙ ap (λ (left : Standing). session_of h.answers left) has.left ∙ sym h.is) has.is

-- ---- a law

pub leave_books : ScriptsLeaveBooks
leave_books files script session h =
    let answered = h.answered in
    subst (λ (s : Standing). IsSavable s.book) (sym (ap (λ (s : Session). s.standing) answered.is))
    (make_books files h.before answered.answers answered.left answered.each)
