-- How a run goes on over a script's bytes, and what a stop leaves.
use Rattle.std.proofs.Common.{◌≡◌, ◌≢◌, List, [], ◌∷◌, ◌++◌, ℕ, ◌+◌, ◌-◌, ◌≤◌, ◌<◌, Bool, ◌||◌, length, take, drop, Option, refl, sym, ap, ◌∙◌, subst, append_assoc, arith, inl, inr, length-append}
use Rattle.std.specs.Prelude.{Result, Ok, Err, Some, None, Vec, ⊤}
use Rattle.std.specs.declared.alloc.Global.{Global}
use Rattle.std.specs.Option.{ForSome}
use Rattle.std.specs.Str.Lines.{strip_carriage_return}
use Rattle.std.proofs.lemmas.List.{append-nil, take-append-drop}
use Rattle.outside.specs.Told.{FileMap, Appends}
use Rattle.outside.proofs.Laws.{Appends-then, Appends-nothing}
use Rattle.script_steps.specs.Steps.{Standing, Answer, Names, IsStep}
use Rattle.script_steps.specs.LineSteps.{IsNextFile}
use Rattle.script_steps.specs.StepClauses.{IsAnswered, IsUnbegun, IsPart, IsUnfinished, IsBroken}
use Rattle.script_steps.specs.declared.stop.LineStop.{LineStop}
use Rattle.script_steps.specs.declared.stop.LineStop.TheVariants.{File, Write, Memory}
use Rattle.script_steps.proofs.Laws as step
use Rattle.script_run.specs.Transcripts.{Session, refusal_of, lines_of, ended_lines, IsSession, IsTranscript}
use Rattle.script_run.specs.Stops.{stop_of}
use Rattle.script_steps.specs.Shown.{OutsideShown}
use Rattle.script_run.specs.private.RunClauses.{without_notes, EndsAt, KeepsRefusals}
use Rattle.script_run.specs.RunClauses.{IsFrontOfSession, IsAtLine, RunLeaves}
use Rattle.script_run.specs.private.OpenLines.{HasNoLf, Holds, SaysSame}
use Rattle.script_run.specs.private.RunViews.{Follow, empty_session, with_answer, open_line, IsAtStart, Keeps}
use Rattle.script_run.specs.private.RunViews.{IsDelivered, Stands, GoesOn, Breaks, Closes, ClosesAt, stopped_at, last_result}
use Rattle.script_run.specs.declared.stop.Stop.TheVariants as stops
use Rattle.script_run.specs.declared.open_line.OpenLine.{OpenLine}
use Rattle.script_run.specs.declared.reading.Reading.{Reading}
use Rattle.script_run.specs.LineCounts.{AreCounted, counts_one}
use Rattle.script_run.specs.Notes.{IsToldOf, RunShown}
use Rattle.script_run.specs.private.LineCounts.{Notes, noted}
use Rattle.script_run.specs.declared.line_counts.LineCounts.{LineCounts}
use Rattle.script_run.proofs.Laws.{FollowToHalt, Follow-next, Follow-grows, Follow-there, FollowToHalt-rest, FollowToHalt-whole}
use Rattle.script_run.proofs.Laws.{answered_of, session_of_totals, totals_of_session}
use Rattle.script_run.proofs.LineLaws.{ended_lines-others, open_line-others, ended_lines-line, open_line-line, Begins, lines_of-append, lines_of-parts, last_lines, last_lines-some, last_lines-none}
use Rattle.script_run.proofs.ToldLaws.{tells_none, tells_noted, told_more, told_nothing}

-- what is kept of a line is answered as the line
step_same : (files : FileMap) (from to : Standing) (said line : List ℕ) (answer : Answer) → SaysSame said line →
    IsStep files from said to answer → IsStep files from line to answer
step_same files from to said line answer (inl same) is = subst (λ v. IsStep files from v to answer) same is
step_same files from to said line answer (inr long) is =
    step.long files from to said line answer long.said_long long.line_long is

names_same : (said line name : List ℕ) → SaysSame said line → Names said name → Names line name
names_same said line name (inl same) names = subst (λ v. Names v name) same names
names_same said line name (inr long) names = absurd (step.alone said name long.said_long names)

pub answered_same : {old new : OutsideShown} {from to : Standing} {said line : List ℕ} {refused : Bool} →
    SaysSame said line → IsAnswered old new from to said refused → IsAnswered old new from to line refused
answered_same {from = from} {to = to} {said = said} {line = line} same answered = record {
  answer = answered.answer;
  appended = answered.appended;
  counted = answered.counted;
  marked = answered.marked;
  is = λ files e. step_same files from to said line answered.answer same (answered.is files e);
}

pub delivered_same : {old new : OutsideShown} {from to : Standing} {was is : Option (Vec ℕ Global)}
    {said line : List ℕ} {refused : Bool} →
    SaysSame said line → IsDelivered old new from to was is said refused → IsDelivered old new from to was is line refused
unfolding answered_same
delivered_same same delivered = record {
  answered = answered_same same delivered.answered;
  kept = delivered.kept;
}

-- the refusals with one more answer
kept_more : (was is : Option (Vec ℕ Global)) (answer : Answer) (refusals : List ℕ) → Keeps was is answer →
    KeepsRefusals was refusals → KeepsRefusals is (refusals ++ refusal_of answer)
kept_more None None answer refusals keeps kept = tt
kept_more None (Some more) answer refusals keeps kept = absurd keeps
kept_more (Some few) None answer refusals keeps kept = absurd keeps
kept_more (Some few) (Some more) answer refusals keeps kept = keeps ∙ ap (λ v. v ++ refusal_of answer) kept

-- what a stop leaves at a line
pub record BreaksLine (old new : OutsideShown) (from : Standing) (line : List ℕ) (stop : LineStop) : Type 0 where
  pub to : Standing
  pub is : IsBroken old new from to line stop

pub broken_same : {old new : OutsideShown} {from : Standing} {said line : List ℕ} → SaysSame said line →
    (stop : LineStop) →
    BreaksLine old new from said stop → BreaksLine old new from line stop
broken_same {old = old} {new = new} {from = from} (inl same) File broken =
    subst (λ v. BreaksLine old new from v File) same broken
broken_same {said = said} (inr long) File broken =
    absurd (step.alone said (broken.is).name long.said_long (broken.is).names)
broken_same {from = from} {said = said} {line = line} same Write broken =
    let cut = broken.is in
    record {
      to = broken.to;
      is = record {
        answer = cut.answer;
        part = cut.part;
        counted = cut.counted;
        is = λ files e. step_same files from broken.to said line cut.answer same (cut.is files e);
      };
    }
broken_same {from = from} {said = said} {line = line} same Memory broken = record {
  to = broken.to;
  is = record {
    left = elim ((broken.is).left) [
      | inl still ↦ inl still
      | inr step ↦ inr (step.0, λ files e. step_same files from broken.to said line step.0 same (step.1 files e))
    ];
    done = elim ((broken.is).done) [
      | inl nothing ↦ inl nothing
      | inr part ↦ inr (record {
        to = part.to;
        answer = part.answer;
        part = part.part;
        later = part.later;
        within = part.within;
        is = λ files e. step_same files from part.to said line part.answer same (part.is files e);
      })
    ];
  };
}

session_same : {a a' e n : List ℕ} {b b' : Bool} {c c' l : ℕ} {d d' : Standing} → a ≡ a' → b ≡ b' → c ≡ c' → d ≡ d' →
    ◌≡◌ {A = Session}
    (record { text = a; refused = b; refusals = e; lines = l; refused_lines = n; steps = c; standing = d })
    (record { text = a'; refused = b'; refusals = e; lines = l; refused_lines = n; steps = c'; standing = d' })
session_same {e = e} {n = n} {l = l} p q r s = λ i. record {
  text = p i;
  refused = q i;
  refusals = e;
  lines = l;
  refused_lines = n;
  steps = r i;
  standing = s i;
}

-- before the first byte
pub stands_first : (before : RunShown) (reading : Reading) → IsAtStart reading → Stands before before [] reading
stands_first before reading first = record {
  out = [];
  refusals = [];
  lines = 0;
  refused_lines = [];
  same = refl;
  appended = Appends-nothing before.written;
  counted = omega arith;
  held = first.line;
  kept = first.refusals;
  told = told_nothing before.notes first.counts;
  answered = λ files e. session_same refl (tells_none first.counts) (omega arith) first.script;
}

-- bytes that end no line
pub keep_on : {old : RunShown} {was is : Reading} (more : List ℕ) → HasNoLf more →
    ((line : List ℕ) → Holds was.line line → Holds is.line (line ++ more)) →
    is ≡ record was { line = is.line } → GoesOn old old was is more
keep_on {old = old} {was = was} {is = is} more none held same = record {
  on = λ before bytes stands. record {
    out = stands.out;
    refusals = stands.refusals;
    lines = stands.lines;
    refused_lines = stands.refused_lines;
    same = stands.same;
    appended = stands.appended;
    counted = stands.counted;
    held = subst (λ v. Holds is.line v) (sym (open_line-others bytes more none)) (held (open_line bytes) stands.held);
    kept = subst (λ (v : Reading). KeepsRefusals v.refusals stands.refusals) (sym same) stands.kept;
    told = subst (λ (v : Reading). IsToldOf stands.lines stands.refused_lines
        (record { counts = v.counts; before = before.notes; after = old.notes })) (sym same) stands.told;
    answered = λ files e.
        subst (λ v. Follow files empty_session v (record {
          text = stands.out;
          refused = counts_one is.counts;
          refusals = stands.refusals;
          lines = stands.lines;
          refused_lines = stands.refused_lines;
          steps = old.steps - before.steps;
          standing = is.script;
        })) (sym (ended_lines-others bytes more none))
        (subst (λ v. Follow files empty_session (ended_lines bytes) v) (session_same refl
        (ap (λ (v : Reading). counts_one v.counts) (sym same)) refl (ap (λ (v : Reading). v.script) (sym same))) (stands.answered files e));
  };
}

-- the last bytes of a line and an LF, with the answer to the line
pub line_on : {old new : RunShown} {was is : Reading} {refused : Bool} (last : List ℕ) → HasNoLf last →
    new.files ≡ old.files →
    ((line : List ℕ) → Holds was.line line →
    IsDelivered (without_notes old) (without_notes new) was.script is.script was.refusals is.refusals
    (strip_carriage_return (line ++ last)) refused) →
    Holds is.line [] → Notes was.counts old.notes is.counts new.notes refused →
    GoesOn old new was is (last ++ 10 ∷ [])
line_on {old = old} {new = new} {was = was} {is = is} {refused = refused} last none same_files answers held notes = record {
  on = λ before bytes stands.
      let delivered = answers (open_line bytes) stands.held in
      let answered = delivered.answered in
      let rose : before.steps ≤ old.steps = stands.counted in
      let counted : new.steps ≡ old.steps + (answered.answer).steps = answered.counted in
      let steps : (old.steps - before.steps) + (answered.answer).steps ≡ new.steps - before.steps = omega arith in
      let told = notes before.notes stands.lines stands.refused_lines stands.told in
      let mark = tells_noted stands.refused_lines (stands.lines + 1) refused stands.told.counted told.counted in
      record {
        out = stands.out ++ (answered.answer).text;
        refusals = stands.refusals ++ refusal_of answered.answer;
        lines = stands.lines + 1;
        refused_lines = noted stands.refused_lines (stands.lines + 1) (answered.answer).refused;
        same = same_files ∙ stands.same;
        appended = Appends-then before.written old.written new.written stands.out
            (answered.answer).text stands.appended answered.appended;
        counted = omega arith;
        held = subst (λ v. Holds is.line v) (sym (open_line-line bytes last)) held;
        kept = kept_more was.refusals is.refusals answered.answer stands.refusals delivered.kept stands.kept;
        told = told_more (stands.lines + 1) stands.refused_lines _ refused (answered.answer).refused answered.marked told;
        answered = λ files e.
            subst (λ v. Follow files empty_session v (record {
              text = stands.out ++ (answered.answer).text;
              refused = counts_one is.counts;
              refusals = stands.refusals ++ refusal_of answered.answer;
              lines = stands.lines + 1;
              refused_lines = noted stands.refused_lines (stands.lines + 1) (answered.answer).refused;
              steps = new.steps - before.steps;
              standing = is.script;
            })) (sym (ended_lines-line bytes last none))
            (subst (λ v. Follow files empty_session (ended_lines bytes ++ strip_carriage_return
            (open_line bytes ++ last) ∷ []) v) (session_same refl (ap (λ v. counts_one was.counts || v)
            (sym answered.marked) ∙ sym mark) steps refl)
            (Follow-next files empty_session _ (ended_lines bytes) (strip_carriage_return
            (open_line bytes ++ last)) is.script answered.answer (stands.answered files e) (answered.is files (stands.same
            ∙ e))));
      };
}

-- the session so far is a front of the transcript of a script that begins so
pub front_so_far : (files : FileMap) (lines more : List (List ℕ)) (script : List ℕ) (session : Session) →
    lines_of script ≡ lines ++ more → Follow files empty_session lines session →
    (whole : Session) → IsTranscript files script whole → IsFrontOfSession whole session.text session.steps
front_so_far files lines more script session begins answered whole transcript =
    let totals = totals_of_session files (lines_of script) whole transcript in
    let rest = FollowToHalt-rest files empty_session session whole lines more answered (subst
    (λ v. FollowToHalt files empty_session v whole) begins totals) in
    Follow-grows files session whole rest.before rest.answered

-- the lines of a script that goes on after some bytes
begins_so : (bytes more rest : List ℕ) → Begins (ended_lines bytes) (lines_of ((bytes ++ more) ++ rest))
begins_so bytes more rest = subst (λ v. Begins (ended_lines bytes) (lines_of v)) (sym (append_assoc bytes more rest))
    (lines_of-append bytes (more ++ rest))

-- where nothing was written or counted the run stands as it stood
nothing_on : {before old new : RunShown} {bytes : List ℕ} {was : Reading} → new.files ≡ old.files →
    new.notes ≡ old.notes → IsUnbegun (without_notes old) (without_notes new) → Stands before old bytes was →
    Stands before new bytes was
nothing_on {before = before} {old = old} {new = new} {bytes = bytes} {was = was} same same_notes nothing stands = record {
  out = stands.out;
  refusals = stands.refusals;
  lines = stands.lines;
  refused_lines = stands.refused_lines;
  same = same ∙ stands.same;
  appended = subst (λ v. Appends before.written new.written v) (append-nil stands.out)
      (Appends-then before.written old.written new.written stands.out [] stands.appended nothing.nothing);
  counted = subst (λ v. before.steps ≤ v) (sym nothing.uncounted) stands.counted;
  held = stands.held;
  kept = stands.kept;
  told = subst (λ v. IsToldOf stands.lines stands.refused_lines
      (record { counts = was.counts; before = before.notes; after = v })) (sym same_notes) stands.told;
  answered = λ files e.
      subst (λ v. Follow files empty_session (ended_lines bytes) (record {
        text = stands.out;
        refused = counts_one was.counts;
        refusals = stands.refusals;
        lines = stands.lines;
        refused_lines = stands.refused_lines;
        steps = v - before.steps;
        standing = was.script;
      })) (sym nothing.uncounted) (stands.answered files e);
}

-- a front of a front
front_part : {whole : Session} (out text front rest : List ℕ) (spent steps : ℕ) → text ≡ front ++ rest →
    spent ≤ steps → IsFrontOfSession whole (out ++ text) steps → IsFrontOfSession whole (out ++ front) spent
front_part out text front rest spent steps parts less is = record {
  later = rest ++ is.later;
  text = is.text ∙ ap (λ v. (out ++ v) ++ is.later) parts ∙ ap (λ v. v ++ is.later) (sym
      (append_assoc out front rest)) ∙ append_assoc (out ++ front) rest is.later;
  cost = omega (arith, is.cost);
}

-- with the answer to one more line
front_next : (files : FileMap) (lines later : List (List ℕ)) (line script : List ℕ) (session : Session)
    (to : Standing) (answer : Answer) → lines_of script ≡ lines ++ line ∷ later →
    Follow files empty_session lines session → IsStep files session.standing line to answer →
    (whole : Session) → IsTranscript files script whole → IsFrontOfSession whole (session.text ++ answer.text)
    (session.steps + answer.steps)
front_next files lines later line script session to answer begins answered is whole transcript =
    front_so_far files (lines ++ line ∷ []) later script (with_answer session answer to) (begins
    ∙ sym (append_assoc lines (line ∷ []) later))
    (Follow-next files empty_session session lines line to answer answered is) whole transcript

-- where a run stands it has left the answers so far
pub leaves_so_far : {most : ℕ} {before now : RunShown} {bytes script taken rest : List ℕ} {reading : Reading}
    {told : LineCounts} →
    Begins (ended_lines bytes) (lines_of script) → Stands before now bytes reading →
    RunLeaves most before now script taken rest (stopped_at stops.Memory told)
leaves_so_far {bytes = bytes} {script = script} begins stands = record {
  out = stands.out;
  appended = stands.appended;
  counted = stands.counted;
  front = λ files e whole transcript. front_so_far files (ended_lines bytes) begins.more script _ begins.is
      (stands.answered files e) whole transcript;
  tells = tt;
}

-- what is told of the lines so far, where it is still the same
tells_so_far : {before now : RunShown} {bytes : List ℕ} {reading : Reading} {told : LineCounts} →
    told ≡ reading.counts → (stands : Stands before now bytes reading) →
    IsToldOf stands.lines stands.refused_lines (record { counts = told; before = before.notes; after = now.notes })
tells_so_far {before = before} {now = now} unchanged stands = subst (λ v. IsToldOf stands.lines stands.refused_lines
    (record { counts = v; before = before.notes; after = now.notes })) (sym unchanged) stands.told

leaves_file : {most : ℕ} {before now : RunShown} {bytes script taken rest line : List ℕ} {reading : Reading}
    {told : LineCounts} →
    IsAtLine most script taken (ended_lines bytes) line → (name : List ℕ) (names : Names line name) →
    ForSome before.files (λ files. IsNextFile files names.what name) → now.failed ≡ Some name →
    told ≡ reading.counts → Stands before now bytes reading →
    RunLeaves most before now script taken rest (stopped_at stops.File told)
leaves_file {bytes = bytes} {script = script} {line = line} place name names in_order failed unchanged stands = record {
  out = stands.out;
  appended = stands.appended;
  counted = stands.counted;
  front = λ files e whole transcript. front_so_far files (ended_lines bytes) (line ∷ place.later) script _ place.lines
      (stands.answered files e) whole transcript;
  tells = record {
    before = ended_lines bytes;
    line = line;
    place = place;
    name = name;
    names = names;
    in_order = in_order;
    failed_there = failed;
    exact = λ files e. record {
      session = _;
      answered = answered_of files (ended_lines bytes) _ (stands.answered files e);
      text = refl;
      cost = refl;
      told_is = tells_so_far unchanged stands;
    };
  };
}

leaves_part : {most : ℕ} {before old new : RunShown} {bytes script taken rest line : List ℕ} {was : Reading}
    {told : LineCounts} →
    IsAtLine most script taken (ended_lines bytes) line →
    IsPart (without_notes old) (without_notes new) was.script line → Stands before old bytes was →
    RunLeaves most before new script taken rest (stopped_at stops.Memory told)
leaves_part {before = before} {old = old} {new = new} {bytes = bytes} {script = script} {line =
    line} place part stands =
    let rose : before.steps ≤ old.steps = stands.counted in
    let later : old.steps ≤ new.steps = part.later in
    let within : new.steps ≤ old.steps + (part.answer).steps = part.within in
    let less : new.steps - before.steps ≤ (old.steps - before.steps) + (part.answer).steps = omega arith in
    let front = (part.part).front in
    record {
      out = stands.out ++ front;
      appended = Appends-then before.written old.written new.written stands.out front stands.appended
          (part.part).appended;
      counted = omega arith;
      front = λ files e whole transcript.
          front_part stands.out (part.answer).text front (part.part).rest (new.steps - before.steps) _
          (part.part).parts less
          (front_next files (ended_lines bytes) place.later line script _ part.to part.answer place.lines
          (stands.answered files e) (part.is files (stands.same ∙ e)) whole transcript);
      tells = tt;
    }

leaves_write : {most : ℕ} {before old new : RunShown} {bytes script taken rest line : List ℕ} {was : Reading}
    {to : Standing} {told : LineCounts} → IsAtLine most script taken (ended_lines bytes) line →
    IsUnfinished (without_notes old) (without_notes new) was.script to line → told ≡ was.counts →
    new.notes ≡ old.notes → Stands before old bytes was →
    RunLeaves most before new script taken rest (stopped_at stops.Write told)
leaves_write {before = before} {old = old} {new = new} {bytes = bytes} {script = script} {line =
    line} {to = to} {told = told} place cut unchanged same_notes stands =
    let rose : before.steps ≤ old.steps = stands.counted in
    let counted : new.steps ≡ old.steps + (cut.answer).steps = cut.counted in
    let cost : new.steps - before.steps ≡ (old.steps - before.steps) + (cut.answer).steps = omega arith in
    let less : new.steps - before.steps ≤ (old.steps - before.steps) + (cut.answer).steps = omega arith in
    let count = (cut.part).count in
    record {
      out = stands.out ++ take count (cut.answer).text;
      appended = Appends-then before.written old.written new.written stands.out (take count
          (cut.answer).text) stands.appended (cut.part).appended;
      counted = omega arith;
      front = λ files e whole transcript.
          front_part stands.out (cut.answer).text (take count (cut.answer).text) (drop count (cut.answer).text)
          (new.steps - before.steps) _ (sym (take-append-drop count (cut.answer).text)) less
          (front_next files (ended_lines bytes) place.later line script _ to cut.answer place.lines
          (stands.answered files e) (cut.is files (stands.same ∙ e)) whole transcript);
      tells = record {
        before = ended_lines bytes;
        line = line;
        place = place;
        cut = λ files e. record {
          session = _;
          answered = answered_of files (ended_lines bytes) _ (stands.answered files e);
          to = to;
          answer = cut.answer;
          step = cut.is files (stands.same ∙ e);
          count = count;
          within = (cut.part).within;
          text = refl;
          cost = cost;
          told_is = subst (λ v. IsToldOf stands.lines stands.refused_lines
              (record { counts = told; before = before.notes; after = v })) (sym same_notes) (tells_so_far unchanged stands);
        };
      };
    }

-- memory ran out before anything was done at a line
leaves_unbegun : {most : ℕ} {before old new : RunShown} {bytes script taken rest line : List ℕ} {was : Reading}
    {told : LineCounts} → IsAtLine most script taken (ended_lines bytes) line →
    IsUnbegun (without_notes old) (without_notes new) → Stands before old bytes was →
    RunLeaves most before new script taken rest (stopped_at stops.Memory told)
leaves_unbegun {before = before} {old = old} {new = new} {bytes = bytes} {script = script} {line = line} place nothing stands = record {
  out = stands.out;
  appended = subst (λ v. Appends before.written new.written v) (append-nil stands.out)
      (Appends-then before.written old.written new.written stands.out [] stands.appended nothing.nothing);
  counted = subst (λ v. before.steps ≤ v) (sym nothing.uncounted) stands.counted;
  front = λ files e whole transcript.
      subst (λ v. IsFrontOfSession whole stands.out (v - before.steps)) (sym nothing.uncounted)
      (front_so_far files (ended_lines bytes) (line ∷ place.later) script _ place.lines (stands.answered files e) whole transcript);
  tells = tt;
}

-- a stop at a line; but where memory ran out the same is told as before it
leaves_broken : {most : ℕ} {before old new : RunShown} {bytes script taken rest line : List ℕ} {was : Reading}
    {told : LineCounts} →
    new.files ≡ old.files → IsAtLine most script taken (ended_lines bytes) line →
    (stop : LineStop) → BreaksLine (without_notes old) (without_notes new) was.script line stop →
    (stop ≢ Memory → told ≡ was.counts) → (stop ≢ Memory → new.notes ≡ old.notes) →
    Stands before old bytes was → RunLeaves most before new script taken rest (stopped_at (stop_of stop) told)
leaves_broken same place File broken unchanged silent stands = leaves_file place (broken.is).name (broken.is).names
    (λ files e. (broken.is).in_order files (stands.same ∙ e)) (broken.is).failed_there (unchanged (λ e. cc))
    (nothing_on same (silent (λ e. cc)) (broken.is).unbegun stands)
leaves_broken same place Write broken unchanged silent stands =
    leaves_write place broken.is (unchanged (λ e. cc)) (silent (λ e. cc)) stands
leaves_broken same place Memory broken unchanged silent stands =
    elim ((broken.is).done) [
      | inl nothing ↦ leaves_unbegun place nothing stands
      | inr part ↦ leaves_part place part stands
    ]

-- the line that these bytes and an LF end, right after it
ended_place : (bytes last : List ℕ) → HasNoLf last → (rest : List ℕ) → IsAtLine (length (last ++ 10 ∷ []))
    ((bytes ++ (last ++ 10 ∷ [])) ++ rest) (bytes ++ (last ++ 10 ∷ [])) (ended_lines bytes)
    (strip_carriage_return (open_line bytes ++ last))
ended_place bytes last none rest =
    let taken = bytes ++ (last ++ 10 ∷ []) in
    let begins = lines_of-append taken rest in
    let line = strip_carriage_return (open_line bytes ++ last) in
    let ended = ended_lines-line bytes last none in
    record {
      later = begins.more;
      lines = begins.is ∙ ap (λ v. v ++ begins.more) ended ∙ append_assoc (ended_lines bytes) (line ∷ []) begins.more;
      through = taken;
      ahead = [];
      parts = sym (append-nil taken);
      through_lines = lines_of-parts taken ∙ ap (λ v. ended_lines taken ++ last_lines v) (open_line-line bytes last)
          ∙ append-nil (ended_lines taken) ∙ ended;
      ends = inl (record { front = bytes ++ last; is = sym (append_assoc bytes last (10 ∷ [])) });
      short = omega arith;
    }

-- a stop at such a line, where a `?` passes it on
pub breaks_line : {old new : RunShown} {was : Reading} {e stop : LineStop} {told : LineCounts} (last : List ℕ) →
    HasNoLf last → e ≡ stop → new.files ≡ old.files →
    ((line : List ℕ) → Holds was.line line →
    BreaksLine (without_notes old) (without_notes new) was.script (strip_carriage_return (line ++ last)) e) →
    (e ≢ Memory → told ≡ was.counts) → (e ≢ Memory → new.notes ≡ old.notes) →
    Breaks old new was told (last ++ 10 ∷ []) stop
breaks_line {old = old} {new = new} {was = was} {e = e} {told = told} last none passed same broken unchanged silent =
    let breaks : Breaks old new was told (last ++ 10 ∷ []) e = record {
      on = λ before bytes rest stands. leaves_broken same (ended_place bytes last none rest) e (broken
          (open_line bytes) stands.held) unchanged silent stands;
    } in
    subst (λ v. Breaks old new was told (last ++ 10 ∷ []) v) passed breaks

-- want of memory before anything was done
pub breaks_memory : {old : RunShown} {was : Reading} {stop : LineStop} {told : LineCounts} (more : List ℕ) →
    Memory ≡ stop → Breaks old old was told more stop
breaks_memory {old = old} {was = was} {told = told} more passed =
    let breaks : Breaks old old was told more Memory = record {
      on = λ before bytes rest stands. leaves_so_far
          (begins_so bytes more rest) stands;
    } in
    subst (λ v. Breaks old old was told more v) passed breaks

-- a line was answered, and then memory ran out
pub answered_lost : {old new : OutsideShown} {from to : Standing} {line : List ℕ} {was is : Option (Vec ℕ Global)} {refused : Bool} →
    IsDelivered old new from to was is line refused →
    BreaksLine old new from line Memory
answered_lost {old = old} {new = new} {to = to} delivered =
    let answered = delivered.answered in
    let counted : new.steps ≡ old.steps + (answered.answer).steps = answered.counted in
    record {
      to = to;
      is = record {
        left = inr (answered.answer, answered.is);
        done = inr (record {
          to = to;
          answer = answered.answer;
          part = record {
            front = (answered.answer).text;
            rest = [];
            parts = sym (append-nil (answered.answer).text);
            appended = answered.appended;
          };
          later = omega arith;
          within = omega arith;
          is = answered.is;
        });
      };
    }

pub err_same : {T : Type 0} {a b : LineStop} → a ≡ b → ◌≡◌ {A = Result T LineStop} (Err a) (Err b)
err_same e = ap (λ v. Err v) e

pub goes_nowhere : {old : RunShown} {was : Reading} → GoesOn old old was was []
goes_nowhere {old = old} {was = was} = record {
  on = λ before bytes stands. subst (λ v. Stands before old v was) (sym
      (append-nil bytes)) stands;
}

pub goes_further : {old mid new : RunShown} {was half is : Reading} (front more : List ℕ) →
    GoesOn old mid was half front →
    GoesOn mid new half is more → GoesOn old new was is (front ++ more)
goes_further {new = new} {is = is} front more p q = record {
  on = λ before bytes stands. subst (λ v. Stands before new v is) (append_assoc bytes front more) (q.on before
      (bytes ++ front) (p.on before bytes stands));
}

pub goes_over : {old new : RunShown} {was is : Reading} (bytes piece : List ℕ) → bytes ≡ piece →
    GoesOn old new was is bytes → GoesOn old new was is piece
goes_over {old = old} {new = new} {was = was} {is = is} bytes piece same goes = subst (λ v. GoesOn old new was is v) same goes

place_ahead : {most n : ℕ} {script taken line : List ℕ} {before : List (List ℕ)} (ahead : List ℕ) →
    most + length ahead ≤ n → IsAtLine most script taken before line → IsAtLine n script (taken ++ ahead) before line
place_ahead ahead fits place = record {
  later = place.later;
  lines = place.lines;
  through = place.through;
  ahead = place.ahead ++ ahead;
  parts = ap (λ v. v ++ ahead) place.parts ∙ append_assoc place.through place.ahead ahead;
  through_lines = place.through_lines;
  ends = place.ends;
  short = omega (arith, place.short, length-append place.ahead ahead);
}

-- further bytes were taken before the stop, and none of them was looked at
pub leaves_ahead : {most n : ℕ} {before now : RunShown} {script taken rest : List ℕ} {told : LineCounts}
    (ahead : List ℕ) → most + length ahead ≤ n → (stop : LineStop) →
    RunLeaves most before now script taken (ahead ++ rest) (stopped_at (stop_of stop) told) →
    RunLeaves n before now script (taken ++ ahead) rest (stopped_at (stop_of stop) told)
leaves_ahead ahead fits File leaves = record {
  out = leaves.out;
  appended = leaves.appended;
  counted = leaves.counted;
  front = leaves.front;
  tells = let at = leaves.tells in record {
    before = at.before;
    line = at.line;
    place = place_ahead ahead fits at.place;
    name = at.name;
    names = at.names;
    in_order = at.in_order;
    failed_there = at.failed_there;
    exact = λ files e. let is = at.exact files e in record {
      session = is.session;
      answered = is.answered;
      text = is.text;
      cost = is.cost;
      told_is = is.told_is;
    };
  };
}
leaves_ahead ahead fits Write leaves = record {
  out = leaves.out;
  appended = leaves.appended;
  counted = leaves.counted;
  front = leaves.front;
  tells = let at = leaves.tells in record {
    before = at.before;
    line = at.line;
    place =
        place_ahead ahead fits at.place;
    cut = λ files e. let is = at.cut files e in record {
      session = is.session;
      answered = is.answered;
      to = is.to;
      answer = is.answer;
      step = is.step;
      count = is.count;
      within = is.within;
      text = is.text;
      cost = is.cost;
      told_is = is.told_is;
    };
  };
}
leaves_ahead ahead fits Memory leaves = record {
  out = leaves.out;
  appended = leaves.appended;
  counted =
      leaves.counted;
  front = leaves.front;
  tells = tt;
}

within_piece : (bytes front more later piece : List ℕ) → piece ≡ (front ++ more) ++ later →
    ((bytes ++ front) ++ more) ++ later ≡ bytes ++ piece
within_piece bytes front more later piece is =
    ap (λ v. v ++ later) (append_assoc bytes front more) ∙ append_assoc bytes (front ++ more) later
    ∙ ap (λ v. bytes ++ v) (sym is)

longer : (front more later piece : List ℕ) → piece ≡ (front ++ more) ++ later →
    length more + length later ≤ length piece
longer front more later piece is = omega (
  arith,
  ap (λ v. length v) is,
  length-append
      (front ++ more) later,
  length-append front more,
)

-- a stop after some bytes of a piece, and before the rest
pub breaks_within : {old mid new : RunShown} {was half : Reading} {stop : LineStop} {told : LineCounts}
    (front more later piece : List ℕ) →
    piece ≡ (front ++ more) ++ later →
    GoesOn old mid was half front → Breaks mid new half told more stop → Breaks old new was told piece stop
breaks_within {new = new} {stop = stop} {told = told} front more later piece is p q = record {
  on = λ before bytes rest stands.
      let taken = ((bytes ++ front) ++ more) ++ later in
      let leaves = leaves_ahead later (longer front more later piece is) stop (q.on before (bytes ++ front)
      (later ++ rest) (p.on before bytes stands)) in
      subst (λ v. RunLeaves (length piece) before new (v ++ rest) v rest (stopped_at (stop_of stop) told))
      (within_piece bytes front more later piece is)
      (subst (λ v. RunLeaves (length piece) before new v taken rest (stopped_at (stop_of stop) told)) (sym (append_assoc
      ((bytes ++ front) ++ more) later rest)) leaves);
}

-- lines that are all answered are a session
whole_session : (files : FileMap) (lines : List (List ℕ)) (session : Session) → Follow files empty_session lines session →
    IsSession files lines session
whole_session files lines session answered =
    session_of_totals files lines session (FollowToHalt-whole files empty_session session lines answered)

-- all lines of a script were answered, and this is told of them
leaves_whole : {before now : RunShown} {script : List ℕ} (out : List ℕ) → Appends before.written now.written out →
    before.steps ≤ now.steps → (standing : Standing) (refused : Bool) (refusals : List ℕ) (lines : ℕ)
    (refused_lines : List ℕ) (told : LineCounts) → counts_one told ≡ refused →
    IsToldOf lines refused_lines (record { counts = told; before = before.notes; after = now.notes }) →
    ForSome before.files (λ files. Follow files empty_session (lines_of script) (record {
      text = out;
      refused = refused;
      refusals = refusals;
      lines = lines;
      refused_lines = refused_lines;
      steps = now.steps - before.steps;
      standing = standing;
    })) →
    RunLeaves 0 before now script script [] (Ok told)
leaves_whole {before = before} {now = now} {script = script} out appended counted standing refused refusals lines
    refused_lines told mark tells answered = record {
      out = out;
      appended = appended;
      counted = counted;
      front = λ files e whole transcript. front_so_far files (lines_of script) [] script _ (sym (append-nil
          (lines_of script))) (answered files e) whole transcript;
      tells = record {
        read = refl;
        whole = λ files e. record {
          session = _;
          is = whole_session files (lines_of script) _ (answered files e);
          there = Follow-there files empty_session _ (lines_of script) (answered files e);
          text = refl;
          cost = refl;
          mark = mark;
          told_is = tells;
        };
      };
    }

-- what they have left
ends_whole : {told : Option FileMap} {script : List ℕ} (session : Session) (kept : Option (Vec ℕ Global))
    (refused : LineCounts) → ForSome told (λ files. Follow files empty_session (lines_of script) session) →
    KeepsRefusals kept session.refusals → AreCounted session.lines session.refused_lines refused →
    ForSome told (λ files. EndsAt files script session.standing kept refused)
ends_whole {script = script} session kept refused answered are tells = λ files e. record {
  session = session;
  is = whole_session files (lines_of script) session (answered files e);
  left = refl;
  refusals = are;
  counted = tells;
}

-- a script that ends with a line end has no other line
no_last : {kept : OpenLine} (script : List ℕ) → ((line : List ℕ) → Holds kept line → length line ≡ 0) →
    Holds kept (open_line script) → lines_of script ≡ ended_lines script
no_last script none held =
    lines_of-parts script ∙ ap (λ v. ended_lines script ++ v) (last_lines-none (open_line script) (none
    (open_line script) held))
    ∙ append-nil (ended_lines script)

-- one that doesn't has its last line
one_last : {kept : OpenLine} (script : List ℕ) → ((line : List ℕ) → Holds kept line → 0 < length line) →
    Holds kept (open_line script) → lines_of script ≡ ended_lines script ++ open_line script ∷ []
one_last script some held =
    lines_of-parts script ∙ ap (λ v. ended_lines script ++ v) (last_lines-some (open_line script) (some
    (open_line script) held))

-- all lines of a script that ends with a line end were answered
answered_none : {before old : RunShown} {script : List ℕ} {was : Reading} → lines_of script ≡ ended_lines script →
    (stands : Stands before old script was) →
    ForSome before.files (λ files. Follow files empty_session (lines_of script)
    (record {
      text = stands.out;
      refused = counts_one was.counts;
      refusals = stands.refusals;
      lines = stands.lines;
      refused_lines = stands.refused_lines;
      steps = old.steps - before.steps;
      standing = was.script;
    }))
answered_none {before = before} {old = old} {was = was} all stands = λ files e.
    let so_far : Session = record {
      text = stands.out;
      refused = counts_one was.counts;
      refusals = stands.refusals;
      lines = stands.lines;
      refused_lines = stands.refused_lines;
      steps = old.steps - before.steps;
      standing = was.script;
    } in
    subst (λ v. Follow files empty_session v so_far) (sym all) (stands.answered files e)

pub closes_none : {old : RunShown} {was : Reading} → ((line : List ℕ) → Holds was.line line → length line ≡ 0) →
    Closes old old was (Ok was.counts)
closes_none {was = was} none = record {
  on = λ before script stands.
      leaves_whole stands.out stands.appended stands.counted was.script (counts_one was.counts) stands.refusals
      stands.lines stands.refused_lines was.counts refl stands.told
      (answered_none (no_last script none stands.held) stands);
}

pub stays_none : {old : RunShown} {was : Reading} → ((line : List ℕ) → Holds was.line line → length line ≡ 0) →
    ClosesAt old was was.script was.refusals was.counts
stays_none {was = was} none = record {
  on = λ before script stands.
      ends_whole _ was.refusals was.counts
      (λ files e. answered_none (no_last script none stands.held) stands files e) stands.kept stands.told.counted;
}

-- with a last line that no LF ends all were answered
answered_on : {before old : RunShown} (new : RunShown) {script : List ℕ} {was : Reading} {to : Standing}
    {refused : Bool} →
    lines_of script ≡ ended_lines script ++ open_line script ∷ [] →
    (answered : IsAnswered (without_notes old) (without_notes new) was.script to
    (open_line script) refused) → (stands : Stands before old script was) →
    ForSome before.files (λ files. Follow files empty_session (lines_of script)
    (record {
      text = stands.out ++ (answered.answer).text;
      refused = counts_one was.counts || refused;
      refusals = stands.refusals ++ refusal_of answered.answer;
      lines = stands.lines + 1;
      refused_lines = noted stands.refused_lines (stands.lines + 1) (answered.answer).refused;
      steps = new.steps - before.steps;
      standing = to;
    }))
answered_on {before = before} {old = old} new {script = script} {was = was} {to = to} {refused =
    refused} all answered stands = λ files e.
    let line = open_line script in
    let rose : before.steps ≤ old.steps = stands.counted in
    let counted : new.steps ≡ old.steps + (answered.answer).steps = answered.counted in
    let steps : (old.steps - before.steps) + (answered.answer).steps ≡ new.steps - before.steps = omega arith in
    let at_last : Session = record {
      text = stands.out ++ (answered.answer).text;
      refused = counts_one was.counts || refused;
      refusals = stands.refusals ++ refusal_of answered.answer;
      lines = stands.lines + 1;
      refused_lines = noted stands.refused_lines (stands.lines + 1) (answered.answer).refused;
      steps = new.steps - before.steps;
      standing = to;
    } in
    subst (λ v. Follow files empty_session v at_last) (sym all)
    (subst (λ v. Follow files empty_session (ended_lines script ++ line ∷ []) v) (session_same refl (ap
    (λ v. counts_one was.counts || v) (sym answered.marked)) steps refl)
    (Follow-next files empty_session _ (ended_lines script) line to answered.answer (stands.answered files e)
    (answered.is files (stands.same ∙ e))))

pub closes_on : {old new : RunShown} {was : Reading} {to : Standing} {kept : Option
    (Vec ℕ Global)} {refused : Bool} {told : LineCounts} → ((line : List ℕ) →
    Holds was.line line → 0 < length line) →
    ((line : List ℕ) → Holds was.line line →
    IsDelivered (without_notes old) (without_notes new) was.script to was.refusals kept line refused) →
    Notes was.counts old.notes told new.notes refused → Closes old new was (Ok told)
closes_on {old = old} {new = new} {was = was} {to = to} {refused = refused} {told = told} some answers notes = record {
  on = λ before script stands.
      let tells = notes before.notes stands.lines stands.refused_lines stands.told in
      let answered = (answers (open_line script) stands.held).answered in
      let rose : before.steps ≤ old.steps = stands.counted in
      let counted : new.steps ≡ old.steps + (answered.answer).steps = answered.counted in
      leaves_whole (stands.out ++ (answered.answer).text)
      (Appends-then before.written old.written new.written stands.out
      (answered.answer).text stands.appended answered.appended) (omega arith)
      to (counts_one was.counts || refused) (stands.refusals ++ refusal_of answered.answer) (stands.lines + 1)
      (noted stands.refused_lines (stands.lines + 1) (answered.answer).refused) told
      (tells_noted stands.refused_lines (stands.lines + 1) refused stands.told.counted tells.counted)
      (told_more (stands.lines + 1) stands.refused_lines _ refused (answered.answer).refused answered.marked tells)
      (answered_on new (one_last script some stands.held) answered stands);
}

pub stays_on : {old : RunShown} (new : RunShown) {was : Reading} {to : Standing} {kept : Option
    (Vec ℕ Global)} {refused : Bool} {told : LineCounts} → ((line : List ℕ) →
    Holds was.line line → 0 < length line) →
    ((line : List ℕ) → Holds was.line line →
    IsDelivered (without_notes old) (without_notes new) was.script to was.refusals kept line refused) →
    Notes was.counts old.notes told new.notes refused → ClosesAt old was to kept told
stays_on new {was = was} {kept = kept} {refused = refused} {told = told} some answers notes = record {
  on = λ before script stands.
      let delivered = answers (open_line script) stands.held in
      ends_whole _ kept told (λ files e. answered_on new (one_last script some stands.held) delivered.answered stands
      files e)
      (kept_more was.refusals kept (delivered.answered).answer stands.refusals delivered.kept stands.kept)
      (told_more (stands.lines + 1) stands.refused_lines _ refused (delivered.answered).answer.refused
      (delivered.answered).marked (notes before.notes stands.lines stands.refused_lines stands.told)).counted;
}

last_place : (script line : List ℕ) → lines_of script ≡ ended_lines script ++ line ∷ [] → IsAtLine 0 script script
    (ended_lines script) line
last_place script line all = record {
  later = [];
  lines = all;
  through = script;
  ahead = [];
  parts = sym (append-nil script);
  through_lines = all;
  ends = inr refl;
  short = omega arith;
}

-- a stop at the last line
pub closes_broken : {old new : RunShown} {was : Reading} {told : LineCounts} → new.files ≡ old.files →
    ((line : List ℕ) → Holds was.line line →
    0 < length line) → (stop : LineStop) →
    ((line : List ℕ) → Holds was.line line → BreaksLine (without_notes old) (without_notes new) was.script line stop) →
    (stop ≢ Memory → told ≡ was.counts) → (stop ≢ Memory → new.notes ≡ old.notes) →
    Closes old new was (stopped_at (stop_of stop) told)
closes_broken same some stop broken unchanged silent = record {
  on = λ before script stands.
      leaves_broken same (last_place script (open_line script) (one_last script some stands.held)) stop
      (broken (open_line script) stands.held) unchanged silent stands;
}

-- the same stop, where a `?` passes it on
pub closes_at : {old new : RunShown} {was : Reading} (result : Result ⊤ LineStop) (told : LineCounts)
    (stop : LineStop) → result ≡ Err stop → Closes old new was (stopped_at (stop_of stop) told) →
    Closes old new was (last_result result told)
closes_at {old = old} {new = new} {was = was} result told stop is closes =
    subst (λ v. Closes old new was (last_result v told)) (sym is) closes
