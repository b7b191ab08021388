-- What a run over a told script leaves, at each of its ends.
use Rattle.std.proofs.Common.{◌≡◌, List, [], ◌++◌, ℕ, ◌+◌, ◌≤◌, Bool, length, take, Option, refl, sym, ap, ◌∙◌, subst, append_assoc, arith, length-append}
use Rattle.std.specs.Prelude.{None, Some, is_some, if◌then◌else◌, Vec, Result, Ok, Err, ⊤}
use Rattle.std.specs.declared.alloc.Global.{Global}
use Rattle.std.specs.Io.KnownBytes.{Consumes, Keeps, IsAtEnd}
use Rattle.std.proofs.lemmas.List.{append-nil}
use Rattle.std.proofs.Math.Seq.{take-append_seam}
use Rattle.outside.specs.Told.{FileMap}
use Rattle.outside.proofs.Laws.{Appends-nothing, Consumes-then, Consumes-kept, Consumes-nothing}
use Rattle.std.specs.Option.{ForSome}
use Rattle.script_steps.specs.Steps.{Standing}
use Rattle.script_steps.specs.declared.stop.LineStop.{LineStop}
use Rattle.script_run.specs.Limits.{most_script, most_turn}
use Rattle.script_run.specs.Transcripts.{ended_lines, lines_of}
use Rattle.script_run.specs.Stops.{stop_of}
use Rattle.script_steps.specs.Shown.{shown}
use Rattle.script_run.specs.Notes.{NotesShown, RunShown, with_notes}
use Rattle.script_run.specs.private.RunClauses.{told_by, EndsAt}
use Rattle.script_run.specs.RunClauses.{Course, IsExactly, RunLeaves, RunMeets, RunResult}
use Rattle.script_run.specs.private.RunViews.{IsAtStart, Stands, GoesOn, Breaks, Closes, ClosesAt, TakesAll}
use Rattle.script_run.specs.private.RunViews.{stopped_at, last_result, read_result}
use Rattle.script_run.specs.declared.stop.Stop.{Stop}
use Rattle.script_run.specs.declared.stop.Stop.TheVariants as stops
use Rattle.script_run.specs.declared.reading.Reading.{Reading}
use Rattle.script_run.specs.declared.line_counts.LineCounts.{LineCounts}
use Rattle.script_run.proofs.Laws.{answered_of}
use Rattle.script_run.proofs.LineLaws.{Begins, lines_of-append}
use Rattle.script_run.proofs.StepLaws.{stands_first, leaves_ahead, front_so_far}

-- what is left of a told script
record IsLeft (script taken : List ℕ) (now : Option (List ℕ)) : Type 0 where
  pub rest : List ℕ
  pub left : now ≡ Some rest
  pub split : script ≡ taken ++ rest

split_told : (first now : Option (List ℕ)) (taken script : List ℕ) → first ≡ Some script → Consumes first now taken →
    IsLeft script taken now
split_told first None taken script e c = absurd (subst (λ v. Consumes v None taken) e c)
split_told first (Some rest) taken script e c = record {
  rest = rest;
  left = refl;
  split = subst (λ v. Consumes v
      (Some rest) taken) e c;
}

end_told : (now : Option (List ℕ)) (rest : List ℕ) → now ≡ Some rest → IsAtEnd now → rest ≡ []
end_told now rest e at_end = subst IsAtEnd e at_end

-- of a run over a source, between two turns
pub record Stood (before now : RunShown) (left left_now : Option (List ℕ)) (count : ℕ)
    (reading : Reading) : Type 0 where
  pub bytes : List ℕ
  pub consumed : Consumes left left_now bytes
  pub counted : length bytes ≡ count
  pub stands : Stands before now bytes reading

-- before the first turn
pub stood_first : (before : RunShown) (left : Option (List ℕ)) (reading : Reading) → IsAtStart reading →
    Stood before before left left 0 reading
stood_first before left reading first = record {
  bytes = [];
  consumed = Consumes-nothing left;
  counted = refl;
  stands = stands_first before reading first;
}

-- a turn's bytes were taken and answered
pub stood_on : {before mid now : RunShown} {l0 l l' : Option (List ℕ)} {count n : ℕ} {was is : Reading}
    (piece : List ℕ) → length piece ≡ n → Consumes l l' piece → GoesOn mid now was is piece →
    Stood before mid l0 l count was → Stood before now l0 l' (count + n) is
stood_on {before = before} {l0 = l0} {l = l} {l' = l'} piece size consumed goes stood = record {
  bytes = stood.bytes ++ piece;
  consumed = Consumes-then l0 l l' stood.bytes piece stood.consumed consumed;
  counted = omega (arith, length-append stood.bytes piece, stood.counted);
  stands = goes.on before stood.bytes stood.stands;
}

begins_at : (taken rest script : List ℕ) → script ≡ taken ++ rest → Begins (ended_lines taken) (lines_of script)
begins_at taken rest script split = subst (λ v. Begins (ended_lines taken) (lines_of v)) (sym split)
    (lines_of-append taken rest)

-- memory ran out before anything was done
pub meets_nothing : (before : RunShown) (left : Option (List ℕ)) (told : LineCounts) (script : List ℕ) →
    left ≡ Some script → RunMeets before before script left (stopped_at stops.Memory told)
meets_nothing before left told script is = record {
  taken = [];
  rest = script;
  split = refl;
  left_rest = is;
  within = λ not_long. omega arith;
  leaves = record {
    out = [];
    appended = Appends-nothing before.written;
    counted = omega arith;
    front = λ files e whole transcript. record { later = whole.text; text = refl; cost = omega arith };
    tells = tt;
  };
}

-- the source failed
pub meets_read : {before now : RunShown} {l0 l l' : Option (List ℕ)} {count : ℕ} {reading : Reading} →
    Stood before now l0 l count reading → Keeps l l' → count ≤ most_script →
    (script : List ℕ) → l0 ≡ Some script → RunMeets before now script l' (stopped_at stops.Read reading.counts)
meets_read {l0 = l0} {l = l} {l' = l'} stood kept within script is =
    let consumed = subst (λ v. Consumes l0 l' v) (append-nil stood.bytes)
    (Consumes-then l0 l l' stood.bytes [] stood.consumed (Consumes-kept l l' kept)) in
    let left = split_told l0 l' stood.bytes script is consumed in
    let stands = stood.stands in
    let begins = begins_at stood.bytes left.rest script left.split in
    record {
      taken = stood.bytes;
      rest = left.rest;
      split = left.split;
      left_rest = left.left;
      within = λ not_long. omega (arith, stood.counted);
      leaves = record {
        out = stands.out;
        appended = stands.appended;
        counted = stands.counted;
        front = λ files e whole transcript. front_so_far files
            (ended_lines stood.bytes) begins.more script _ begins.is (stands.answered files e) whole transcript;
        tells = λ files e. record {
          session = _;
          answered = answered_of files (ended_lines stood.bytes) _ (stands.answered files e);
          text = refl;
          cost = refl;
          told_is = stands.told;
        };
      };
    }

begins_so_far : (bytes piece rest script : List ℕ) → script ≡ (bytes ++ piece) ++ rest → Begins (ended_lines bytes)
    (lines_of script)
begins_so_far bytes piece rest script split = begins_at bytes (piece ++ rest) script (split
    ∙ append_assoc bytes piece rest)

exactly_at : (bytes cut : List ℕ) → bytes ≡ cut → (files : FileMap) (course : Course) →
    IsExactly files (ended_lines bytes) course → IsExactly files (ended_lines cut) course
exactly_at bytes cut same files course exact = subst (λ v. IsExactly files (ended_lines v) course) same exact

-- the script goes on past its limit
pub meets_long : {before now : RunShown} {l0 l l' : Option (List ℕ)} {count n : ℕ} {reading : Reading}
    (piece : List ℕ) →
    length piece ≡ n → Consumes l l' piece → Stood before now l0 l count reading →
    count ≡ most_script → count + n ≡ most_script + 1 → (script : List ℕ) → l0 ≡ Some script →
    RunMeets before now script l' (stopped_at stops.Long reading.counts)
meets_long {l0 = l0} {l = l} {l' = l'} piece size consumed stood full past script is =
    let taken = stood.bytes ++ piece in
    let left = split_told l0 l' taken script is (Consumes-then l0 l l' stood.bytes piece stood.consumed consumed) in
    let all = stood.counted ∙ full in
    let front : take most_script taken ≡ stood.bytes = ap (λ v. take v (stood.bytes ++ piece)) (sym all)
    ∙ take-append_seam stood.bytes piece in
    let stands = stood.stands in
    let begins = begins_so_far stood.bytes piece left.rest script left.split in
    record {
      taken = taken;
      rest = left.rest;
      split = left.split;
      left_rest = left.left;
      within = λ not_long. absurd (not_long refl);
      leaves = record {
        out = stands.out;
        appended = stands.appended;
        counted = stands.counted;
        front = λ files e whole transcript. front_so_far files
            (ended_lines stood.bytes) begins.more script _ begins.is (stands.answered files e) whole transcript;
        tells = record {
          past = omega (arith, length-append stood.bytes piece, stood.counted);
          exact = λ files e. exactly_at stood.bytes (take most_script taken) (sym front) files _ (record {
            session = _;
            answered = answered_of files (ended_lines stood.bytes) _ (stands.answered files e);
            text = refl;
            cost = refl;
            told_is = stands.told;
          });
        };
      };
    }

leaves_turn : {most : ℕ} {before now : RunShown} {script taken rest : List ℕ} {told : LineCounts} →
    most ≤ most_turn → (stop : LineStop) →
    RunLeaves most before now script taken rest (stopped_at (stop_of stop) told) →
    RunLeaves most_turn before now script taken rest (stopped_at (stop_of stop) told)
leaves_turn {most = most} {before = before} {now = now} {script = script} {taken = taken} {rest = rest} {told = told}
    fits stop leaves =
    subst (λ v. RunLeaves most_turn before now script v rest (stopped_at (stop_of stop) told)) (append-nil taken)
    (leaves_ahead [] (omega arith) stop leaves)

-- a stop within a turn's bytes
pub meets_break : {before mid now : RunShown} {l0 l l' : Option
    (List ℕ)} {count n : ℕ} {reading : Reading} {stop : LineStop} {told : LineCounts} (piece : List ℕ) →
    length piece ≡ n → n ≤ most_turn → count + n ≤ most_script →
    Consumes l l' piece → Stood before mid l0 l count reading → Breaks mid now reading told piece stop →
    (script : List ℕ) → l0 ≡ Some script → RunMeets before now script l' (stopped_at (stop_of stop) told)
meets_break {before = before} {now = now} {l0 = l0} {l = l} {l' = l'} {stop = stop} {told = told}
    piece size short within consumed stood breaks script is =
    let taken = stood.bytes ++ piece in
    let left = split_told l0 l' taken script is (Consumes-then l0 l l' stood.bytes piece stood.consumed consumed) in
    let leaves = leaves_turn (omega arith) stop (breaks.on before stood.bytes left.rest stood.stands) in
    record {
      taken = taken;
      rest = left.rest;
      split = left.split;
      left_rest = left.left;
      within = λ not_long. omega (arith, length-append stood.bytes piece, stood.counted);
      leaves = subst (λ v. RunLeaves most_turn before now v taken left.rest (stopped_at (stop_of stop) told))
          (sym left.split) leaves;
    }

leaves_end : {before now : RunShown} {script : List ℕ} (line : Result ⊤ LineStop) (told : LineCounts) →
    RunLeaves 0 before now script script [] (last_result line told) →
    RunLeaves most_turn before now script script [] (last_result line told)
leaves_end (Ok done) told leaves = record {
  out = leaves.out;
  appended = leaves.appended;
  counted = leaves.counted;
  front = leaves.front;
  tells = leaves.tells;
}
leaves_end (Err stop) told leaves = leaves_turn (omega arith) stop leaves

pub none_taken : (l l' : Option (List ℕ)) (buf : List ℕ) (count : ℕ) → count ≡ 0 → Consumes l l' (take count buf) →
    Consumes l l' []
none_taken l l' buf count none consumed = subst (λ v. Consumes l l' (take v buf)) none consumed

-- a told script that was taken to its end was taken whole
record IsTakenWhole (bytes script : List ℕ) (left : Option (List ℕ)) : Type 0 where
  pub whole : bytes ≡ script
  pub none_left : left ≡ Some []

all_taken : {before mid : RunShown} {l0 l' : Option (List ℕ)} {reading : Reading}
    (all : TakesAll before mid l0 l' reading) (script : List ℕ) →
    l0 ≡ Some script → IsTakenWhole all.bytes script l'
all_taken {l0 = l0} {l' = l'} all script is =
    let left = split_told l0 l' all.bytes script is all.consumed in
    let none = end_told l' left.rest left.left all.ends in
    record {
      whole = sym (left.split ∙ ap (λ v. all.bytes ++ v) none ∙ append-nil all.bytes);
      none_left = left.left
          ∙ ap (λ v. Some v) none;
    }

-- the script is at its end
pub meets_end : {before mid now : RunShown} {l0 l' : Option (List ℕ)} {reading : Reading} →
    TakesAll before mid l0 l' reading →
    (line : Result ⊤ LineStop) (told : LineCounts) → Closes mid now reading (last_result line told) →
    (script : List ℕ) → l0 ≡ Some script → RunMeets before now script l' (last_result line told)
meets_end {before = before} {mid = mid} {now = now} {l0 = l0} {l' = l'} {reading = reading}
    all line told closes script is =
    let taken = all_taken all script is in
    let stands = subst (λ v. Stands before mid v reading) taken.whole all.stands in
    record {
      taken = script;
      rest = [];
      split = sym (append-nil script);
      left_rest = taken.none_left;
      within = λ not_long. subst (λ v. length v ≤ most_script) taken.whole all.within;
      leaves = leaves_end line told (closes.on before script stands);
    }

-- what the script's lines have left at last
pub ends_at : {before mid : RunShown} {l0 l' : Option (List ℕ)} {reading : Reading} {standing : Standing}
    {kept : Option (Vec ℕ Global)} {told : LineCounts} →
    TakesAll before mid l0 l' reading →
    ClosesAt mid reading standing kept told → (script : List ℕ) → l0 ≡ Some script →
    ForSome before.files (λ files. EndsAt files script standing kept told)
ends_at {before = before} {mid = mid} {l0 = l0} {l' = l'} {reading = reading} all closes script is =
    closes.on before script (subst (λ v. Stands before mid v reading) (all_taken all script is).whole all.stands)

-- the same stop
pub meets_at : {before now : RunShown} {script : List ℕ} {left : Option (List ℕ)} {T : Type 0} {found : Stop}
    {told : LineCounts} (stop : Stop) → ◌≡◌ {A = Result T Stop} (Err found) (Err stop) →
    RunMeets before now script left (stopped_at found told) → RunMeets before now script left (stopped_at stop told)
meets_at {before = before} {now = now} {script = script} {left = left} {found = found} {told = told} stop is meets =
    let same : found ≡ stop = cc in
    subst (λ v. RunMeets before now script left (stopped_at v told)) same meets

-- a stop before the end, where a `?` passes it on
pub meets_err : {before now : RunShown} {script : List ℕ} {left : Option (List ℕ)} {stop : Stop}
    (result : Result ⊤ Stop) (told : LineCounts) → result ≡ Err stop →
    RunMeets before now script left (stopped_at stop told) → RunMeets before now script left (read_result result told)
meets_err {before = before} {now = now} {script = script} {left = left} result told is meets =
    subst (λ v. RunMeets before now script left (read_result v told)) (sym is) meets

-- ---- what is shown of the sink

pub told_same : (a b : Option (Vec ℕ Global)) (written : Option (List ℕ)) → is_some a ≡ is_some b → told_by a written ≡ told_by b written
told_same a b written same = ap (λ (t : Bool). if t then None else written) same

-- the same run, of which the same is shown
pub meets_shown : {files files' : Option FileMap} {failed failed' w w' u u' : Option (List ℕ)} {began steps : ℕ}
    {notes notes' : NotesShown} {script : List ℕ} {left : Option (List ℕ)} {result : RunResult} →
    w ≡ u → w' ≡ u' →
    RunMeets (with_notes (shown files failed w began) notes) (with_notes (shown files' failed' w' steps) notes')
    script left result →
    RunMeets (with_notes (shown files failed u began) notes) (with_notes (shown files' failed' u' steps) notes')
    script left result
meets_shown {files = files} {files' = files'} {failed = failed} {failed' = failed'} {w' = w'} {u = u} {began = began}
    {steps = steps} {notes = notes} {notes' = notes'} {script = script} {left = left} {result = result} p q meets =
    subst (λ v. RunMeets (with_notes (shown files failed u began) notes) (with_notes (shown files' failed' v steps) notes')
    script left result) q
    (subst (λ v. RunMeets (with_notes (shown files failed v began) notes)
    (with_notes (shown files' failed' w' steps) notes') script left result) p meets)
