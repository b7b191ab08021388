-- What a run leaves by its result, over a source that tells its script.
use Rattle.std.specs.Prelude.{◌≡◌, ◌≢◌, ◌⊎◌, ℕ, ◌+◌, ◌-◌, ◌<◌, ◌≤◌, Bool, List, [], ◌∷◌, ◌++◌, length, take, All, Option, Some, Result, Ok, Err, ⊤}
use Rattle.std.specs.Option.{ForSome}
use Rattle.outside.specs.Told.{FileMap, Appends}
use Rattle.script_steps.specs.Steps.{Standing, Answer, Names, AreThere, IsStep}
use Rattle.script_steps.specs.LineSteps.{IsNextFile}
use Rattle.script_run.specs.Limits.{most_script, most_turn}
use Rattle.script_run.specs.Transcripts.{Session, lines_of, ended_lines, AreAnswered, IsTranscript}
use Rattle.script_run.specs.declared.turns.Ended.{Ended}
use Rattle.script_run.specs.declared.turns.Unwritten.{Unwritten}
use Rattle.script_run.specs.declared.stop.Stop.{Stop}
use Rattle.script_run.specs.declared.stop.Stopped.{Stopped}
use Rattle.script_run.specs.LineCounts.{AreCounted, counts_one}
use Rattle.script_run.specs.Notes.{IsToldOf, RunShown, Telling}
use Rattle.script_run.specs.declared.line_counts.LineCounts.{LineCounts}
use Rattle.script_run.specs.declared.stop.Stop.TheVariants as stops

-- how far a run came: the script, what was taken of it and what is left, what was written and counted since it began,
-- and what it tells of refused lines
pub record Course : Type 0 where
  pub script : List ℕ
  pub taken : List ℕ
  pub rest : List ℕ
  pub out : List ℕ
  pub spent : ℕ
  pub told : Telling

-- what was written is a prefix of this session's text, and at most its steps were counted
pub record IsFrontOfSession (session : Session) (out : List ℕ) (spent : ℕ) : Type 0 where
  pub later : List ℕ
  pub text : session.text ≡ out ++ later
  pub cost : spent ≤ session.steps

-- what was written are the answers to exactly these lines, exactly their steps were counted, and the run tells which of
-- them were refused
pub record IsExactly (files : FileMap) (lines : List (List ℕ)) (course : Course) : Type 0 where
  pub session : Session
  pub answered : AreAnswered files lines session
  pub text : course.out ≡ session.text
  pub cost : course.spent ≡ session.steps
  pub told_is : IsToldOf session.lines session.refused_lines course.told

-- what was written is the whole transcript, whose lines all name files that are there; exactly its steps were counted,
-- the truth value says whether an answer is a refusal, and the run tells which lines were refused
pub record IsWholeTranscript (files : FileMap) (course : Course) (refused : Bool) : Type 0 where
  pub session : Session
  pub is : IsTranscript files course.script session
  pub there : All (λ line. AreThere files line) (lines_of course.script)
  pub text : course.out ≡ session.text
  pub cost : course.spent ≡ session.steps
  pub mark : refused ≡ session.refused
  pub told_is : IsToldOf session.lines session.refused_lines course.told

-- what was written are the answers to these lines and a prefix of the next one's, which isn't the whole; exactly the
-- steps of all these answers were counted, and the run tells which of the lines before that one were refused
pub record IsCutAt (files : FileMap) (before : List (List ℕ)) (line : List ℕ) (course : Course) : Type 0 where
  pub session : Session
  pub answered : AreAnswered files before session
  pub to : Standing
  pub answer : Answer
  pub step : IsStep files session.standing line to answer
  pub count : ℕ
  pub within : count < length answer.text
  pub text : course.out ≡ session.text ++ take count answer.text
  pub cost : course.spent ≡ session.steps + answer.steps
  pub told_is : IsToldOf session.lines session.refused_lines course.told

-- the last byte is an LF
pub record EndsWithLf (bytes : List ℕ) : Type 0 where
  pub front : List ℕ
  pub is : bytes ≡ front ++ 10 ∷ []

-- the script has this line after these, and at most so many bytes were taken after its end
pub record IsAtLine (most : ℕ) (script taken : List ℕ) (before : List (List ℕ))
    (line : List ℕ) : Type 0 where
  pub later : List (List ℕ)
  pub lines : lines_of script ≡ before ++ line ∷ later
  pub through : List ℕ
  pub ahead : List ℕ
  pub parts : taken ≡ through ++ ahead
  pub through_lines : lines_of through ≡ before ++ line ∷ []
  pub ends : EndsWithLf through ⊎ (through ≡ script)
  pub short : length ahead ≤ most

-- the files failed at a name of a line, each that it names before it was there, the lines before it were answered, and
-- nothing else was written
pub record IsFileStop (most : ℕ) (told : Option FileMap) (course : Course)
    (failed : Option (List ℕ)) : Type 0 where
  pub before : List (List ℕ)
  pub line : List ℕ
  pub place : IsAtLine most course.script course.taken before line
  pub name : List ℕ
  pub names : Names line name
  pub in_order : ForSome told (λ files. IsNextFile files names.what name)
  pub failed_there : failed ≡ Some name
  pub exact : ForSome told (λ files. IsExactly files before course)

-- the sink failed in the answer to a line
pub record IsWriteStop (most : ℕ) (told : Option FileMap) (course : Course) : Type 0 where
  pub before : List (List ℕ)
  pub line : List ℕ
  pub place : IsAtLine most course.script course.taken before line
  pub cut : ForSome told (λ files. IsCutAt files before line course)

-- the source failed: exactly the lines were answered whose LF was taken
abbrev pub IsReadStop : Option FileMap → Course → Type 0
IsReadStop told course =
    ForSome told (λ files. IsExactly files (ended_lines course.taken) course)

-- the script is too long: one byte past its limit was taken, and exactly the lines were answered
-- whose LF is within it
pub record IsLongStop (told : Option FileMap) (course : Course) : Type 0 where
  pub past : length course.taken ≡ most_script + 1
  pub exact : ForSome told (λ files. IsExactly files (ended_lines (take most_script course.taken)) course)

-- the script was read to its end and its transcript was written whole
pub record IsEnd (told : Option FileMap) (course : Course) (refused : Bool) : Type 0 where
  pub read : course.rest ≡ []
  pub whole : ForSome told (λ files. IsWholeTranscript files course refused)

-- what each result says; where a line stops the run, at most so many bytes were taken after its end; where memory ran
-- out nothing is said, and nothing of the refused lines either
abbrev pub RunSays : ℕ → Option FileMap → Course → Option (List ℕ) → Result Bool Stop → Type 0
RunSays most told course failed (Ok refused) = IsEnd told course refused
RunSays most told course failed (Err stops.File) = IsFileStop most told course failed
RunSays most told course failed (Err stops.Read) = IsReadStop told course
RunSays most told course failed (Err stops.Write) = IsWriteStop most told course
RunSays most told course failed (Err stops.Memory) = ⊤
RunSays most told course failed (Err stops.Long) = IsLongStop told course

-- a run's result: how many lines were answered and refused at its end, or where it stopped
abbrev pub RunResult : Type 0
RunResult = Result LineCounts Stopped

-- how many lines a run answered and refused
abbrev pub counts_of : RunResult → LineCounts
counts_of (Ok counts) = counts
counts_of (Err stopped) = stopped.counts

-- whether a line was refused, or why the run stopped
abbrev pub ended_of : RunResult → Result Bool Stop
ended_of (Ok counts) = Ok (counts_one counts)
ended_of (Err stopped) = Err stopped.stop

-- what a run wrote, counted and told that took this of a script and left the rest: always a prefix of the transcript,
-- and what its result says
pub record RunLeaves (most : ℕ) (before after : RunShown) (script taken rest : List ℕ)
    (result : RunResult) : Type 0 where
  pub out : List ℕ
  pub appended : Appends before.written after.written out
  pub counted : before.steps ≤ after.steps
  pub front : ForSome before.files (λ files. (session : Session) → IsTranscript files script session
      → IsFrontOfSession session out (after.steps - before.steps))
  pub tells : RunSays most before.files
      (record {
        script = script;
        taken = taken;
        rest = rest;
        out = out;
        spent = after.steps - before.steps;
        told = record { counts = counts_of result; before = before.notes; after = after.notes };
      })
      after.failed (ended_of result)

-- what a run leaves over a source that tells this script: what was taken is a prefix of it, within the limit of scripts
pub record RunMeets (before after : RunShown) (script : List ℕ) (left : Option (List ℕ))
    (result : RunResult) : Type 0 where
  pub taken : List ℕ
  pub rest : List ℕ
  pub split : script ≡ taken ++ rest
  pub left_rest : left ≡ Some rest
  pub within : ended_of result ≢ Err stops.Long → length taken ≤ most_script
  pub leaves : RunLeaves most_turn before after script taken rest result

-- a result by why the run stopped
abbrev pub by_stop : {T : Type 0} → Result T Stopped → Result T Stop
by_stop (Ok value) = Ok value
by_stop (Err stopped) = Err stopped.stop

-- the result of a call as a run's, where the value at its end has how many lines there were
abbrev pub run_result : {T : Type 0} → (T → LineCounts) → Result T Stopped → RunResult
run_result counts_in (Ok value) = Ok (counts_in value)
run_result counts_in (Err stopped) = Err stopped

-- the lines of a script have left this, and so many there were
pub record EndsWritten (files : FileMap) (script : List ℕ) (ended : Ended) : Type 0 where
  pub session : Session
  pub is : IsTranscript files script session
  pub counted : AreCounted session.lines session.refused_lines ended.counts
  pub left : ended.script ≡ session.standing

-- the lines of a script whose answers weren't written have left this, and these were its refusals
pub record EndsUnwritten (files : FileMap) (script : List ℕ) (ended : Unwritten) : Type 0 where
  pub session : Session
  pub is : IsTranscript files script session
  pub mark : counts_one ended.counts ≡ session.refused
  pub counted : AreCounted session.lines session.refused_lines ended.counts
  pub refusals : (ended.refusals).items ≡ session.refusals
  pub left : ended.script ≡ session.standing

-- the script was answered whole, and this is what its transcript says
pub record IsFinished (files : FileMap) (script : List ℕ) (began steps : ℕ)
    (ended : Ended) : Type 0 where
  pub session : Session
  pub is : IsTranscript files script session
  pub mark : counts_one ended.counts ≡ session.refused
  pub counted : AreCounted session.lines session.refused_lines ended.counts
  pub cost : steps ≡ began + session.steps
  pub left : ended.script ≡ session.standing

-- the script wasn't answered whole: at most the steps of its transcript were counted
pub record IsSpentWithin (files : FileMap) (script : List ℕ) (began steps : ℕ) : Type 0 where
  pub session : Session
  pub is : IsTranscript files script session
  pub later : began ≤ steps
  pub within : steps ≤ began + session.steps
