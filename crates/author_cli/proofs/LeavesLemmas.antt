-- What a call leaves by its end, and the headline from it.
use Rattle.std.proofs.Common.{◌≡◌, ℕ, List, ◌++◌, refl, sym, ap, subst, arith}
use Rattle.std.specs.Prelude.{Option, Some, None, Ok, Err, IsErrOf}
use Rattle.outside.specs.Causes.{Rose, Still}
use Rattle.outside.specs.Told.{Appends, AppendsShort}
use Rattle.outside.specs.declared.traits.FileAnswer.{FileAnswer}
use Rattle.outside.specs.declared.traits.FileAnswer.TheVariants as files
use Rattle.author_cli.specs.declared.answer.Answer.{Answer as Made}
use Rattle.author_cli.specs.declared.stop.Stop.TheVariants as stops
use Rattle.author_cli.specs.Stops.{stop_of_file}
use Rattle.author_cli.specs.Words.{Form}
use Rattle.author_cli.specs.private.AnswerViews.{answer_of, Makes}
use Rattle.author_cli.specs.Ends.{Ended, words_of}
use Rattle.author_cli.specs.Outside.{Outside}
use Rattle.author_cli.specs.CallClauses.{Leaves, Headline, Carries}

-- ---- each end

-- no answer was made
pub leaves_unmade : (form : Form) (before after : Outside) (e : FileAnswer) (ended : Ended)
    → ended ≡ Err (stop_of_file e)
    → Makes form before.files before.failed after.failed (Err e) → after.written ≡ before.written
    → Leaves form before after ended
leaves_unmade form before after e ended is made same =
    subst (λ r. Leaves form before after r) (sym is) (by e made)
  where
    by : (e : FileAnswer) → Makes form before.files before.failed after.failed (Err e)
        → Leaves form before after (Err (stop_of_file e))
    by files.Failed lacks = record { written = same; lacks = lacks }
    by files.Memory kept = record { written = same; kept = kept }

-- an answer was made, and written whole
pub leaves_whole : (form : Form) (before after : Outside) (made : Made)
    → Makes form before.files before.failed after.failed (Ok made)
    → Appends before.written after.written made.text.items → Leaves form before after (Ok made.reason)
leaves_whole form before after made made_so appended =
    record { text = made.text.items; written = appended; answers = made_so.0; kept = made_so.1 }

-- the sink failed
pub leaves_cut : (form : Form) (before after : Outside) (made : Made)
    → Makes form before.files before.failed after.failed (Ok made)
    → AppendsShort before.written after.written made.text.items → Leaves form before after (Err stops.Write)
leaves_cut form before after made made_so part =
    record { answer = answer_of made; written = part; answers = made_so.0; kept = made_so.1 }

-- ---- the headline

rose_and_still : (before now : ℕ) → Rose before now → Still before now → ⊥
rose_and_still before now rose still = omega arith

appended_told : (first written : Option (List ℕ)) (before out : List ℕ) → first ≡ Some before
    → Appends first written out → written ≡ Some (before ++ out)
appended_told first None before out e a = absurd (subst (λ v. Appends v None out) e a)
appended_told first (Some now) before out e a = ap (λ v. Some v) (subst (λ v. Appends v (Some now) out) e a)

headline : (form : Form) (before after : Outside) (ended : Ended) → Leaves form before after ended
    → (IsErrOf ended stops.File → Rose before.file_faults after.file_faults)
    → (IsErrOf ended stops.Write → Rose before.sink_faults after.sink_faults) → Headline form before after ended
headline form before after (Ok reason) h file write = λ files told written said memory still_files still_sink. record {
  answer = record { text = h.text; reason = words_of reason };
  answers = h.answers files told;
  text = appended_told before.written after.written written h.text said h.written;
  reason = reason;
  is_ok = refl;
  words = refl;
}
headline form before after (Err stops.Words) h file write = absurd h
headline form before after (Err stops.File) h file write = λ files told written said memory still_files still_sink.
    absurd (rose_and_still before.file_faults after.file_faults (file refl) still_files)
headline form before after (Err stops.Write) h file write = λ files told written said memory still_files still_sink.
    absurd (rose_and_still before.sink_faults after.sink_faults (write refl) still_sink)
headline form before after (Err stops.Memory) h file write = λ files told written said memory still_files still_sink.
    absurd (memory refl)

pub carries : (form : Form) (before after : Outside) (ended : Ended) → Leaves form before after ended
    → (IsErrOf ended stops.File → Rose before.file_faults after.file_faults)
    → (IsErrOf ended stops.Write → Rose before.sink_faults after.sink_faults) → Carries form before after ended
carries form before after ended h file write =
    record { leaves = h; headline = headline form before after ended h file write }
