-- What contracts see of the sinks of answers and of messages.
use Rattle.std.specs.Prelude.{ℕ, ◌+◌, Bool, List, Option}
use Rattle.outside.specs.Told.{Appends}
use Rattle.outside.specs.declared.traits.Sink.{Ghosts as SinkTells}
use Rattle.messages.specs.declared.answer_sink.AnswerSink.{AnswerSink}
use Rattle.messages.specs.declared.form.MessageForm.{MessageForm}
use Rattle.messages.specs.declared.message_sink.MessageSink.{MessageSink}
use Rattle.messages.specs.Fields.{file_names}
use Rattle.messages.specs.Objects.{AreObjects}

-- the sink below answers
abbrev pub answers_below : {S : Type 0} → AnswerSink S → S
answers_below answers = answers.inner

-- whether of these answers the last refusal is kept for the next message
abbrev pub keeps_refusals : {S : Type 0} → AnswerSink S → Bool
keeps_refusals answers = answers.keeps

-- the sink below messages
abbrev pub sink_below : {S : Type 0} → MessageSink S → S
sink_below notes = notes.inner

-- the form in which they go out
abbrev pub message_form : {S : Type 0} → MessageSink S → MessageForm
message_form notes = notes.form

-- the names of the files that a message may be of as a whole
abbrev pub message_files : {S : Type 0} → MessageSink S → List (List ℕ)
message_files notes = file_names notes.files.now

-- how many calls failed: those of the sink below, and those that lacked memory
abbrev pub message_faults : {S : Type 0} → SinkTells S → MessageSink S → ℕ
message_faults of_sink notes = of_sink.faults notes.inner + notes.lost

-- the objects of these lines were appended, where these files are known
pub record PutsObjects (files : List (List ℕ)) (lines : List ℕ) (old new : Option (List ℕ)) : Type 0 where
  pub objects : List ℕ
  pub are : AreObjects files lines objects
  pub put : Appends old new objects
