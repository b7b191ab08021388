-- An answer that was made, as the one that it stands for.
use Rattle.std.specs.Prelude.{◌≡◌, ℕ, List, Option, Result, Ok, Err}
use Rattle.std.specs.Option.{ForSome}
use Rattle.outside.specs.Told.{FileMap}
use Rattle.outside.specs.declared.traits.FileAnswer.{FileAnswer}
use Rattle.outside.specs.declared.traits.FileAnswer.TheVariants as files
use Rattle.author_cli.specs.declared.answer.Answer.{Answer as Made}
use Rattle.author_cli.specs.Words.{Form}
use Rattle.author_cli.specs.Answers.{Answer, Answers}
use Rattle.author_cli.specs.Ends.{words_of}
use Rattle.author_cli.specs.CallClauses.{Lacks}

abbrev pub answer_of : Made → Answer
answer_of made = record { text = made.text.items; reason = words_of made.reason }

-- what is made of the files that the words name: the answer on their bytes, or the failed name; without a fault that
-- name stays
abbrev pub Makes : Form → Option FileMap → (failed failed' : Option (List ℕ)) → Result Made FileAnswer → Type 0
Makes form told failed failed' (Ok made) =
    ForSome told (λ map. Answers form map (answer_of made)) × (failed' ≡ failed)
Makes form told failed failed' (Err files.Failed) = Lacks form told failed'
Makes form told failed failed' (Err files.Memory) = failed' ≡ failed
