-- What an answer prints as.
use Rattle.std.specs.Prelude.{ℕ, List, codes}
use Rattle.outside.specs.declared.traits.FileAnswer.{FileAnswer}
use Rattle.outside.specs.declared.traits.FileAnswer.TheVariants.{Failed, Memory}

-- why a call of the files doesn't give a text, in words
abbrev pub answer_text : FileAnswer → List ℕ
answer_text Failed = codes "the file couldn't be read"
answer_text Memory = codes "out of memory"
