use Rattle.std.proofs.Common.{take}
use Rattle.std.specs.Prelude.{All}
use Rattle.pap_cli.specs.BadWords.{GivesValue}
use Rattle.pap_cli.specs.Words.{texts}
use Rattle.pap_cli.proofs.bad_words.bad_value.Given as goal

abbrev pub invariant-loop-word : goal.invariant-loop-word
invariant-loop-word l = All GivesValue (texts (take l.word-index l.words))
