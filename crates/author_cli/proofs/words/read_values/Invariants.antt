use Rattle.std.proofs.Common.{take}
use Rattle.author_cli.specs.Words.{texts}
use Rattle.payroll_records.specs.ValueWords.{AreValueWords}
use Rattle.author_cli.proofs.words.read_values.Given as goal

abbrev pub invariant-loop-word : goal.invariant-loop-word
invariant-loop-word l = AreValueWords (texts (take l.word-index l.words)) l.values
