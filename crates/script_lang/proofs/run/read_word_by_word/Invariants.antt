use Rattle.std.proofs.Common.{◌≡◌, ◌+◌, take}
use Rattle.payroll_records.specs.ValueWords.{AreValueWords}
use Rattle.script_lang.specs.private.Views.{texts}
use Rattle.script_lang.proofs.run.read_word_by_word.Given as goal

abbrev pub invariant-loop-word : goal.invariant-loop-word
invariant-loop-word l = record {
  read : AreValueWords (texts (take l.word-index l.words)) l.values;
  counted : l.number ≡ l.word-index + 5;
}
