use Rattle.std.proofs.Common.{◌≡◌, length, map, take}
use Rattle.payroll_records.specs.ValueWords.{AreValueWords}
use Rattle.payroll_records.specs.private.GivenViews.{given_values}
use Rattle.payroll_records.proofs.name_order.NameOrder.read.Given as goal

abbrev pub invariant-loop-word : goal.invariant-loop-word
invariant-loop-word l = record {
  counted : l.at ≡ l.word-index;
  long : length l.numbers.items ≡ length l.names;
  read : AreValueWords (map (λ word. word.now) (take l.word-index l.words)) (given_values l.names l.numbers.items l.given);
}
