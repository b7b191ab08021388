use Rattle.std.proofs.Common.{refl, []}
use Rattle.pap_reader.proofs.ReaderSteps.{all_new, few_start}
use Rattle.pap_reader.proofs.reader.Reader.new.Goals as goal

pub returns : goal.returns
returns c = record {
  parts = all_new c.new.result c.new-2.result.items (c.new.ensures [] tt) c.new-2.ensures.items;
  internals = refl;
  counts = c.none.ensures;
  few = few_start;
  plan = c.empty.ensures;
}
