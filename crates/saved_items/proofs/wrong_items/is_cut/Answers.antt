use Rattle.saved_items.proofs.WrongLemmas.{cut_by}
use Rattle.saved_items.proofs.wrong_items.is_cut.Goals as goal

pub returns : goal.returns
returns c = cut_by c.args.bytes.now c.line_len.result c.line_len.ensures.count c.line_len.ensures.within
