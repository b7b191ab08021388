use Rattle.messages.proofs.SplitLemmas.{split_first}
use Rattle.messages.proofs.cut.cut.Goals as goal

pub returns : goal.returns
returns c = split_first c.args.mark.now c.args.text.now c.split_once.result c.split_once.ensures.cases
