use Rattle.pap_reader.specs.Trees.{tree_of}
use Rattle.pap_reader.proofs.Laws.{small_tree}
use Rattle.plan_text.proofs.reading.read_plan.Goals as goal

pub read_expressions-requires : goal.read_expressions-requires
read_expressions-requires c = small_tree c.args.bytes.now (tree_of c.in-Ok.elements) c.in-Ok.ensures.read
