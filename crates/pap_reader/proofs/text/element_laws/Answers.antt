use Rattle.pap_reader.proofs.Laws.{one_tree, one_fault, never_both, always_one, small_tree}
use Rattle.pap_reader.proofs.text.element_laws.Goals as goal

pub returns : goal.returns
returns c = record { one_tree = one_tree; one_fault = one_fault; never_both = never_both; always_one = always_one; small_tree = small_tree }
