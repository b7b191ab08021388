use Rattle.pap_reader.proofs.Laws.{one_tags, tokens_in_order}
use Rattle.pap_reader.proofs.text.token_laws.Goals as goal

pub returns : goal.returns
returns c = record { one_list = one_tags; in_order = tokens_in_order }
