use Rattle.pap_cli.proofs.WordLemmas.{no_form}
use Rattle.pap_cli.proofs.words.read_file_words.Goals as goal

pub returns-in-None : goal.returns-in-None
returns-in-None c = no_form c.args.words.now c.command-item.result c.as_str.result.now c.in_ok-values-in-once.field-0 c.command-item.is c.as_str.ensures.value c.in-once.is c.in_ok-values-in-once.ensures c.in-None.is
