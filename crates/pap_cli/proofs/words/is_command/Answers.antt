use Rattle.pap_cli.proofs.WordLemmas.{only_word}
use Rattle.pap_cli.proofs.words.is_command.Goals as goal

pub returns-in-len1 : goal.returns-in-len1
returns-in-len1 c =
    only_word c.args.words.now c.command-item.result c.as_str.result.now c.args.name.now c.eq.result c.in-len1.len_at_least c.in-len1.len_below c.command-item.is
    c.as_str.ensures.value c.eq.ensures
