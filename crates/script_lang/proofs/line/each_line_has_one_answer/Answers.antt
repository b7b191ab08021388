use Rattle.script_lang.proofs.Laws.{line_once, line_some}
use Rattle.script_lang.proofs.line.each_line_has_one_answer.Goals as goal

pub returns : goal.returns
returns c = λ line.
    let found = line_some line in
    record { answer = found.0; says = found.1; alone = λ other h. line_once line other found.0 h found.1 }
