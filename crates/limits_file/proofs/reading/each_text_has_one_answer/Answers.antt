use Rattle.limits_file.proofs.Laws.{file_once, file_some}
use Rattle.limits_file.proofs.reading.each_text_has_one_answer.Goals as goal

pub returns : goal.returns
returns c = λ bytes.
    let found = file_some bytes in
    record { answer = found.0; says = found.1; alone = λ other h. file_once bytes other found.0 h found.1 }
