use Rattle.messages.specs.Fields.{file_names}
use Rattle.messages.proofs.ReadingLemmas.{read_from}
use Rattle.messages.proofs.reading.message_of.Goals as goal

pub returns-clause-read : goal.returns-clause-read
returns-clause-read c =
    read_from (file_names c.args.files.now) c.args.line.now c.read_program-program.result.1.now c.read_script_line-script_line.result.1.now
    c.read_site.result.1.now _ c.read_program-program.ensures c.read_script_line-script_line.ensures c.read_site.ensures
    c.split_help.ensures.words c.split_help.ensures.turn
