use Rattle.script_lang.proofs.FileLemmas.{file_read}
use Rattle.script_lang.proofs.words.file.Goals as goal

pub returns : goal.returns
returns c = file_read _ c.args.word.now c.from_utf8.result c.ok.result c.ok.ensures.value c.from_utf8.ensures.cases c.if-not-is_file.ensures
