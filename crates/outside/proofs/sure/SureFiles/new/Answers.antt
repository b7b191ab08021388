use Rattle.outside.specs.Memory.{named_files}
use Rattle.outside.proofs.Names.{each_is_told}
use Rattle.outside.proofs.sure.SureFiles.new.Goals as goal

pub returns-clause-told : goal.returns-clause-told
returns-clause-told c = each_is_told (named_files c.args.files.items) c.requires.distinct
