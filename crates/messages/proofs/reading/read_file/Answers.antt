use Rattle.std.proofs.Common.{sym, ◌∙◌}
use Rattle.messages.specs.Fields.{file_names}
use Rattle.messages.proofs.FileLemmas.{name_known, name_unknown}
use Rattle.messages.proofs.ReadingLemmas.{known_file, unknown_file}
use Rattle.messages.proofs.reading.read_file.Goals as goal

pub returns-then-is_one_of : goal.returns-then-is_one_of
returns-then-is_one_of c =
    known_file (file_names c.args.files.now) c.args.told.now c.in-Some.file c.in-Some.reason.now c.in-Some.ensures
    (name_known c.args.files.now c.in-Some.file.now (sym c.is_one_of.ensures ∙ c.if-is_one_of.true)) c.requires

pub returns-else-is_one_of : goal.returns-else-is_one_of
returns-else-is_one_of c =
    unknown_file (file_names c.args.files.now) c.args.told.now c.in-Some.file.now c.in-Some.reason.now c.in-Some.ensures
    (name_unknown c.args.files.now c.in-Some.file.now (sym c.is_one_of.ensures ∙ c.if-is_one_of.false)) c.requires
