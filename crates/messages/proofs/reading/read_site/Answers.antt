use Rattle.messages.specs.Fields.{file_names}
use Rattle.messages.proofs.reading.read_site.Goals as goal

pub returns-in-Some : goal.returns-in-Some
returns-in-Some c = c.in-Some.ensures (file_names c.args.files.now)
