-- What files answer, as the call's stop.
use Rattle.outside.specs.declared.traits.FileAnswer.{FileAnswer}
use Rattle.outside.specs.declared.traits.FileAnswer.TheVariants as files
use Rattle.author_cli.specs.declared.stop.Stop.{Stop}
use Rattle.author_cli.specs.declared.stop.Stop.TheVariants as stops

-- why a call stops at a file that isn't read
abbrev pub stop_of_file : FileAnswer → Stop
stop_of_file files.Failed = stops.File
stop_of_file files.Memory = stops.Memory
