-- A fault of the files as a stop.
use Rattle.outside.specs.declared.traits.FileAnswer.{FileAnswer}
use Rattle.outside.specs.declared.traits.FileAnswer.TheVariants as files
use Rattle.script_steps.specs.declared.stop.LineStop.{LineStop}
use Rattle.script_steps.specs.declared.stop.LineStop.TheVariants as stops

-- why a line stops at a file that isn't read
abbrev pub stop_of : FileAnswer → LineStop
stop_of files.Failed = stops.File
stop_of files.Memory = stops.Memory
