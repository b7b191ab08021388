-- A line's stop, and what files answer, as the run's stop.
use Rattle.outside.specs.declared.traits.FileAnswer.{FileAnswer}
use Rattle.outside.specs.declared.traits.FileAnswer.TheVariants as files
use Rattle.script_steps.specs.declared.stop.LineStop.{LineStop}
use Rattle.script_steps.specs.declared.stop.LineStop.TheVariants as line
use Rattle.script_run.specs.declared.stop.Stop.{Stop}
use Rattle.script_run.specs.declared.stop.Stop.TheVariants as stops

-- the run stops for the line's reason
abbrev pub stop_of : LineStop → Stop
stop_of line.File = stops.File
stop_of line.Write = stops.Write
stop_of line.Memory = stops.Memory

-- the run stops for the files' reason
abbrev pub stop_of_file : FileAnswer → Stop
stop_of_file files.Failed = stops.File
stop_of_file files.Memory = stops.Memory
