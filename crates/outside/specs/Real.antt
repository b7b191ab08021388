-- What contracts see of the adapters.
use Rattle.std.specs.Prelude.{ℕ, List, Option}
use Rattle.outside.specs.FileFaults.{failed_name}
use Rattle.outside.specs.declared.real.RealFiles.{RealFiles}
use Rattle.outside.specs.declared.real.StdSource.{StdSource}
use Rattle.outside.specs.declared.real.StdSink.{StdSink}
use Rattle.outside.specs.declared.sink_fault.SinkFault.{SinkFault}
use Rattle.outside.specs.declared.source_fault.SourceFault.{SourceFault}

-- how many calls failed
abbrev pub real_faults : {R F D : Type 0} → RealFiles R F D → ℕ
real_faults s = s.faults

-- the name of the last call that failed
abbrev pub real_failed : {R F D : Type 0} → RealFiles R F D → Option (List ℕ)
real_failed s = failed_name s.failed

-- how many calls failed
abbrev pub source_faults : {R : Type 0} → StdSource R → ℕ
source_faults s = s.faults

-- why the last call that failed did
abbrev pub source_fault : {R : Type 0} → StdSource R → Option SourceFault
source_fault s = s.fault

-- the reader below
abbrev pub source_reader : {R : Type 0} → StdSource R → R
source_reader s = s.inner

-- how many calls failed
abbrev pub sink_faults : {W : Type 0} → StdSink W → ℕ
sink_faults s = s.faults

-- why the last call that failed did
abbrev pub sink_fault : {W : Type 0} → StdSink W → Option SinkFault
sink_fault s = s.fault

-- the writer below
abbrev pub sink_writer : {W : Type 0} → StdSink W → W
sink_writer s = s.inner
