-- What the outside shows at one time, and when nothing of it was touched.
use Rattle.std.specs.Prelude.{◌≡◌, ℕ, List, Option}
use Rattle.outside.specs.Told.{FileMap}
use Rattle.outside.specs.declared.traits.Files.{Ghosts as FilesTell}
use Rattle.outside.specs.declared.traits.Sink.{Ghosts as SinkTells}

-- the files and the sink with their counts of faults; what an object holds is there where it tells it
pub record Outside : Type 0 where
  pub files : Option FileMap
  pub failed : Option (List ℕ)
  pub file_faults : ℕ
  pub written : Option (List ℕ)
  pub sink_faults : ℕ

-- what files and a sink show
abbrev pub outside_of : {F W : Type 0} → FilesTell F → SinkTells W → F → W → Outside
outside_of of_files of_sink files sink = record {
  files = of_files.told files;
  failed = of_files.failed files;
  file_faults = of_files.faults files;
  written = of_sink.written sink;
  sink_faults = of_sink.faults sink;
}

-- nothing outside was called
pub record IsUntouched {F W : Type 0} (files files' : F) (sink sink' : W) : Type 0 where
  pub files_same : files' ≡ files
  pub sink_same : sink' ≡ sink
