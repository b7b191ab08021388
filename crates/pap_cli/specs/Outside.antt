-- The outside that a call is handed, and what it shows at one time.
use Rattle.std.specs.Prelude.{ℕ, List, Option}
use Rattle.outside.specs.Told.{FileMap}
use Rattle.outside.specs.declared.traits.Files.{Ghosts as FilesTell}
use Rattle.outside.specs.declared.traits.Sink.{Ghosts as SinkTells}
use Rattle.outside.specs.declared.traits.Source.{Ghosts as SourceTells}
use Rattle.script_steps.specs.Shown.{OutsideShown, shown}

-- the files, the source and the sink with their counts of faults, and the counter of steps; what an object holds is there
-- where it tells it
pub record Outside : Type 0 where
  pub files : Option FileMap
  pub failed : Option (List ℕ)
  pub file_faults : ℕ
  pub left : Option (List ℕ)
  pub source_faults : ℕ
  pub written : Option (List ℕ)
  pub sink_faults : ℕ
  pub steps : ℕ

-- the files, the source, the sink and the counter of steps themselves
pub record Objects (F R W : Type 0) : Type 0 where
  pub files : F
  pub source : R
  pub sink : W
  pub steps : ℕ

-- the four objects of a call, as one record
abbrev pub objects : {F R W : Type 0} → F → R → W → ℕ → Objects F R W
objects files source sink steps = record {
  files = files;
  source = source;
  sink = sink;
  steps = steps;
}

-- what the four objects show
abbrev pub outside_of : {F R W : Type 0} → FilesTell F → SourceTells R → SinkTells W → Objects F R W → Outside
outside_of of_files of_source of_sink o = record {
  files = of_files.told o.files;
  failed = of_files.failed o.files;
  file_faults = of_files.faults o.files;
  left = of_source.left o.source;
  source_faults = of_source.faults o.source;
  written = of_sink.written o.sink;
  sink_faults = of_sink.faults o.sink;
  steps = o.steps;
}

-- the files, the sink and the counter
abbrev pub shown_of : Outside → OutsideShown
shown_of o = shown o.files o.failed o.written o.steps

-- the sink and the counter alone
pub record Output : Type 0 where
  pub written : Option (List ℕ)
  pub steps : ℕ

-- what a sink and a counter show, as one record
abbrev pub output : Option (List ℕ) → ℕ → Output
output written steps = record { written = written; steps = steps }

-- what the sink and the counter show of an outside
abbrev pub output_of : Outside → Output
output_of o = output o.written o.steps
