-- What the outside shows at a moment: the record that the clauses of answered lines, of runs and of calls speak of.
use Rattle.std.specs.Prelude.{ℕ, List, Option}
use Rattle.outside.specs.Told.{FileMap}
use Rattle.outside.specs.declared.traits.Files.{Ghosts as FilesTell}
use Rattle.outside.specs.declared.traits.Sink.{Ghosts as SinkTells}

-- what the files tell, the name at which they failed last, what was written, and the counter of steps
pub record OutsideShown : Type 0 where
  pub files : Option FileMap
  pub failed : Option (List ℕ)
  pub written : Option (List ℕ)
  pub steps : ℕ

-- what the files, the sink and the counter show, of these parts
abbrev pub shown : Option FileMap → Option (List ℕ) → Option (List ℕ) → ℕ → OutsideShown
shown files failed written steps = record {
  files = files;
  failed = failed;
  written = written;
  steps = steps;
}

-- what files, a sink and a counter show
abbrev pub shown_by : {F W : Type 0} → FilesTell F → SinkTells W → F → W → ℕ → OutsideShown
shown_by of_files of_sink files sink steps =
    shown (of_files.told files) (of_files.failed files) (of_sink.written sink) steps
