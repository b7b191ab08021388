-- What one call makes of an object in memory.
use Rattle.std.specs.Prelude.{◌≡◌, ◌⊎◌, ℕ, ◌-◌, min, List, ◌++◌, length, take, drop, None, Some}
use Rattle.outside.specs.Memory.{next_count, file_named, IsListed}
use Rattle.outside.specs.Values.{FilesInMemory, SourceInMemory, SinkInMemory, SureBytes}

-- the next call is listed, or no file has this name
abbrev pub FilesFail : FilesInMemory → List ℕ → Type 0
FilesFail old name = IsListed old.fails old.calls ⊎ (file_named old.files name ≡ None)

-- the call read the file, or memory ran out
abbrev pub files_after_call : FilesInMemory → FilesInMemory
files_after_call old = record old { calls = next_count old.calls }

-- the call failed at this name
abbrev pub files_after_fault : FilesInMemory → List ℕ → FilesInMemory
files_after_fault old name =
    record old { calls = next_count old.calls; faults = next_count old.faults; failed = Some name }

-- how many bytes a call gives into a buffer of this size
abbrev pub take_count : SourceInMemory → (size : ℕ) → ℕ
take_count old size = min size (min old.most (length old.left))

-- the call gave so many bytes
abbrev pub source_after_take : SourceInMemory → ℕ → SourceInMemory
source_after_take old count = record old { left = drop count old.left; calls = next_count old.calls }

-- the call failed
abbrev pub source_after_fault : SourceInMemory → SourceInMemory
source_after_fault old = record old { calls = next_count old.calls; faults = next_count old.faults }

-- the next call is listed, or no room is left
abbrev pub SinkFails : SinkInMemory → Type 0
SinkFails old = IsListed old.fails old.calls ⊎ (old.room ≡ 0)

-- how many bytes of the piece a call takes
abbrev pub put_count : SinkInMemory → List ℕ → ℕ
put_count old piece = min (length piece) (min old.most old.room)

-- the call took so many bytes of the piece
abbrev pub sink_after_put : SinkInMemory → List ℕ → ℕ → SinkInMemory
sink_after_put old piece count =
    record old { written = old.written ++ take count piece; room = old.room - count; calls = next_count old.calls }

-- the call failed
abbrev pub sink_after_fault : SinkInMemory → SinkInMemory
sink_after_fault old = record old { calls = next_count old.calls; faults = next_count old.faults }

-- how many bytes a call gives into a buffer of this size
abbrev pub sure_take_count : SureBytes → (size : ℕ) → ℕ
sure_take_count old size = min size (min old.most (length old.left))

-- the call gave so many bytes
abbrev pub sure_after_take : SureBytes → ℕ → SureBytes
sure_after_take old count = record old { left = drop count old.left }
