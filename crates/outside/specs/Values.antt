-- What contracts see of the objects that hold their bytes in memory.
use Rattle.std.specs.Prelude.{ℕ, List, Option}

-- what contracts see of `MemFiles`
pub record FilesInMemory : Type 0 where
  -- the name and the content of each file
  pub files : List (List ℕ × List ℕ)
  -- the numbers of the calls that fail, counted from 1
  pub fails : List ℕ
  -- how many calls came, and how many of them failed
  pub calls : ℕ
  pub faults : ℕ
  -- the name that the last failed call asked for
  pub failed : Option (List ℕ)

-- what contracts see of `MemSource`
pub record SourceInMemory : Type 0 where
  -- the bytes that are left
  pub left : List ℕ
  -- how many of them a call gives at most
  pub most : ℕ
  -- the numbers of the calls that fail, counted from 1
  pub fails : List ℕ
  -- how many calls came, and how many of them failed
  pub calls : ℕ
  pub faults : ℕ

-- what contracts see of `MemSink`
pub record SinkInMemory : Type 0 where
  -- the bytes that were written
  pub written : List ℕ
  -- how many more there is room for
  pub room : ℕ
  -- how many a call takes at most
  pub most : ℕ
  -- the numbers of the calls that fail, counted from 1
  pub fails : List ℕ
  -- how many calls came, and how many of them failed
  pub calls : ℕ
  pub faults : ℕ

-- what contracts see of `SureSource`
pub record SureBytes : Type 0 where
  -- the bytes that are left
  pub left : List ℕ
  -- how many of them a call gives at most
  pub most : ℕ
