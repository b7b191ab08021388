-- What is told of faults so far.
use Rattle.std.specs.Prelude.{◌≡◌, ℕ, ◌-◌, List, ◌++◌, Result, Ok, String, length, string_bytes, take}
use Rattle.std.specs.declared.alloc.AllocError.{AllocError}
use Rattle.std.specs.declared.alloc.Global.{Global}
use Rattle.std.specs.Borrow.{Bor}
use Rattle.std.specs.Fn.{FnReturnsAt, Shared}
use Rattle.std.specs.List.{AllZip}
use Rattle.diagnostics.specs.FaultLines.{lines_with, more_line}

-- the text tells all of these faults behind what stood there before, each in a line
pub record TellsAll {A : Type 0} (Says : A → List ℕ → Type 0) (faults : List A) (before text : List ℕ) : Type 0 where
  pub words : List (List ℕ)
  pub says : AllZip Says faults words
  pub is : text ≡ before ++ lines_with words

-- behind what stood there before, the text tells the first of these faults, at most so many, each in a line, and then how many more
-- there are
pub record AddsLines {A : Type 0} (Says : A → List ℕ → Type 0) (most : ℕ) (faults : List A) (before text : List ℕ) : Type 0 where
  pub words : List (List ℕ)
  pub says : AllZip Says (take most faults) words
  pub is : text ≡ before ++ (lines_with words ++ more_line (length faults - most))

-- a call with this fault may give these words
pub record GivesWords {F A : Type 0} (calls : Shared F (Bor A × Unit {0}) (Result (String Global) AllocError)) (words_of : F) (fault : A) (words : List ℕ) : Type 0 where
  pub text : String Global
  pub gives : FnReturnsAt calls words_of fault (Ok text)
  pub is : string_bytes text ≡ words
