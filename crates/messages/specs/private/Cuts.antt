-- Words that are cut, and what stands behind the cut.
use Rattle.std.specs.Prelude.{◌≡◌, ◌≢◌, ℕ, ◌<◌, ◌^◌, Bool, List, ◌++◌, length, Option, Some, String, bytes_eq, slice_index, string_bytes}
use Rattle.std.specs.Fmt.{decimal}
use Rattle.std.specs.List.{list_any}
use Rattle.std.specs.declared.alloc.Global.{Global}
use Rattle.messages.specs.declared.message.Position.{Position}
use Rattle.messages.specs.declared.message.Program.{Program}
use Rattle.messages.specs.declared.message.Site.{Site}
use Rattle.messages.specs.Fields.{HasProgram, HasScriptLine, HasSite, IsSmallPosition}
use Rattle.messages.specs.Lines.{position_of, program_text, script_text, site_text}

-- a text is cut at the first such mark
pub record IsFirstCut (mark text front back : List ℕ) : Type 0 where
  pub parts : text ≡ front ++ (mark ++ back)
  pub first : (before behind : List ℕ) → length before < length front → text ≢ before ++ (mark ++ behind)

-- digits write no number below 2^64
abbrev pub WriteNoNumber : List ℕ → Type 0
WriteNoNumber digits = (number : ℕ) → number < 2 ^ 64 → digits ≢ decimal number

-- digits have no plus sign before them, and a zero stands first only alone
pub record IsPlain (digits : List ℕ) : Type 0 where
  pub unsigned : slice_index digits 0 ≢ 0x2B
  pub first : slice_index digits 0 ≡ 0x30 → length digits ≡ 1

-- a number and such a mark are cut off a text
pub record IsNumberCut (mark text : List ℕ) (number : ℕ) (rest : List ℕ) : Type 0 where
  pub small : number < 2 ^ 64
  pub parts : text ≡ decimal number ++ (mark ++ rest)

-- a text doesn't begin with a number and such a mark
abbrev pub HasNoNumber : List ℕ → List ℕ → Type 0
HasNoNumber mark text = (number : ℕ) (rest : List ℕ) → ¬ (IsNumberCut mark text number rest)

-- the name of a program is cut off a line that begins with one
pub record IsProgramCut (line : List ℕ) (program : Option Program) (numbered : List ℕ) : Type 0 where
  pub parts : line ≡ program_text program ++ numbered
  pub is : HasProgram line program

-- the number of a script's line is cut off a line that begins with one
pub record IsScriptCut (line : List ℕ) (script_line : Option ℕ) (told : List ℕ) : Type 0 where
  pub parts : line ≡ script_text script_line ++ told
  pub is : HasScriptLine line script_line

-- a line and a column are cut off a text
pub record IsPositionCut (text : List ℕ) (at : Position) (reason : List ℕ) : Type 0 where
  pub small : IsSmallPosition at
  pub parts : text ≡ position_of at ++ reason

-- a text doesn't begin with a line and a column
abbrev pub HasNoPosition : List ℕ → Type 0
HasNoPosition text = (at : Position) (reason : List ℕ) → ¬ (IsPositionCut text at reason)

-- a site is cut off words that begin with one
pub record IsSiteCut (files : List (List ℕ)) (told : List ℕ) (site : Option Site) (reason : List ℕ) : Type 0 where
  pub parts : told ≡ site_text site ++ reason
  pub is : HasSite files told site

-- a place in a file is cut off, whatever files are known
abbrev pub IsPlaceCut : List ℕ → Site → List ℕ → Type 0
IsPlaceCut told site reason = (files : List (List ℕ)) → IsSiteCut files told (Some site) reason

-- one of these files has this name
abbrev pub has_name : List (String Global) → List ℕ → Bool
has_name files name = list_any (λ file. bytes_eq (string_bytes file) name) files
