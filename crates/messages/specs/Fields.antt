-- Which fields a message has: they are cut out of its line.
use Rattle.std.specs.Prelude.{◌≡◌, ◌≢◌, ℕ, ◌<◌, ◌^◌, List, ◌++◌, map, Contains, Option, None, Some, option_copied, codes, String, string_bytes}
use Rattle.std.specs.declared.alloc.Global.{Global}
use Rattle.messages.specs.declared.message.Message.{Message}
use Rattle.messages.specs.declared.message.Position.{Position}
use Rattle.messages.specs.declared.message.Program.{Program}
use Rattle.messages.specs.declared.message.Site.{Site}
use Rattle.messages.specs.Lines.{behind_file, message_words, program_front, script_text, unnamed_words, unnumbered_words}
use Rattle.messages.specs.Turns.{IsCutAtTurn}

-- words begin so
abbrev pub BeginsWith : List ℕ → List ℕ → Type 0
BeginsWith words front = (rest : List ℕ) × (words ≡ front ++ rest)

-- this mark stands nowhere in these words
abbrev pub IsFreeOf : List ℕ → List ℕ → Type 0
IsFreeOf words mark = (front back : List ℕ) → words ≢ front ++ (mark ++ back)

-- ---- the name of a program

-- a line has the name of a program exactly where it begins with it, and a colon and a space
abbrev pub HasProgram : List ℕ → Option Program → Type 0
HasProgram line None = (program : Program) → ¬ (BeginsWith line (program_front program))
HasProgram line (Some program) = BeginsWith line (program_front program)

-- ---- the line of a script

-- a line begins with stdin:NUMBER and a colon and a space, where the number is below 2^64
pub record BeginsWithScriptLine (line : List ℕ) (number : ℕ) : Type 0 where
  pub small : number < 2 ^ 64
  pub begins : BeginsWith line (script_text (Some number))

-- a line has the number of a script's line exactly where it begins with one
abbrev pub HasScriptLine : List ℕ → Option ℕ → Type 0
HasScriptLine line None = (number : ℕ) → ¬ (BeginsWithScriptLine line number)
HasScriptLine line (Some number) = BeginsWithScriptLine line number

-- ---- the place in a file

-- the numbers of a place have at most 64 bits, as all of the programs have
pub record IsSmallPosition (at : Position) : Type 0 where
  pub line : at.line < 2 ^ 64
  pub column : at.column < 2 ^ 64

-- words begin with FILE:LINE:COLUMN and a colon and a space, where FILE has no colon, and LINE and COLUMN are below 2^64
pub record BeginsWithPlace (words file : List ℕ) (at : Position) : Type 0 where
  pub begins : BeginsWith words (file ++ behind_file (Some at))
  pub name : IsFreeOf file (codes ":")
  pub small : IsSmallPosition at

-- words begin with FILE and a colon and a space, where FILE is one of these files and has no colon before a space
pub record BeginsWithFile (files : List (List ℕ)) (words file : List ℕ) : Type 0 where
  pub begins : BeginsWith words (file ++ behind_file None)
  pub name : IsFreeOf file (codes ": ")
  pub known : Contains files file

-- words begin with no place in a file
abbrev pub HasNoPlace : List ℕ → Type 0
HasNoPlace words = (file : List ℕ) (at : Position) → ¬ (BeginsWithPlace words file at)

-- words have this file and this place in it: a place goes before a file as a whole
abbrev pub HasFile : List (List ℕ) → List ℕ → List ℕ → Option Position → Type 0
HasFile files words file None = HasNoPlace words × BeginsWithFile files words file
HasFile files words file (Some at) = BeginsWithPlace words file at

-- words have a site exactly where they begin with a place in a file or with one of these files
abbrev pub HasSite : List (List ℕ) → List ℕ → Option Site → Type 0
HasSite files words None = HasNoPlace words × ((file : List ℕ) → ¬ (BeginsWithFile files words file))
HasSite files words (Some site) = HasFile files words site.file.now site.at

-- ---- a message

-- files by their names
abbrev pub file_names : List (String Global) → List (List ℕ)
file_names files = map (λ file. string_bytes file) files

-- a message is read from this line, where these files are known: its fields put together are the line, and each is there exactly where
-- the words at which it stands begin with it
pub record IsReadFrom (files : List (List ℕ)) (line : List ℕ) (message : Message) : Type 0 where
  pub words : line ≡ message_words message
  pub program : HasProgram line message.program
  pub script_line : HasScriptLine (unnamed_words message) message.script_line
  pub site : HasSite files (unnumbered_words message) message.site
  pub help : IsCutAtTurn message.wrong.now message.help

-- it has neither the code nor the place of a refusal, which don't stand in a line
pub record HasNoRefusal (message : Message) : Type 0 where
  pub code : message.code ≡ None
  pub place : message.place ≡ None

-- a site by the name of its file and the place in it
abbrev pub site_parts : Option Site → Option (List ℕ × Option Position)
site_parts None = None
site_parts (Some site) = Some (site.file.now, site.at)

-- two messages have the same fields besides the code and the place of a refusal
pub record HaveSameFields (one other : Message) : Type 0 where
  pub wrong : one.wrong.now ≡ other.wrong.now
  pub help : option_copied one.help ≡ option_copied other.help
  pub program : one.program ≡ other.program
  pub site : site_parts one.site ≡ site_parts other.site
  pub script_line : one.script_line ≡ other.script_line

-- all messages that are read from one line have the same fields
abbrev pub HaveOneReading : Type 0
HaveOneReading = (files : List (List ℕ)) (line : List ℕ) (one other : Message)
    → IsReadFrom files line one → IsReadFrom files line other → HaveSameFields one other
