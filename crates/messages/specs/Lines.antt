-- A message as a line of words.
use Rattle.std.specs.Prelude.{ℕ, List, [], ◌++◌, Option, None, Some, codes}
use Rattle.std.specs.Borrow.{Bor}
use Rattle.std.specs.Fmt.{decimal}
use Rattle.messages.specs.declared.message.Message.{Message}
use Rattle.messages.specs.declared.message.Position.{Position}
use Rattle.messages.specs.declared.message.Program.{Program}
use Rattle.messages.specs.declared.message.Program.TheVariants.{Papcalc, PapAuthor}
use Rattle.messages.specs.declared.message.Site.{Site}

-- LINE:COLUMN and a colon and a space
abbrev pub position_of : Position → List ℕ
position_of at = decimal at.line ++ (codes ":" ++ (decimal at.column ++ codes ": "))

-- what stands behind a file's name: a place in it, or that it is the file as a whole
abbrev pub behind_file : Option Position → List ℕ
behind_file None = codes ": "
behind_file (Some at) = codes ":" ++ position_of at

-- FILE:LINE:COLUMN or FILE, and a colon and a space
abbrev pub site_text : Option Site → List ℕ
site_text None = []
site_text (Some site) = site.file.now ++ behind_file site.at

-- the name of a program, and a colon and a space
abbrev pub program_front : Program → List ℕ
program_front Papcalc = codes "papcalc: "
program_front PapAuthor = codes "pap_author: "

-- the same, where a program's name stands there
abbrev pub program_text : Option Program → List ℕ
program_text None = []
program_text (Some program) = program_front program

-- stdin:NUMBER and a colon and a space
abbrev pub script_text : Option ℕ → List ℕ
script_text None = []
script_text (Some number) = codes "stdin:" ++ (decimal number ++ codes ": ")

-- a semicolon and a space, and what helps
abbrev pub help_text : Option (Bor (List ℕ)) → List ℕ
help_text None = []
help_text (Some help) = codes "; " ++ help.now

-- what is wrong, and behind a semicolon what helps
abbrev pub reason_words : Message → List ℕ
reason_words message = message.wrong.now ++ help_text message.help

-- the line of a message without the number of a script's line: the place in a file, what is wrong, and what helps
abbrev pub unnumbered_words : Message → List ℕ
unnumbered_words message = site_text message.site ++ reason_words message

-- the line of a message without the name of a program: the script's line, the place in a file, what is wrong, and what helps
abbrev pub unnamed_words : Message → List ℕ
unnamed_words message = script_text message.script_line ++ unnumbered_words message

-- the line of a message: the name of a program, the script's line, the place in a file, what is wrong, and behind a semicolon what
-- helps
abbrev pub message_words : Message → List ℕ
message_words message = program_text message.program ++ unnamed_words message
