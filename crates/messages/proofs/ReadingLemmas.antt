-- Fields that are cut off a line, or that it doesn't have.
use Rattle.std.proofs.Common.{◌≡◌, ℕ, ◌<◌, ◌^◌, List, [], ◌∷◌, ◌++◌, None, Some, refl, sym, ap, subst, ◌∙◌, append_assoc, arith}
use Rattle.std.specs.Prelude.{◌≢◌, Contains, codes}
use Rattle.std.proofs.lemmas.List.{append_cancel_left}
use Rattle.std.specs.Borrow.{Bor}
use Rattle.std.specs.Fmt.{decimal}
use Rattle.messages.specs.declared.message.Message.{Message}
use Rattle.messages.specs.declared.message.Position.{Position}
use Rattle.messages.specs.declared.message.Program.TheVariants.{Papcalc, PapAuthor}
use Rattle.messages.specs.Fields.{BeginsWithFile, BeginsWithPlace, BeginsWithScriptLine, HasNoPlace, HasProgram, HasScriptLine, HasSite, IsFreeOf, IsReadFrom}
use Rattle.messages.specs.Lines.{behind_file, position_of, program_text, reason_words, script_text, site_text}
use Rattle.messages.specs.Turns.{IsCutAtTurn}
use Rattle.messages.specs.private.Cuts.{HasNoNumber, HasNoPosition, IsFirstCut, IsNumberCut, IsPositionCut, IsProgramCut, IsScriptCut, IsSiteCut, WriteNoNumber}
use Rattle.messages.proofs.CutLemmas.{cut_at_colon, cut_at_space, front_free, number_ends, one_number, only_cut}

-- ---- a number and a mark

-- where the mark stands nowhere there is none
pub unmarked_number : (mark text : List ℕ) → IsFreeOf text mark → HasNoNumber mark text
unmarked_number mark text free = λ number rest is. free (decimal number) rest is.parts

-- where the digits before the first mark write none
pub unread_number : (mark more text digits rest : List ℕ) → mark ≡ 0x3A ∷ more → IsFirstCut mark text digits rest
    → WriteNoNumber digits → HasNoNumber mark text
unread_number mark more text digits rest colon cut none = λ number back is.
    let fits = λ (m : List ℕ). IsFirstCut m text digits rest in
    let holds = λ (m : List ℕ). IsNumberCut m text number back in
    none number is.small (number_ends more text digits rest number back (subst fits colon cut) (subst holds colon is)).0

-- where they write a number it is cut off
pub read_number_cut : (mark text digits rest : List ℕ) (number : ℕ) → number < 2 ^ 64 → IsFirstCut mark text digits rest
    → digits ≡ decimal number → IsNumberCut mark text number rest
read_number_cut mark text digits rest number small cut is = record {
  small = small;
  parts = cut.parts ∙ ap (λ l. l ++ (mark ++ rest)) is;
}

-- ---- the name of a program

no_program : (line : List ℕ) → ((rest : List ℕ) → line ≢ codes "papcalc: " ++ rest)
    → ((rest : List ℕ) → line ≢ codes "pap_author: " ++ rest) → HasProgram line None
no_program line none nor Papcalc begins = none begins.0 begins.1
no_program line none nor PapAuthor begins = nor begins.0 begins.1

pub program_other : (line : List ℕ) → ((rest : List ℕ) → line ≢ codes "papcalc: " ++ rest)
    → ((rest : List ℕ) → line ≢ codes "pap_author: " ++ rest) → IsProgramCut line None line
program_other line none nor = record { parts = refl; is = no_program line none nor }

-- ---- the line of a script

pub script_parts : (number : ℕ) (told : List ℕ)
    → (codes "stdin:" ++ (decimal number ++ codes ": ")) ++ told ≡ codes "stdin:" ++ (decimal number ++ (codes ": " ++ told))
script_parts number told = ap (λ l. codes "stdin:" ++ l) (append_assoc (decimal number) (codes ": ") told)

pub script_other : (line : List ℕ) → ((rest : List ℕ) → line ≢ codes "stdin:" ++ rest) → IsScriptCut line None line
script_other line none = record {
  parts = refl;
  is = λ number begins. none (decimal number ++ (codes ": " ++ begins.begins.0)) (begins.begins.1 ∙ script_parts number begins.begins.0);
}

-- the number behind stdin: of a line that begins with a script's line
pub script_number : (line numbered : List ℕ) (number : ℕ) → line ≡ codes "stdin:" ++ numbered
    → (begins : BeginsWithScriptLine line number) → IsNumberCut (codes ": ") numbered number begins.begins.0
script_number line numbered number is begins = record {
  small = begins.small;
  parts = append_cancel_left (codes "stdin:") numbered (decimal number ++ (codes ": " ++ begins.begins.0))
      (sym is ∙ begins.begins.1 ∙ script_parts number begins.begins.0);
}

pub script_unread : (line numbered : List ℕ) → line ≡ codes "stdin:" ++ numbered → HasNoNumber (codes ": ") numbered
    → IsScriptCut line None line
script_unread line numbered is none = record {
  parts = refl;
  is = λ number begins. none number begins.begins.0 (script_number line numbered number is begins);
}

pub script_read : (line numbered : List ℕ) (number : ℕ) (told : List ℕ) → line ≡ codes "stdin:" ++ numbered
    → IsNumberCut (codes ": ") numbered number told → IsScriptCut line (Some number) told
script_read line numbered number told is cut =
    let parts = is ∙ ap (λ l. codes "stdin:" ++ l) cut.parts ∙ sym (script_parts number told) in
    record { parts = parts; is = record { small = cut.small; begins = (told, parts) } }

-- ---- a line and a column

position_parts : (at : Position) (reason : List ℕ)
    → position_of at ++ reason ≡ decimal at.line ++ (codes ":" ++ (decimal at.column ++ (codes ": " ++ reason)))
position_parts at reason =
    append_assoc (decimal at.line) (codes ":" ++ (decimal at.column ++ codes ": ")) reason
    ∙ ap (λ l. decimal at.line ++ (codes ":" ++ l)) (append_assoc (decimal at.column) (codes ": ") reason)

-- the line, and the column behind it
pub line_cut : (text : List ℕ) (at : Position) (reason : List ℕ) → IsPositionCut text at reason
    → IsNumberCut (codes ":") text at.line (decimal at.column ++ (codes ": " ++ reason))
line_cut text at reason is = record { small = is.small.line; parts = is.parts ∙ position_parts at reason }

pub position_unread : (text : List ℕ) → HasNoNumber (codes ":") text → HasNoPosition text
position_unread text none = λ at reason is. none at.line (decimal at.column ++ (codes ": " ++ reason)) (line_cut text at reason is)

pub column_unread : (text rest : List ℕ) (line : ℕ) → IsNumberCut (codes ":") text line rest → HasNoNumber (codes ": ") rest
    → HasNoPosition text
column_unread text rest line cut none = λ at reason is.
    let same = one_number [] text at.line line (decimal at.column ++ (codes ": " ++ reason)) rest (line_cut text at reason is) cut in
    none at.column reason (record { small = is.small.column; parts = sym same.1 })

pub position_read : (text rest reason : List ℕ) (line column : ℕ) → IsNumberCut (codes ":") text line rest
    → IsNumberCut (codes ": ") rest column reason → IsPositionCut text (record { line = line; column = column }) reason
position_read text rest reason line column cut more =
    let at : Position = record { line = line; column = column } in
    record {
      small = record { line = cut.small; column = more.small };
      parts = cut.parts ∙ ap (λ l. decimal line ++ (codes ":" ++ l)) more.parts ∙ sym (position_parts at reason);
    }

-- ---- a place in a file

place_parts : (file : List ℕ) (at : Position) (reason : List ℕ)
    → (file ++ behind_file (Some at)) ++ reason ≡ file ++ (codes ":" ++ (position_of at ++ reason))
place_parts file at reason = append_assoc file (codes ":" ++ position_of at) reason

-- a file with a place behind it ends at the first colon
pub place_cut : (told file : List ℕ) (at : Position) (reason : List ℕ) → told ≡ (file ++ behind_file (Some at)) ++ reason
    → BeginsWithPlace told file at → IsFirstCut (codes ":") told file (position_of at ++ reason)
place_cut told file at reason is place =
    subst (λ l. IsFirstCut (codes ":") l file (position_of at ++ reason)) (sym (is ∙ place_parts file at reason))
    (cut_at_colon [] file (position_of at ++ reason) place.name)

pub unmarked_place : (told : List ℕ) → IsFreeOf told (codes ":") → HasNoPlace told
unmarked_place told free = λ file at place.
    free file (position_of at ++ place.begins.0) (place.begins.1 ∙ place_parts file at place.begins.0)

-- the first colon stands behind the file
pub place_file : (told front rest file : List ℕ) (at : Position) → IsFirstCut (codes ":") told front rest
    → (place : BeginsWithPlace told file at) → (front ≡ file) × (rest ≡ position_of at ++ place.begins.0)
place_file told front rest file at cut place =
    only_cut (codes ":") told front rest file (position_of at ++ place.begins.0) cut
    (place_cut told file at place.begins.0 place.begins.1 place)

pub unread_place : (told front rest : List ℕ) → IsFirstCut (codes ":") told front rest → HasNoPosition rest → HasNoPlace told
unread_place told front rest cut none = λ file at place.
    none at place.begins.0 (record { small = place.small; parts = (place_file told front rest file at cut place).1 })

pub place_read : (files : List (List ℕ)) (told : List ℕ) (file : Bor (List ℕ)) (rest reason : List ℕ) (at : Position)
    → IsFirstCut (codes ":") told file.now rest → IsPositionCut rest at reason
    → IsSiteCut files told (Some (record { file = file; at = Some at })) reason
place_read files told file rest reason at cut position =
    let parts = cut.parts ∙ ap (λ l. file.now ++ (codes ":" ++ l)) position.parts ∙ sym (place_parts file.now at reason) in
    record {
      parts = parts;
      is = record {
        begins = (reason, parts);
        name = front_free (codes ":") told file.now rest (omega arith) cut;
        small = position.small;
      };
    }

-- ---- a file as a whole

pub unmarked_file : (files : List (List ℕ)) (told : List ℕ) → IsFreeOf told (codes ": ") → HasNoPlace told
    → IsSiteCut files told None told
unmarked_file files told free none = record {
  parts = refl;
  is = (none, λ file begins. free file begins.begins.0 (begins.begins.1 ∙ append_assoc file (codes ": ") begins.begins.0));
}

-- a file as a whole ends at the first colon with a space
pub whole_cut : (files : List (List ℕ)) (told file rest : List ℕ) → told ≡ (file ++ codes ": ") ++ rest
    → BeginsWithFile files told file → IsFirstCut (codes ": ") told file rest
whole_cut files told file rest is begins =
    subst (λ l. IsFirstCut (codes ": ") l file rest) (sym (is ∙ append_assoc file (codes ": ") rest))
    (cut_at_space file rest begins.name)

-- the first colon with a space stands behind the file
pub whole_file : (files : List (List ℕ)) (told front rest file : List ℕ) → IsFirstCut (codes ": ") told front rest
    → (begins : BeginsWithFile files told file) → (front ≡ file) × (rest ≡ begins.begins.0)
whole_file files told front rest file cut begins =
    only_cut (codes ": ") told front rest file begins.begins.0 cut
    (whole_cut files told file begins.begins.0 begins.begins.1 begins)

pub unknown_file : (files : List (List ℕ)) (told front rest : List ℕ) → IsFirstCut (codes ": ") told front rest
    → ¬ (Contains files front) → HasNoPlace told → IsSiteCut files told None told
unknown_file files told front rest cut unknown none = record {
  parts = refl;
  is = (none, λ file begins. unknown (subst (Contains files) (sym (whole_file files told front rest file cut begins).0) begins.known));
}

pub known_file : (files : List (List ℕ)) (told : List ℕ) (file : Bor (List ℕ)) (rest : List ℕ)
    → IsFirstCut (codes ": ") told file.now rest → Contains files file.now → HasNoPlace told
    → IsSiteCut files told (Some (record { file = file; at = None })) rest
known_file files told file rest cut known none =
    let parts = cut.parts ∙ sym (append_assoc file.now (codes ": ") rest) in
    record {
      parts = parts;
      is = (
        none,
        record {
          begins = (rest, parts);
          name = front_free (codes ": ") told file.now rest (omega arith) cut;
          known = known;
        },
      );
    }

-- ---- all of a line

pub read_from : (files : List (List ℕ)) (line numbered told reason : List ℕ) (message : Message)
    → IsProgramCut line message.program numbered → IsScriptCut numbered message.script_line told
    → IsSiteCut files told message.site reason → reason ≡ reason_words message → IsCutAtTurn message.wrong.now message.help
    → IsReadFrom files line message
read_from files line numbered told reason message program script site words turn =
    let is_told = site.parts ∙ ap (λ l. site_text message.site ++ l) words in
    let is_numbered = script.parts ∙ ap (λ l. script_text message.script_line ++ l) is_told in
    record {
      words = program.parts ∙ ap (λ l. program_text message.program ++ l) is_numbered;
      program = program.is;
      script_line = subst (λ l. HasScriptLine l message.script_line) is_numbered script.is;
      site = subst (λ l. HasSite files l message.site) is_told site.is;
      help = turn;
    }
