-- What the private functions say of words.
use Rattle.std.specs.Prelude.{◌≡◌, false, List, [], ◌∷◌, map, IsTrue, Result, MatchResult, ⊤}
use denote.Ref.{Bor}
use Rattle.payroll_records.specs.Tables.{Text}
use Rattle.script_lang.specs.Commands.{asked_of}
use Rattle.script_lang.specs.Fields.{Field, IsGood, fault_of}
use Rattle.script_lang.specs.Lines as lines
use Rattle.script_lang.specs.Lines.{Ask, AreWrong, IsFirstFault, takes_words, fields_of}
use Rattle.script_lang.specs.declared.command.Command.{Command}
use Rattle.script_lang.specs.declared.fault.LineFault.{LineFault}
use Rattle.script_lang.specs.declared.fault.LineFault.TheVariants as fault
use Rattle.script_lang.specs.declared.words.Verb.{Verb}
use Rattle.script_lang.specs.declared.words.Verb.TheVariants as code

abbrev pub texts : List (Bor Text) → List Text
texts words = map (λ word. word.now) words

-- a part of a line is a word where it has a byte
abbrev pub counted : Text → List Text
counted [] = []
counted (b ∷ part) = (b ∷ part) ∷ []

abbrev pub verb_of : Verb → lines.Verb
verb_of code.Plan = lines.plan
verb_of code.Drop = lines.drop
verb_of code.Add = lines.add
verb_of code.Change = lines.change
verb_of code.Withdraw = lines.withdraw
verb_of code.Load = lines.load
verb_of code.Report = lines.report
verb_of code.Work = lines.work
verb_of code.Trace = lines.trace
verb_of code.File = lines.filing
verb_of code.Owed = lines.owed
verb_of code.Open = lines.opening
verb_of code.Try = lines.trial

-- the result is what the words ask for, or what is wrong with them
abbrev pub Answers : List Text → Result Command LineFault → Type 0
Answers words result = MatchResult result (λ command. Ask words (asked_of command)) (AreWrong words)

-- the field is not good, and has this fault
abbrev pub Breaks : Field → LineFault → Type 0
Breaks field f = (IsGood field → ⊥) × (f ≡ fault_of field)

-- the first fault of some fields
abbrev pub BreaksIn : List Field → LineFault → Type 0
BreaksIn fields (fault.Memory error) = ⊤
BreaksIn fields other = IsFirstFault fields other

-- what is wrong with the words behind a command's first
abbrev pub IsFaultOf : lines.Verb → List Text → LineFault → Type 0
IsFaultOf verb rest fault.Words = takes_words verb rest ≡ false
IsFaultOf verb rest (fault.Memory error) = ⊤
IsFaultOf verb rest other = IsTrue (takes_words verb rest) × IsFirstFault (fields_of verb rest) other
