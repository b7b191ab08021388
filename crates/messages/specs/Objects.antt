-- A message as an object of JSON, and lines of words as objects.
use Rattle.std.specs.Prelude.{◌≡◌, ℕ, ◌≤◌, ◌<◌, ◌^◌, List, [], ◌∷◌, ◌++◌, All, Option, None, Some, IfSome, codes, ⊤}
use Rattle.std.specs.Borrow.{Bor}
use Rattle.std.specs.Fmt.{decimal}
use Rattle.std.specs.List.{flat_map}
use Rattle.messages.specs.declared.message.Message.{Message}
use Rattle.messages.specs.declared.message.Position.{Position}
use Rattle.messages.specs.declared.message.Site.{Site}
use Rattle.messages.specs.Fields.{HasNoRefusal, IsFreeOf, IsReadFrom, IsSmallPosition}
use Rattle.messages.specs.Json.{json_string}
use Rattle.messages.specs.Lines.{message_words}

-- a further field that is a text
abbrev pub text_field : List ℕ → List ℕ → List ℕ
text_field name text = 0x2C ∷ (json_string name ++ 0x3A ∷ json_string text)

-- a further field that is a number
abbrev pub number_field : List ℕ → ℕ → List ℕ
number_field name number = 0x2C ∷ (json_string name ++ 0x3A ∷ decimal number)

-- the fields of a place in a file
abbrev pub position_fields : Option Position → List ℕ
position_fields None = []
position_fields (Some at) = number_field (codes "line") at.line ++ number_field (codes "column") at.column

-- the fields of a file and of the place in it
abbrev pub site_fields : Option Site → List ℕ
site_fields None = []
site_fields (Some site) = text_field (codes "file") site.file.now ++ position_fields site.at

-- the field of a text, where there is one
abbrev pub text_field_of : List ℕ → Option (Bor (List ℕ)) → List ℕ
text_field_of name None = []
text_field_of name (Some text) = text_field name text.now

-- the field of a number, where there is one
abbrev pub number_field_of : List ℕ → Option ℕ → List ℕ
number_field_of name None = []
number_field_of name (Some number) = number_field name number

-- the fields of a refusal and of the script's line
abbrev pub cause_fields : Message → List ℕ
cause_fields message =
    text_field_of (codes "code") message.code ++ (text_field_of (codes "place") message.place
    ++ number_field_of (codes "script_line") message.script_line)

-- the fields of a message behind what is wrong
abbrev pub further_fields : Message → List ℕ
further_fields message =
    text_field_of (codes "help") message.help ++ (site_fields message.site ++ cause_fields message)

-- the field of what is wrong
abbrev pub message_field : List ℕ → List ℕ
message_field wrong = json_string (codes "message") ++ 0x3A ∷ json_string wrong

-- a message as an object: what is wrong first, and of its further fields those that it has
abbrev pub json_text : Message → List ℕ
json_text message = 0x7B ∷ (message_field message.wrong.now ++ (further_fields message ++ 0x7D ∷ []))

-- the numbers of a message have at most 64 bits
pub record HasSmallNumbers (message : Message) : Type 0 where
  pub site : IfSome message.site (λ site. IfSome site.at IsSmallPosition)
  pub script_line : IfSome message.script_line (λ number. number < 2 ^ 64)

-- no message as an object has a control character: it stands in one line
abbrev pub HaveNoControl : Type 0
HaveNoControl = (message : Message) → HasSmallNumbers message → All (λ byte. 0x20 ≤ byte) (json_text message)

-- ---- lines of words as objects

-- a line with its line end
abbrev pub message_line : Message → List ℕ
message_line message = message_words message ++ 10 ∷ []

-- an object with its line end
abbrev pub object_line : Message → List ℕ
object_line message = json_text message ++ 10 ∷ []

-- no line end stands in these words
abbrev pub IsUnended : List ℕ → Type 0
IsUnended words = IsFreeOf words (10 ∷ [])

-- a message is read from one line of words, where these files are known
pub record IsOfOneLine (files : List (List ℕ)) (message : Message) : Type 0 where
  pub unended : IsUnended (message_words message)
  pub read : IsReadFrom files (message_words message) message

-- of some messages the first alone has the code and the place of a refusal
abbrev pub HasFirstRefusal : List Message → Type 0
HasFirstRefusal [] = ⊤
HasFirstRefusal (first ∷ further) = All HasNoRefusal further

-- these are the objects, a line each, of the messages that are read from the lines of these words, where these files are known; a rest
-- without a line end isn't a message
pub record AreObjects (files : List (List ℕ)) (words objects : List ℕ) : Type 0 where
  pub messages : List Message
  pub rest : List ℕ
  pub unended : IsUnended rest
  pub read : All (IsOfOneLine files) messages
  pub refusal : HasFirstRefusal messages
  pub lines : words ≡ flat_map message_line messages ++ rest
  pub are : objects ≡ flat_map object_line messages
