-- Messages as objects have no control characters.
use Rattle.std.proofs.Common.{ℕ, ◌≤◌, ◌<◌, ◌+◌, ◌%◌, ◌^◌, List, [], ◌∷◌, ◌++◌, All, Option, None, Some, arith}
use Rattle.std.specs.Prelude.{IfSome, codes}
use Rattle.std.specs.Borrow.{Bor}
use Rattle.std.specs.Fmt.{decimal}
use Rattle.std.specs.List.{flat_map}
use Rattle.std.proofs.lemmas.Fmt.{decimal_by_steps}
use Rattle.std.proofs.lemmas.List.Elements.{All-append}
use Rattle.messages.specs.declared.message.Message.{Message}
use Rattle.messages.specs.declared.message.Position.{Position}
use Rattle.messages.specs.declared.message.Site.{Site}
use Rattle.messages.specs.Json.{json_string, string_byte}
use Rattle.messages.specs.Fields.{IsSmallPosition}
use Rattle.messages.specs.Objects.{HasSmallNumbers, cause_fields, further_fields, json_text, message_field, number_field, number_field_of, position_fields, site_fields, text_field, text_field_of}

-- no byte of these is a control character
abbrev Shows : List ℕ → Type 0
Shows bytes = All (λ byte. 0x20 ≤ byte) bytes

both : (a b : List ℕ) → Shows a → Shows b → Shows (a ++ b)
both a b = All-append (λ byte. 0x20 ≤ byte) a b

none : Shows []
none = grind arith

one : (byte : ℕ) → 0x20 ≤ byte → Shows (byte ∷ [])
one byte shown = grind arith

front : (byte : ℕ) (rest : List ℕ) → 0x20 ≤ byte → Shows rest → Shows (byte ∷ rest)
front byte rest shown shows = both (byte ∷ []) rest (one byte shown) shows

byte_shows : (byte : ℕ) → Shows (string_byte byte)
byte_shows byte = grind arith

bytes_show : (text : List ℕ) → Shows (flat_map string_byte text)
bytes_show [] = none
bytes_show (byte ∷ rest) = both (string_byte byte) (flat_map string_byte rest) (byte_shows byte) (bytes_show rest)

string_shows : (text : List ℕ) → Shows (json_string text)
string_shows text =
    front 0x22 (flat_map string_byte text ++ 0x22 ∷ []) (omega arith)
    (both (flat_map string_byte text) (0x22 ∷ []) (bytes_show text) (one 0x22 (omega arith)))

decimal_shows : (number : ℕ) → number < 2 ^ 64 → Shows (decimal number)
decimal_shows number small =
    decimal_by_steps (λ n digits. Shows digits) (λ n below. one (48 + n) (omega arith))
    (λ n digits above shows. both digits ((48 + n % 10) ∷ []) shows (one (48 + n % 10) (omega arith))) number small

text_shows : (name text : List ℕ) → Shows (text_field name text)
text_shows name text =
    front 0x2C (json_string name ++ 0x3A ∷ json_string text) (omega arith)
    (both (json_string name) (0x3A ∷ json_string text) (string_shows name)
    (front 0x3A (json_string text) (omega arith) (string_shows text)))

number_shows : (name : List ℕ) (number : ℕ) → number < 2 ^ 64 → Shows (number_field name number)
number_shows name number small =
    front 0x2C (json_string name ++ 0x3A ∷ decimal number) (omega arith)
    (both (json_string name) (0x3A ∷ decimal number) (string_shows name)
    (front 0x3A (decimal number) (omega arith) (decimal_shows number small)))

text_of_shows : (name : List ℕ) (text : Option (Bor (List ℕ))) → Shows (text_field_of name text)
text_of_shows name None = none
text_of_shows name (Some text) = text_shows name text.now

number_of_shows : (name : List ℕ) (number : Option ℕ) → IfSome number (λ n. n < 2 ^ 64) → Shows (number_field_of name number)
number_of_shows name None small = none
number_of_shows name (Some number) small = number_shows name number small

position_shows : (at : Option Position) → IfSome at IsSmallPosition → Shows (position_fields at)
position_shows None small = none
position_shows (Some at) small =
    both (number_field (codes "line") at.line) (number_field (codes "column") at.column)
    (number_shows (codes "line") at.line small.line) (number_shows (codes "column") at.column small.column)

site_shows : (site : Option Site) → IfSome site (λ s. IfSome s.at IsSmallPosition) → Shows (site_fields site)
site_shows None small = none
site_shows (Some site) small =
    both (text_field (codes "file") site.file.now) (position_fields site.at)
    (text_shows (codes "file") site.file.now) (position_shows site.at small)

cause_shows : (message : Message) → HasSmallNumbers message → Shows (cause_fields message)
cause_shows message small =
    let place = text_field_of (codes "place") message.place in
    let line = number_field_of (codes "script_line") message.script_line in
    both (text_field_of (codes "code") message.code) (place ++ line) (text_of_shows (codes "code") message.code)
    (both place line (text_of_shows (codes "place") message.place)
    (number_of_shows (codes "script_line") message.script_line small.script_line))

further_show : (message : Message) → HasSmallNumbers message → Shows (further_fields message)
further_show message small =
    let site = site_fields message.site in
    let cause = cause_fields message in
    both (text_field_of (codes "help") message.help) (site ++ cause) (text_of_shows (codes "help") message.help)
    (both site cause (site_shows message.site small.site) (cause_shows message small))

wrong_shows : (wrong : List ℕ) → Shows (message_field wrong)
wrong_shows wrong =
    both (json_string (codes "message")) (0x3A ∷ json_string wrong) (string_shows (codes "message"))
    (front 0x3A (json_string wrong) (omega arith) (string_shows wrong))

pub message_shows : (message : Message) → HasSmallNumbers message → Shows (json_text message)
message_shows message small =
    let wrong = message_field message.wrong.now in
    let further = further_fields message in
    let end : List ℕ = 0x7D ∷ [] in
    front 0x7B (wrong ++ (further ++ end)) (omega arith)
    (both wrong (further ++ end) (wrong_shows message.wrong.now)
    (both further end (further_show message small) (one 0x7D (omega arith))))
