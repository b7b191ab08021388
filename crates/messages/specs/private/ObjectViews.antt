-- One message more as an object.
use Rattle.std.specs.Prelude.{◌≡◌, ℕ, List, [], ◌∷◌, ◌++◌, All}
use Rattle.std.specs.List.{flat_map}
use Rattle.messages.specs.declared.message.Message.{Message}
use Rattle.messages.specs.declared.objects.Refusal.{Refusal}
use Rattle.messages.specs.Fields.{HasNoRefusal, IsReadFrom}
use Rattle.messages.specs.Objects.{IsOfOneLine, IsUnended, json_text, message_line, object_line}

-- the object of the message of these words, with the code and the place of this refusal, was appended with its line end
pub record PutsObject (files : List (List ℕ)) (refusal : Refusal) (words old new : List ℕ) : Type 0 where
  pub message : Message
  pub read : IsReadFrom files words message
  pub code : message.code ≡ refusal.code
  pub place : message.place ≡ refusal.place
  pub put : new ≡ old ++ (json_text message ++ 10 ∷ [])

-- the objects of the lines of these words were appended, all without a refusal
pub record PutsLines (files : List (List ℕ)) (words old new : List ℕ) : Type 0 where
  pub messages : List Message
  pub rest : List ℕ
  pub unended : IsUnended rest
  pub read : All (IsOfOneLine files) messages
  pub refusal : All HasNoRefusal messages
  pub lines : words ≡ flat_map message_line messages ++ rest
  pub put : new ≡ old ++ flat_map object_line messages
