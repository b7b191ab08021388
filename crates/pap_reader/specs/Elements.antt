-- Which texts are plans' element texts, with which tree, and what is wrong with the others. Source: docs/PROFILE.md,
-- "Element texts": the part of XML in which the published flowcharts (Programmablaufplan Lohnsteuer as pseudocode) are
-- written.
use Rattle.std.specs.Prelude.{◌≡◌, ℕ, ◌<◌, ◌≤◌, ◌-◌, ◌⊎◌, true, List, [], length}
use Rattle.std.specs.List.{list_all}
use Rattle.pap_reader.specs.declared.fault.Which.TheVariants as which
use Rattle.pap_reader.specs.declared.fault.ReadFault.{ReadFault}
use Rattle.pap_reader.specs.declared.fault.ReadFault.TheVariants as faults
use Rattle.pap_reader.specs.Structure.{IsDocument}
use Rattle.pap_reader.specs.Tags.{Tag, IsTag}
use Rattle.pap_reader.specs.Tokens.{PlacedTag, placed, Reads, IsAlien}
use Rattle.pap_reader.specs.Marks.{marks, shapes}
use Rattle.pap_reader.specs.Attributes.{mark_is_right}
use Rattle.pap_reader.specs.Trees.{ElementTree}
use Rattle.pap_reader.specs.Meaning.{Piece, ElementsSay, piece_tree}
use Rattle.pap_reader.specs.Limits.{most, IsWithin}
use Rattle.pap_reader.specs.Faults.{Earns, IsClean}

-- The tags are nested as the table of elements says, have their attributes, and say this tree.
pub record HasTree (ts : List PlacedTag) (x : ElementTree) : Type 0 where
  pub document : IsDocument (shapes ts)
  pub right : list_all mark_is_right (marks ts) ≡ true
  pub piece : Piece
  pub says : ElementsSay (marks ts) piece
  pub tree : piece_tree piece ≡ x

-- The bytes are an element text with this tree.
pub record IsElementText (bytes : List ℕ) (x : ElementTree) : Type 0 where
  pub tags : List PlacedTag
  pub read : Reads bytes tags []
  pub tree : HasTree tags x

-- The same, within the limits.
pub record IsElements (bytes : List ℕ) (x : ElementTree) : Type 0 where
  pub text : IsElementText bytes x
  pub short : length bytes ≤ most which.Bytes
  pub few : IsWithin text.tags

-- ---- refusals

-- what is refused where the rest is left after clean tags: the end, a place where no token begins, or the next tag
abbrev pub StopsAt : ℕ → List PlacedTag → List ℕ → ReadFault → Type 0
StopsAt end before rest f =
    ((rest ≡ []) × (f ≡ faults.Element end) × (IsDocument (shapes before) → ⊥))
    ⊎ ((IsAlien rest × (f ≡ faults.Text (end - length rest)))
    ⊎ ((t : Tag) × (next : List ℕ) × IsTag rest t next × Earns before (placed end rest t) f))

-- The first token that earns a refusal earns this one.
pub record IsRefusedText (bytes : List ℕ) (f : ReadFault) : Type 0 where
  pub before : List PlacedTag
  pub rest : List ℕ
  pub read : Reads bytes before rest
  pub clean : IsClean before
  pub stop : StopsAt (length bytes) before rest f

-- What is wrong with the bytes: too many of them, before all else, or what the first token earns that earns a refusal.
abbrev pub IsFault : List ℕ → ReadFault → Type 0
IsFault bytes faults.Memory = ⊥
IsFault bytes (faults.Many which.Bytes) = most which.Bytes < length bytes
IsFault bytes f = (length bytes ≤ most which.Bytes) × IsRefusedText bytes f

-- the fault of the bytes, unless memory ran out
abbrev pub IsFaultOrMemory : List ℕ → ReadFault → Type 0
IsFaultOrMemory bytes faults.Memory = Unit {0}
IsFaultOrMemory bytes f = IsFault bytes f
