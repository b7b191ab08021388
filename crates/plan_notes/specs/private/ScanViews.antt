-- What a scan has kept of the tokens before one.
use Rattle.std.specs.Prelude.{◌≡◌, ℕ, ◌≤◌, List, ◌++◌, vec_len, String}
use Rattle.std.specs.declared.alloc.Global.{Global}
use Rattle.pap_reader.specs.declared.element.Element.{Element}
use Rattle.pap_reader.specs.Tags.{Attribute}
use Rattle.pap_reader.specs.Marks.{begins}
use Rattle.plan_notes.specs.declared.notes.Notes.{Notes}
use Rattle.plan_notes.specs.declared.scan.Scan.{Scan}
use Rattle.plan_notes.specs.Marks.{HaveInTurn}
use Rattle.plan_notes.specs.Contents.{NoteItem, remark_items, root_at}
use Rattle.plan_notes.specs.Notes.{comment_items, noted, SaysOfRoot}

-- the root says the same
pub record SameRoot (old new : Notes) : Type 0 where
  pub name : new.name ≡ old.name
  pub version : new.version ≡ old.version

-- a comment with these bytes inside is appended, if it isn't blank
pub record AddsComment (old new : List (String Global)) (inside : List ℕ) : Type 0 where
  pub more : List (String Global)
  pub grown : new ≡ old ++ more
  pub lines : comment_items more ≡ remark_items inside

-- what an element's start tag says of the root
abbrev pub KeepsRoot : Notes → Notes → Element → List Attribute → Type 0
KeepsRoot old new element attributes =
    (before : List Attribute) → SaysOfRoot old before → SaysOfRoot new (root_at before (begins element attributes))

-- its notes hold these items, and say what these attributes say of the root
pub record Holds (scan : Scan) (items : List NoteItem) (root : List Attribute) : Type 0 where
  pub in_turn : HaveInTurn 0 scan.notes.marks.items scan.first
  pub within : scan.first ≤ vec_len scan.notes.comments
  pub told : noted scan.notes scan.first ≡ items
  pub says : SaysOfRoot scan.notes root

-- it holds these items more, and what it says of the root is turned into this
abbrev pub Keeps : Scan → Scan → List NoteItem → (List Attribute → List Attribute) → Type 0
Keeps old new more turn =
    (items : List NoteItem) (root : List Attribute) → Holds old items root → Holds new (items ++ more) (turn root)
