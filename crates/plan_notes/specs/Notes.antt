-- The notes of a plan's file.
use Rattle.std.specs.Prelude.{◌≡◌, ◌≤◌, ℕ, List, [], ◌∷◌, ◌++◌, map, drop, vec_len, codes, option_map, String, string_bytes}
use Rattle.std.specs.declared.alloc.Global.{Global}
use Rattle.std.specs.List.{flat_map}
use Rattle.pap_reader.specs.Tags.{Attribute}
use Rattle.pap_reader.specs.Contents.{Token, AreTokens}
use Rattle.pap_reader.specs.Attributes.{attribute_value}
use Rattle.plan_notes.specs.declared.tag.Mark.{Mark}
use Rattle.plan_notes.specs.declared.notes.Notes.{Notes}
use Rattle.plan_notes.specs.Lines.{line_text}
use Rattle.plan_notes.specs.Marks.{edge_of, HaveInTurn}
use Rattle.plan_notes.specs.Walks.{comments_at}
use Rattle.plan_notes.specs.Contents.{NoteItem, line, place, items_told, root_of}

-- comments as what is told of a file
abbrev pub comment_items : List (String Global) → List NoteItem
comment_items comments = map (λ comment. line (string_bytes comment)) comments

-- a mark's comments, and then its place
abbrev pub items_at : List (String Global) → Mark → List NoteItem
items_at comments mark = comment_items (comments_at comments mark) ++ (place (edge_of mark) ∷ [])

-- what the notes hold, in their order: the comments of each mark before its place, and then those from a number on
unfoldable pub noted : Notes → ℕ → List NoteItem
noted notes behind =
    flat_map (items_at notes.comments.items) notes.marks.items ++ comment_items (drop behind notes.comments.items)

-- The root's name and version are those of these attributes, each in one line.
pub record SaysOfRoot (notes : Notes) (attributes : List Attribute) : Type 0 where
  pub name : option_map (λ text. string_bytes text) notes.name ≡ option_map line_text (attribute_value (codes "name") attributes)
  pub version : option_map (λ text. string_bytes text) notes.version ≡ option_map line_text (attribute_value (codes "version") attributes)

-- The notes hold the comments among the tokens that aren't blank, and the places where elements begin and end, in their order:
-- each comment before the first place behind it, or behind the last.
pub record IsNoted (tokens : List Token) (notes : Notes) : Type 0 where
  pub behind : ℕ
  pub in_turn : HaveInTurn 0 notes.marks.items behind
  pub within : behind ≤ vec_len notes.comments
  pub items : noted notes behind ≡ items_told tokens
  pub root : SaysOfRoot notes (root_of tokens)

-- They hold those of the file, up to its end or to a place where no token begins.
pub record HasNotes (file : List ℕ) (notes : Notes) : Type 0 where
  pub tokens : List Token
  pub rest : List ℕ
  pub are : AreTokens file tokens rest
  pub noted : IsNoted tokens notes
