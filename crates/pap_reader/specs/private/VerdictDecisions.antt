-- The verdict on each tag of a text, from left to right, and the tree that is built on the way.
use Rattle.std.specs.Prelude.{ℕ, Bool, nat_lt, ◌≤◌, Option, Some, None, Result, Ok, Err, List, [], ◌∷◌, ◌++◌, map, if◌then◌else◌}
use Rattle.std.specs.List.{list_all}
use Rattle.pap_reader.specs.declared.fault.Which.{Which}
use Rattle.pap_reader.specs.declared.fault.ReadFault.{ReadFault}
use Rattle.pap_reader.specs.declared.fault.ReadFault.TheVariants as faults
use Rattle.pap_reader.specs.Structure.{Shape}
use Rattle.pap_reader.specs.private.NestingDecisions.{Open, steps, is_ended}
use Rattle.pap_reader.specs.Tags.{Attribute}
use Rattle.pap_reader.specs.Tokens.{PlacedTag}
use Rattle.pap_reader.specs.Marks.{Mark, begins, ends, marks_of, shape}
use Rattle.pap_reader.specs.Attributes.{mark_is_right}
use Rattle.pap_reader.specs.Trees.{ElementTree}
use Rattle.pap_reader.specs.Meaning.{Piece, nothing, both, says, piece_tree}
use Rattle.pap_reader.specs.Limits.{most, tested}
use Rattle.pap_reader.specs.private.CountDecisions.{tally}

-- an open element's attributes, and what its content says so far
pub record Work : Type 0 where
  pub attributes : List Attribute
  pub piece : Piece

abbrev pub with_piece : Work → Piece → Work
with_piece w p = record { attributes = w.attributes; piece = both w.piece p }

abbrev pub build : List Work → Mark → List Work
build ws (begins e attributes) = record { attributes = attributes; piece = nothing } ∷ ws
build (w ∷ v ∷ ws) (ends e) = with_piece v (says e w.attributes w.piece) ∷ ws
build ws m = ws

abbrev pub builds : List Work → List Mark → List Work
builds ws [] = ws
builds ws (m ∷ ms) = builds (build ws m) ms

abbrev pub begun : List Work
begun = record { attributes = []; piece = nothing } ∷ []

abbrev pub built : List Work → ElementTree
built [] = piece_tree nothing
built (w ∷ ws) = piece_tree w.piece

-- the counts are within their limits
abbrev pub IsFew : List Shape → List Which → Type 0
IsFew ss [] = Unit {0}
IsFew ss (w ∷ ws) = (tally w ss ≤ most w) × IsFew ss ws

-- the first count that is beyond its limit
abbrev pub first_over : List Shape → List Which → Option Which
first_over ss [] = None
first_over ss (w ∷ ws) = if nat_lt (most w) (tally w ss) then Some w else first_over ss ws

abbrev pub within : Option Which → List Open → Result (List Open) ReadFault
within (Some w) os = Err (faults.Many w)
within None os = Ok os

abbrev pub entered : ℕ → Bool → Option Which → Option (List Open) → Result (List Open) ReadFault
entered at right over None = Err (faults.Element at)
entered at right over (Some os) = if right then within over os else Err (faults.Attribute at)

-- the open elements after a tag with these marks, or its refusal
abbrev pub verdict_on : List Shape → List Open → ℕ → List Mark → Result (List Open) ReadFault
verdict_on before os at ms =
    entered at (list_all mark_is_right ms) (first_over (before ++ map shape ms) tested) (steps before os (map shape ms))

abbrev pub verdict : List Shape → List Open → PlacedTag → Result (List Open) ReadFault
verdict before os t = verdict_on before os t.at (marks_of t.tag)

-- the tree at the end of the text, or its refusal
abbrev pub ending : ℕ → List Open → List Work → Result ElementTree ReadFault
ending end os ws = if is_ended os then Ok (built ws) else Err (faults.Element end)
