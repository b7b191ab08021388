-- The tags of a file, and by their numbers the comments before each.
use Rattle.std.specs.Prelude.{ℕ, ◌≡◌, ◌≤◌, List, [], ◌∷◌}
use Rattle.plan_notes.specs.declared.tag.Mark.{Mark}
use Rattle.plan_notes.specs.Edges.{Edge, edge}

-- where the mark's element begins or ends
abbrev pub edge_of : Mark → Edge
edge_of m = edge m.element m.is_end m.at

-- the comments of these tags, one tag after the other, are those from a number on, up to another and without it
abbrev pub HaveInTurn : ℕ → List Mark → ℕ → Type 0
HaveInTurn from [] to = from ≡ to
HaveInTurn from (mark ∷ marks) to =
    (mark.first ≡ from) × ((mark.first ≤ mark.last) × HaveInTurn mark.last marks to)

-- each of so many comments stands before one of the tags, in their order, or behind the last tag
pub record HaveComments (marks : List Mark) (count : ℕ) : Type 0 where
  pub behind : ℕ
  pub in_turn : HaveInTurn 0 marks behind
  pub within : behind ≤ count
