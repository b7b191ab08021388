-- What the trail of a whole reading tells.
use Rattle.std.specs.Prelude.{◌≡◌, true, Option, Some, None, List, [], ◌∷◌, Result, IfOk, IsTrue}
use Rattle.pap_tree.specs.Names.{is_name}
use Rattle.pap_tree.specs.Tokens.{Word, Mark, Equals}
use Rattle.pap_expr.specs.declared.fault.ExprFault.{ExprFault}
use Rattle.pap_expr.specs.declared.reading.Reading.{Reading}
use Rattle.pap_expr.specs.declared.trail.Trail.{Trail}
use Rattle.pap_expr.specs.NodeBytes.{PlacedToken, StandsOn}
use Rattle.pap_expr.specs.private.Answers.{meaning_of}
use Rattle.pap_expr.specs.private.Tracks.{track_of, no_track}
use Rattle.pap_tree.specs.declared.name.Name.{Name}

-- the tokens before an expression: the name of its target and `=`
abbrev pub IsBefore : Option Name → List PlacedToken → Type 0
IsBefore None a = a ≡ []
IsBefore (Some w) a = IsTrue (is_name w) × ((t : PlacedToken) × (u : PlacedToken) × (a ≡ t ∷ u ∷ []) × (t.token ≡ Word w) × (u.token ≡ Mark Equals))

-- where a trail is kept and nothing stands in it yet, it then tells where the nodes stand of what is read
abbrev pub Traces : Trail → List PlacedToken → Trail → Result Reading ExprFault → Type 0
Traces old tokens new result = old.is_kept ≡ true → track_of old ≡ no_track → IfOk result (λ x. StandsOn tokens (meaning_of x) new.made.items)
