-- What the body of a method of a plan has.
use Rattle.std.specs.Prelude.{◌<◌, ◌^◌}
use Rattle.pap_tree.specs.Flowchart.{Body, Flowchart}
use Rattle.pap_tree.specs.Statements.{written}
use Rattle.pap_types.specs.Counts.{AreSmallTerms}
use Rattle.pap_types.specs.Scopes.{scope_of}
use Rattle.pap_types.specs.Typing.{IsTypedBody}

-- the statements are typed, their expressions are small, and their numbers have 32 bits
pub record IsMethodBody (f : Flowchart) (b : Body) : Type 0 where
  pub typed : IsTypedBody (scope_of f) f.methods b
  pub small : AreSmallTerms b
  pub count : written b < 2 ^ 32
