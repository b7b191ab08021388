-- What the private functions answer about sizes.
use Rattle.std.specs.Prelude.{◌≡◌}
use Rattle.pap_tree.specs.Term.{Term}
use Rattle.pap_tree.specs.Flowchart.{Body}
use Rattle.pap_compiler.specs.declared.sizes.Size.{Size}
use Rattle.pap_compiler.specs.CodeDecisions.{term_length, body_length}
use Rattle.pap_compiler.specs.Heights.{term_height, body_height}

pub record IsTermSize (t : Term) (s : Size) : Type 0 where
  pub length : s.length ≡ term_length t
  pub height : s.height ≡ term_height t

pub record IsBodySize (b : Body) (s : Size) : Type 0 where
  pub length : s.length ≡ body_length b
  pub height : s.height ≡ body_height b
