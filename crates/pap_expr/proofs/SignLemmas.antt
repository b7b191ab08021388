-- Signs after an expression.
use Rattle.std.proofs.Common.{◌≡◌, List, refl}
use Rattle.pap_tree.specs.Term.{Term}
use Rattle.expr_tokens.specs.declared.token.Sign.{Sign}
use Rattle.expr_tokens.specs.declared.token.Sign.TheVariants as signs
use Rattle.expr_tokens.specs.Spots.{sign_of}
use Rattle.expr_grammar.specs.Machine.{Frame, after_mark, ended_in}

-- a sign that neither calls a method nor asks ends what the innermost frame waits for
pub ends : (s : Sign) (x : Term) (k : List Frame) → (s ≡ signs.Dot → ⊥) → (s ≡ signs.Question → ⊥) → after_mark (sign_of s) x k ≡ ended_in k (sign_of s) x
ends signs.Dot x k d q = absurd (d refl)
ends signs.Question x k d q = absurd (q refl)
ends s x k d q = refl
