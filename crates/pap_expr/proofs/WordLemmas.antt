-- Names and the words of the language.
use Rattle.std.proofs.Common.{◌≡◌, ℕ, Bool, true, false, List, refl, sym, subst}
use Rattle.std.specs.Prelude.{IsTrue, codes}
use Rattle.std.specs.Str.{bytes_eq}
use Rattle.std.proofs.lemmas.Slice.Eq.{bytes_eq-Decides}
use Rattle.pap_tree.specs.Names.{is_name}
use Rattle.pap_tree.specs.Tokens.{Token, Word}
use Rattle.expr_grammar.specs.Machine.{same_token}
use Rattle.pap_expr.specs.private.Views.{IsNoKeyword}
use Rattle.pap_expr.specs.private.States.{the_class}

no_name : IsTrue (is_name (codes "BigDecimal")) → ⊥
no_name h = cc

not_class : (w : List ℕ) (b : Bool) → bytes_eq (codes "BigDecimal") w ≡ b → IsTrue (is_name w) → b ≡ false
not_class w true e h = absurd (no_name (subst (λ v. IsTrue (is_name v)) (sym ((bytes_eq-Decides (codes "BigDecimal") w).0 e)) h))
not_class w false e h = refl

-- a name isn't `BigDecimal`
pub no_class : (t : Token) → IsNoKeyword t → same_token the_class t ≡ false
no_class (Word w) h = not_class w (bytes_eq (codes "BigDecimal") w) refl h
no_class t h = refl
