use Rattle.std.proofs.Common.{◌∷◌, length, arith, ap, sym, subst}
use Rattle.pap_tree.specs.Tokens.{Operator}
use Rattle.expr_tokens.specs.Spots.{token_of}
use Rattle.expr_tokens.specs.private.Views.{Begins}
use Rattle.expr_tokens.proofs.SignLemmas.{pair_begins, single_begins, no_pair}
use Rattle.expr_tokens.proofs.sign.split_sign.Goals as goal

pub returns-in_default : goal.returns-in_default
returns-in_default c =
    let none = c.in_default.ensures.cases in
    single_begins c.args.first c.args.bytes.now (token_of c.sign_of_one.result) c.requires (λ b rest e. absurd (omega (arith, ap length e))) c.sign_of_one.ensures

pub returns-in-Some-operator_of_two : goal.returns-in-Some-operator_of_two
returns-in-Some-operator_of_two c =
    let first = c.args.first in
    subst (λ bytes. Begins (first ∷ bytes) (Operator c.in-Some-operator_of_two.operator) c.in-Some.rest.now) (sym c.in-Some.ensures.cases.0) (pair_begins first c.in-Some.second.now c.in-Some.rest.now c.in-Some-operator_of_two.operator c.requires c.in-Some-operator_of_two.ensures)

pub returns-in-None : goal.returns-in-None
returns-in-None c =
    single_begins c.args.first c.args.bytes.now (token_of c.sign_of_one-in-None.result) c.requires (no_pair c.args.first c.in-Some.second.now c.args.bytes.now c.in-Some.rest.now c.in-Some.ensures.cases.0 c.in-None.ensures) c.sign_of_one-in-None.ensures
