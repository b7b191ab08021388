use Rattle.std.proofs.Common.{◌≡◌, false, arith}
use Rattle.std.proofs.lemmas.Bool.Decides.{nat_tests}
use Rattle.expr_tokens.proofs.ClassLemmas.{is_single}
use Rattle.expr_tokens.proofs.SignLemmas.{no_single}
use Rattle.expr_tokens.proofs.sign.sign_of_one.Goals as goal

pub returns-in_default : goal.returns-in_default
returns-in_default c =
    let none : is_single c.args.byte ≡ false = grind (arith, nat_tests) in
    no_single c.args.byte c.requires none
