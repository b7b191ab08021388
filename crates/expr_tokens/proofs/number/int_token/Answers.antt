use Rattle.std.proofs.Common.{arith}
use Rattle.std.specs.Str.Parse.{digits_value}
use Rattle.pap_tree.specs.Tokens.{great_int}
use Rattle.expr_tokens.proofs.number.int_token.Goals as goal
use Rattle.expr_tokens.proofs.number.int_token.Goals.{in_default-via-in-Some+else-n-le-GREATEST_INT, in_default-via-in_default}

pub returns-in_default : goal.returns-in_default
returns-in_default c =
    great_int (digits_value 10 c.args.numeral.now) c.requires (elim c.in_default.branch [
      | in_default-via-in-Some+else-n-le-GREATEST_INT w ↦ let same = w.in-Some.ensures.1 in omega arith
      | in_default-via-in_default w ↦ let beyond = w.in_default.ensures in omega arith
    ])
