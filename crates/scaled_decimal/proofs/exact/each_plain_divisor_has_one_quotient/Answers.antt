use Rattle.std.proofs.Common.{sym, subst}
use Rattle.scaled_decimal.specs.ExactQuotients.{IsExactQuotient}
use Rattle.scaled_decimal.proofs.Laws.{exact_quotient_is, exact_quotient_only}
use Rattle.scaled_decimal.proofs.exact.each_plain_divisor_has_one_quotient.Goals as goal

pub returns : goal.returns
returns c = λ a d plain q. (exact_quotient_only a d q plain, λ e. subst (IsExactQuotient a d) (sym e) (exact_quotient_is a d plain))
