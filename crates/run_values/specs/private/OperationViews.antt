-- What private contracts of crates above say of the divisor of divide(d).
use Rattle.std.specs.Prelude.{⊤}
use Rattle.scaled_decimal.specs.Decimals.{Decimal, numerator_of}
use Rattle.scaled_decimal.specs.ExactQuotients.{IsPlainDivisor}
use Rattle.pap_tree.specs.declared.expression.Call.{Call}
use Rattle.pap_tree.specs.declared.expression.Call.TheVariants as calls
use Rattle.pap_tree.specs.Term as meant
use Rattle.pap_tree.specs.Term.{method}

-- it is a plain one
abbrev pub IsPlainFor : Call → Decimal → Type 0
IsPlainFor calls.DivideExact b = IsPlainDivisor (numerator_of b)
IsPlainFor _ b = ⊤

abbrev pub IsPlainForTwo : meant.Two → Decimal → Type 0
IsPlainForTwo (method m) b = IsPlainFor m b
IsPlainForTwo _ b = ⊤
