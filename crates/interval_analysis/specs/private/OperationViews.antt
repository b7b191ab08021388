-- What private contracts say of single operations.
use Rattle.std.specs.Prelude.{◌==◌, ◌&&◌, not, ℕ, Bool, Option, Some, None, Ok, ⊤}
use Rattle.scaled_decimal.specs.Decimals.{Decimal, numerator_of}
use Rattle.scaled_decimal.specs.ExactQuotients.{IsPlainDivisor}
use Rattle.pap_tree.specs.declared.expression.Unary.{Unary}
use Rattle.pap_tree.specs.declared.expression.Unary.TheVariants.{Minus}
use Rattle.pap_tree.specs.declared.expression.Binary.{Binary}
use Rattle.pap_tree.specs.declared.expression.Binary.TheVariants.{Mul, Div, Rem, Plus, Sub}
use Rattle.pap_tree.specs.declared.expression.Call.{Call}
use Rattle.pap_tree.specs.declared.expression.Call.TheVariants.{DivideExact}
use Rattle.interval_num.specs.declared.cause.RangeCause.TheVariants.{Wide}
use Rattle.interval_num.specs.Intervals.{Interval, IsWholeOfBits}
use Rattle.interval_num.specs.Alignment.{unless}
use Rattle.interval_num.specs.Rows.{RowAnswer}

-- a range that is read as that of whole numbers, whose ends fit or not
abbrev pub read_fitting : Bool → Interval → RowAnswer
read_fitting fits a = unless (not ((a.s_lo == 0) && ((a.s_hi == 0) && fits))) Wide (Ok a)

-- prefix minus takes a whole number of so many bits
abbrev pub TakesUnary : Unary → ℕ → Interval → Type 0
TakesUnary Minus bits a = IsWholeOfBits bits a
TakesUnary _ bits a = ⊤

pub record AreWholeOfBits (bits : ℕ) (a b : Interval) : Type 0 where
  pub left : IsWholeOfBits bits a
  pub right : IsWholeOfBits bits b

-- an operator of whole numbers takes two of so many bits
abbrev pub TakesWholes : Binary → ℕ → Interval → Interval → Type 0
TakesWholes Mul bits a b = AreWholeOfBits bits a b
TakesWholes Div bits a b = AreWholeOfBits bits a b
TakesWholes Rem bits a b = AreWholeOfBits bits a b
TakesWholes Plus bits a b = AreWholeOfBits bits a b
TakesWholes Sub bits a b = AreWholeOfBits bits a b
TakesWholes _ bits a b = ⊤

-- a divisor that the text shows is a plain one
abbrev pub IsPlainShown : Option Decimal → Type 0
IsPlainShown (Some d) = IsPlainDivisor (numerator_of d)
IsPlainShown None = ⊤

-- that of divide(d) is so
abbrev pub TakesShown : Call → Option Decimal → Type 0
TakesShown DivideExact shown = IsPlainShown shown
TakesShown _ shown = ⊤
