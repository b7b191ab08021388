-- The text of a cause.
use Rattle.std.specs.Prelude.{ℕ, List, codes}
use Rattle.interval_num.specs.declared.cause.RangeCause.{RangeCause}
use Rattle.interval_num.specs.declared.cause.RangeCause.TheVariants.{Wide, Scale, Divisor, Index}

-- a cause in plain words
abbrev pub cause_text : RangeCause → List ℕ
cause_text Wide = codes "a number may be too great"
cause_text Scale = codes "there may be more than 30 digits after the point"
cause_text Divisor = codes "the divisor may be zero"
cause_text Index = codes "the index may be outside the table"
