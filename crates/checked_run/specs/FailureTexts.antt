-- The text of a cause.
use Rattle.std.specs.Prelude.{ℕ, List, codes}
use Rattle.checked_run.specs.declared.cause.FailureCause.{FailureCause}
use Rattle.checked_run.specs.declared.cause.FailureCause.TheVariants.{Wide, Scale, Divisor, Index}

-- why a node fails, in plain words
abbrev pub failure_text : FailureCause → List ℕ
failure_text Wide = codes "a number is too great"
failure_text Scale = codes "there are more than 30 digits after the point"
failure_text Divisor = codes "the divisor is zero"
failure_text Index = codes "the index is outside the table"
