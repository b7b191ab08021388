-- The text of a fault.
use Rattle.std.specs.Prelude.{ℕ, List, ◌++◌, codes}
use Rattle.std.specs.Fmt.{decimal}
use Rattle.scaled_decimal.specs.declared.reading.NumFault.{NumFault}
use Rattle.scaled_decimal.specs.declared.reading.NumFault.TheVariants.{Shape, Scale, Wide}

-- a fault of a number's text, in words
abbrev pub fault_text : NumFault → List ℕ
fault_text (Shape at) = codes "no number at byte " ++ decimal at
fault_text Scale = codes "more than 30 digits after the point"
fault_text Wide = codes "a number of too many digits"
