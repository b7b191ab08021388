-- How much there may be of something, as it is printed.
use Rattle.std.specs.Prelude.{ℕ, List, ◌∷◌, ◌++◌, codes}
use Rattle.std.specs.Fmt.{decimal}
use Rattle.pap_reader.specs.declared.fault.Which.{Which}
use Rattle.pap_reader.specs.declared.fault.Which.TheVariants as which
use Rattle.pap_reader.specs.Limits.{most}

-- what there may be so much of
abbrev pub counted_words : Which → List ℕ
counted_words which.Bytes = codes "bytes"
counted_words which.Inputs = codes "INPUTs"
counted_words which.Outputs = codes "OUTPUTs"
counted_words which.Internals = codes "INTERNALs"
counted_words which.Constants = codes "CONSTANTs"
counted_words which.Methods = codes "METHODs beside MAIN"
counted_words which.Statements = codes "EVALs, EXECUTEs and IFs"
counted_words which.Depth = codes "IFs in one another"

-- the greatest number, a space, and what there may be so much of
abbrev pub amount_text : Which → List ℕ
amount_text w = decimal (most w) ++ (32 ∷ counted_words w)
