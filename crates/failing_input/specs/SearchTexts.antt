-- What is told of a search for failing inputs, line by line.
use Rattle.std.specs.Prelude.{ℕ, ◌==◌, ◌&&◌, Bool, if◌then◌else◌, List, [], ◌∷◌, ◌++◌, codes, length}
use Rattle.std.specs.Fmt.{decimal as number}
use Rattle.std.specs.List.{flat_map}
use Rattle.std.specs.Ordering.{is_eq}
use Rattle.scaled_decimal.specs.Decimals.{Decimal, value_order}
use Rattle.scaled_decimal.specs.PlainTexts.{plain_text}
use Rattle.pap_tree.specs.Declarations.{Declaration}
use Rattle.pap_tree.specs.Flowchart.{Flowchart}
use Rattle.pap_tree.specs.Places.{place_text}
use Rattle.limits_file.specs.declared.limits.InputLimit.{InputLimit}
use Rattle.limits_file.specs.declared.limits.Limits.{Limits}
use Rattle.checked_run.specs.declared.cause.FailureCause.{FailureCause}
use Rattle.checked_run.specs.declared.cause.FailureCause.TheVariants.{Wide, Scale, Divisor, Index}
use Rattle.failing_input.specs.declared.failure.Failure.{Failure}
use Rattle.failing_input.specs.declared.failure.Failure.TheVariants.{Node, Output}
use Rattle.failing_input.specs.declared.search.Search.{Search}
use Rattle.failing_input.specs.declared.search.Search.TheVariants.{Fails, Safe, NotFound}

-- ---- inputs that fail

-- an input with its value, behind a space: NAME=VALUE
abbrev pub input_word : List ℕ → Decimal → List ℕ
input_word name v = codes " " ++ (name ++ (codes "=" ++ plain_text v))

-- all inputs, in declared order
abbrev pub input_words : List Declaration → List Decimal → List ℕ
input_words [] vs = []
input_words (d ∷ ds) [] = []
input_words (d ∷ ds) (v ∷ vs) = input_word d.name v ++ input_words ds vs

-- the word for why a node fails
abbrev pub failure_word : FailureCause → List ℕ
failure_word Wide = codes "Wide"
failure_word Scale = codes "Scale"
failure_word Divisor = codes "Divisor"
failure_word Index = codes "Index"

-- what goes wrong in the run: at METHOD:STATEMENT:NODE CAUSE, or output NAME of one that is beyond its bound
abbrev pub failure_line : Failure → List ℕ
failure_line (Node p cause) =
    codes "at " ++ (place_text p.method p.stmt p.node ++ (codes " " ++ (failure_word cause ++ codes "\n")))
failure_line (Output name) = codes "output " ++ (name ++ codes "\n")

-- the inputs on which a run fails, and below them what goes wrong: fails NAME=VALUE ..
abbrev pub fails_text : List Declaration → List Decimal → Failure → List ℕ
fails_text ds vs failure = codes "fails" ++ (input_words ds vs ++ (codes "\n" ++ failure_line failure))

-- ---- parts

-- the range of an input, behind a space: NAME=LOW..HIGH
abbrev pub range_word : InputLimit → List ℕ
range_word l = codes " " ++ (l.name ++ (codes "=" ++ (plain_text l.low ++ (codes ".." ++ plain_text l.high))))

-- whether two ranges have the same ends
abbrev pub is_same_range : InputLimit → InputLimit → Bool
is_same_range w l = is_eq (value_order w.low l.low) && is_eq (value_order w.high l.high)

-- the ranges of a part that aren't as those of the whole, which stand in the same order
abbrev pub part_words : List InputLimit → List InputLimit → List ℕ
part_words ws [] = []
part_words [] (l ∷ ls) = range_word l ++ part_words [] ls
part_words (w ∷ ws) (l ∷ ls) = (if is_same_range w l then [] else range_word l) ++ part_words ws ls

-- a part: part NAME=LOW..HIGH ..
abbrev pub part_line : Limits → Limits → List ℕ
part_line limits part = codes "part" ++ (part_words limits.inputs part.inputs ++ codes "\n")

-- so many parts: 1 part, or N parts
abbrev pub parts_word : ℕ → List ℕ
parts_word n = number n ++ (if n == 1 then codes " part" else codes " parts")

-- all parts: safe in N parts, and a line for each
abbrev pub parts_text : Limits → List Limits → List ℕ
parts_text limits parts = codes "safe in " ++ (parts_word (length parts) ++ (codes "\n" ++ flat_map (part_line limits) parts))

-- ---- the whole

-- what is told of what was found
abbrev pub search_text : Flowchart → Limits → Search → List ℕ
search_text f limits (Fails inputs failure) = fails_text f.inputs inputs.items failure
search_text f limits (Safe parts) = parts_text limits parts.items
search_text f limits (NotFound parts) = codes "not found in " ++ (parts_word parts ++ codes "\n")
