-- What the walk over the ranges of values knows of the operands of a node that may fail, or of an output that may be beyond its bound, in
-- words.
use Rattle.std.specs.Prelude.{◌≡◌, ℕ, List, [], ◌∷◌, ◌++◌, codes, if◌then◌else◌, nat_lt}
use Rattle.std.specs.Fmt.{decimal}
use Rattle.std.specs.Ordering.{is_eq}
use Rattle.scaled_decimal.specs.Decimals.{value_order}
use Rattle.scaled_decimal.specs.PlainTexts.{plain_text}
use Rattle.limits_file.specs.Limits.{output_places}
use Rattle.interval_num.specs.declared.cause.RangeCause.{RangeCause}
use Rattle.interval_num.specs.declared.cause.RangeCause.TheVariants.{Divisor, Index}
use Rattle.interval_analysis.specs.declared.fault.RangeFault.{RangeFault}
use Rattle.interval_analysis.specs.declared.fault.RangeFault.TheVariants as faults
use Rattle.interval_analysis.specs.declared.value_range.ValueRange.{ValueRange}
use Rattle.pap_plan.specs.Judgements.{AreOperandsOf}
use Rattle.pap_plan.specs.declared.refusal.PlanRefusal.{PlanRefusal}
use Rattle.pap_plan.specs.declared.refusal.PlanRefusal.TheVariants as refusals

-- a range by its only value, or by its ends: is 5; lies from 0.00 to 9.99
abbrev pub operand_words : ValueRange → List ℕ
operand_words r =
    if is_eq (value_order r.least r.greatest) then codes "is " ++ plain_text r.least
    else codes "lies from " ++ (plain_text r.least ++ (codes " to " ++ plain_text r.greatest))

-- a line that says something of the operands of the node that the line before names
abbrev pub there_line : List ℕ → List ℕ
there_line words = codes "papcalc: there " ++ (words ++ 10 ∷ [])

-- the only operand of a node: an index, or another
abbrev pub one_words : RangeCause → ValueRange → List ℕ
one_words Index a = codes "the index " ++ operand_words a
one_words _ a = codes "the operand " ++ operand_words a

-- two operands, from the left
abbrev pub both_words : ValueRange → ValueRange → List ℕ
both_words a b =
    codes "the first operand " ++ (operand_words a ++ (codes ", and the second " ++ operand_words b))

-- the two operands of a node: of one whose divisor may be zero the divisor alone
abbrev pub two_words : RangeCause → ValueRange → ValueRange → List ℕ
two_words Divisor a b = codes "the divisor " ++ operand_words b
two_words _ a b = both_words a b

-- the line of the ranges that the operands of a node have, from the left; none where it has no operands
abbrev pub operands_line : RangeCause → List ValueRange → List ℕ
operands_line cause (a ∷ []) = there_line (one_words cause a)
operands_line cause (a ∷ (b ∷ [])) = there_line (two_words cause a b)
operands_line cause _ = []

-- what is wrong with the range of an output: it has too many digits after its point, or else it is too great
abbrev pub beyond_words : ValueRange → List ℕ
beyond_words r =
    if nat_lt output_places r.most_places
    then codes "has up to " ++ (decimal r.most_places ++ codes " digits after its point, and an output has at most 12")
    else operand_words r ++ codes ", and an output lies from -10^20 to 10^20"

-- the line of the range that an output has behind MAIN
abbrev pub beyond_line : List ℕ → ValueRange → List ℕ
beyond_line name r =
    codes "papcalc: at the end the output " ++ (name ++ (codes " " ++ (beyond_words r ++ 10 ∷ [])))

-- the line of the ranges that the walk has where it fails so: of the operands of a node, or of an output
abbrev pub ranges_line : RangeFault → List ValueRange → List ℕ
ranges_line (faults.At place cause) operands = operands_line cause operands
ranges_line (faults.Output name) (r ∷ []) = beyond_line name r
ranges_line _ _ = []

-- the line of the ranges that belong to a refusal: of those of the walk, and at another stage none
abbrev pub walk_line : PlanRefusal → List ValueRange → List ℕ
walk_line (refusals.Range fault) operands = ranges_line fault operands
walk_line _ operands = []

-- the text is the line of the ranges that belong to this refusal of these two texts
abbrev pub TellsOperands : List ℕ → List ℕ → PlanRefusal → List ℕ → Type 0
TellsOperands plan limits refusal text =
    (operands : List ValueRange) × AreOperandsOf plan limits refusal operands × (text ≡ walk_line refusal operands)
