-- The range of some items together: of the chosen ones, and with one more.
use Rattle.std.proofs.Common.{◌≡◌, ℕ, suc, ◌+◌, ◌-◌, ◌<◌, unsigned_abs, List, [], ◌∷◌, ◌++◌, length, take, drop, get_or, sym, ap, ap₂, ◌∙◌, arith, get_or-drop, length-drop, length-take}
use Rattle.std.specs.Prelude.{slice_range}
use Rattle.std.proofs.lemmas.List.{take_rest, take_more}
use Rattle.scaled_decimal.specs.Decimals.{Decimal}
use Rattle.interval_num.specs.declared.cause.RangeCause.TheVariants.{Index}
use Rattle.interval_num.specs.Intervals.{Interval}
use Rattle.interval_num.specs.Rows.{RowAnswer, decimals_row, item_row}
use Rattle.interval_num.specs.ItemLevels.{joined_answers}
use Rattle.interval_num.specs.private.Views.{may_be_outside, ArePlaces}
use Rattle.interval_num.proofs.AlignmentLemmas.{unless_passes}
use Rattle.interval_num.proofs.JoinLemmas.{joined_rows}

pub chosen_row : (items : List Decimal) (index : Interval) (places : ℕ × ℕ) (range : RowAnswer) → ArePlaces index (length items) places → range ≡ decimals_row (slice_range items places.0 places.1) → range ≡ item_row items index
chosen_row items index places range at is =
    let row = decimals_row (slice_range items (unsigned_abs index.lo) (suc (unsigned_abs index.hi))) in
    is
    ∙ ap₂ (λ i j. decimals_row (slice_range items i j)) at.first at.end
    ∙ sym (unless_passes (may_be_outside index (length items)) Index row at.within)

pub one_more : (items : List Decimal) (i : ℕ) (front own range : RowAnswer) (item : Decimal) → i < length (take (length items - 1) (drop 1 items)) → item ≡ get_or (take (length items - 1) (drop 1 items)) i item → front ≡ decimals_row (take (i + 1) items) → own ≡ decimals_row (item ∷ []) → range ≡ joined_answers front own → range ≡ decimals_row (take (i + 1 + 1) items)
one_more items i front own range item inside is before alone together =
    let others = take_rest items 1 in
    let size = ap length others ∙ length-drop 1 items in
    let within : i + 1 < length items = omega arith in
    let taken = length-take (i + 1) items in
    let place : 1 + i ≡ i + 1 = omega arith in
    let at = is ∙ ap (λ xs. get_or xs i item) others ∙ get_or-drop 1 items i item ∙ ap (λ n. get_or items n item) place in
    together
    ∙ ap₂ joined_answers before alone
    ∙ sym (joined_rows (take (i + 1) items) (item ∷ []) (omega arith) (omega arith))
    ∙ ap (λ x. decimals_row (take (i + 1) items ++ (x ∷ []))) at
    ∙ ap decimals_row (sym (take_more items (i + 1) item within))
