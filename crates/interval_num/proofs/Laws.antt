-- What crates above may cite: where a row answers, its interval holds every result, and the working numbers fit.
use Rattle.std.proofs.Common.{◌≡◌, ℕ, ◌≤◌, ℤ, Bool, List, Some, None, Ok}
use Rattle.std.specs.Bool.{OnTrue}
use Rattle.scaled_decimal.specs.declared.rounding.Mode.{Mode}
use Rattle.scaled_decimal.specs.Decimals.{Decimal}
use Rattle.scaled_decimal.specs.ExactQuotients.{IsPlainDivisor}
use Rattle.scaled_decimal.specs.Limits.{most_places}
use Rattle.scaled_decimal.specs.WholeNumbers.{whole_sum, whole_difference, whole_product, whole_quotient, whole_remainder, whole_opposite}
use Rattle.interval_num.specs.declared.sign_set.SignSet.{SignSet}
use Rattle.interval_num.specs.Intervals.{Interval, IsWhole, IsWholeOfBits}
use Rattle.interval_num.specs.Signs.{signs_of}
use Rattle.interval_num.specs.Refinement.{refined}
use Rattle.interval_num.specs.Rows.{sum_row, difference_row, product_row, min_row, max_row, comparison_row, join_row, negated_row, magnitude_row, quotient_row, exact_quotient_row, rescaled_row, item_row, whole_row, whole_opposite_row, whole_quotient_row, whole_remainder_row}
use Rattle.interval_num.specs.Soundness.{SumIsSound, DifferenceIsSound, ProductIsSound, MinIsSound, MaxIsSound, ComparisonIsSound, JoinIsSound, NegationIsSound, MagnitudeIsSound, QuotientIsSound, ExactQuotientIsSound, RescalingIsSound, ItemIsSound, WholeIsSound, WholeOppositeIsSound, WholeQuotientIsSound, SignsAreSound, RefinementIsSound, NoneIsAllowed}
use Rattle.interval_num.proofs.CornerLemmas as corners
use Rattle.interval_num.proofs.DivisorLemmas as divisors
use Rattle.interval_num.proofs.ExactLemmas as exact
use Rattle.interval_num.proofs.ItemLemmas as items
use Rattle.interval_num.proofs.OrderLemmas as orders
use Rattle.interval_num.proofs.QuotientLemmas as quotients
use Rattle.interval_num.proofs.RefinementLemmas as refinements
use Rattle.interval_num.proofs.WholeLemmas as wholes
-- between intervals of one greatest scale: a sign that is allowed, and that they may have, leaves some of the first; the signs
-- of the second against the first
pub use Rattle.interval_num.proofs.PairLemmas.{refined_some, signs_back}

pub sum_sound : (a b r : Interval) → sum_row a b ≡ Ok r → SumIsSound a b r
sum_sound = exact.sum_sound

pub difference_sound : (a b r : Interval) → difference_row a b ≡ Ok r → DifferenceIsSound a b r
difference_sound = exact.difference_sound

pub product_sound : (a b r : Interval) → product_row a b ≡ Ok r → ProductIsSound a b r
product_sound = corners.product_sound

pub min_sound : (a b r : Interval) → min_row a b ≡ Ok r → MinIsSound a b r
min_sound = orders.min_sound

pub max_sound : (a b r : Interval) → max_row a b ≡ Ok r → MaxIsSound a b r
max_sound = orders.max_sound

pub comparison_sound : (a b r : Interval) → comparison_row a b ≡ Ok r → ComparisonIsSound a b r
comparison_sound = orders.comparison_sound

pub join_sound : (a b r : Interval) → join_row a b ≡ Ok r → JoinIsSound a b r
join_sound = exact.join_sound

pub negation_sound : (a : Interval) → NegationIsSound a (negated_row a)
negation_sound = exact.negation_sound

pub magnitude_sound : (a : Interval) → MagnitudeIsSound a (magnitude_row a)
magnitude_sound = exact.magnitude_sound

pub quotient_sound : (mode : Mode) (s : ℕ) (a b r : Interval) → s ≤ most_places → a.s_hi ≤ most_places → quotient_row mode s a b ≡ Ok r → QuotientIsSound mode s a b r
quotient_sound = quotients.quotient_sound

pub exact_quotient_sound : (d : ℤ) (a r : Interval) → IsPlainDivisor d → exact_quotient_row d a ≡ Ok r → ExactQuotientIsSound d a r
exact_quotient_sound = divisors.exact_quotient_sound

pub rescaling_sound : (mode : Mode) (s : ℕ) (a r : Interval) → s ≤ most_places → rescaled_row mode s a ≡ Ok r → RescalingIsSound mode s a r
rescaling_sound = quotients.rescaling_sound

pub item_sound : (items : List Decimal) (index r : Interval) → IsWhole index → item_row items index ≡ Ok r → ItemIsSound items index r
item_sound = items.item_sound

pub whole_sum_sound : (bits : ℕ) (a b r : Interval) → IsWhole a → IsWhole b → whole_row bits whole_sum a b ≡ Ok r → WholeIsSound bits whole_sum a b r
whole_sum_sound = wholes.whole_sum_sound

pub whole_difference_sound : (bits : ℕ) (a b r : Interval) → IsWhole a → IsWhole b → whole_row bits whole_difference a b ≡ Ok r → WholeIsSound bits whole_difference a b r
whole_difference_sound = wholes.whole_difference_sound

pub whole_product_sound : (bits : ℕ) (a b r : Interval) → IsWhole a → IsWhole b → whole_row bits whole_product a b ≡ Ok r → WholeIsSound bits whole_product a b r
whole_product_sound = wholes.whole_product_sound

pub whole_opposite_sound : (bits : ℕ) (a r : Interval) → IsWhole a → whole_opposite_row bits a ≡ Ok r → WholeOppositeIsSound bits whole_opposite a r
whole_opposite_sound = wholes.whole_opposite_sound

pub whole_quotient_sound : (bits : ℕ) (a b r : Interval) → IsWhole a → IsWhole b → whole_quotient_row bits a b ≡ Ok r → WholeQuotientIsSound bits whole_quotient a b r
whole_quotient_sound = wholes.whole_quotient_sound

pub whole_remainder_sound : (bits : ℕ) (a b r : Interval) → IsWholeOfBits bits a → IsWhole b → whole_remainder_row a b ≡ Ok r → WholeQuotientIsSound bits whole_remainder a b r
whole_remainder_sound = wholes.whole_remainder_sound

pub signs_sound : (a b : Interval) → SignsAreSound a b (signs_of a b)
signs_sound = orders.signs_sound

pub refinement_sound : (v e r : Interval) (allowed : SignSet) (whole : Bool) → OnTrue whole (IsWhole v) → OnTrue whole (IsWhole e) → refined v e allowed whole ≡ Some r → RefinementIsSound v e allowed r
refinement_sound = refinements.refinement_sound

pub none_allowed : (v e : Interval) (allowed : SignSet) (whole : Bool) → OnTrue whole (IsWhole v) → OnTrue whole (IsWhole e) → refined v e allowed whole ≡ None → NoneIsAllowed v e allowed
none_allowed = refinements.none_allowed
