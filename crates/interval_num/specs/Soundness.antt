-- What an interval that an operation answers promises for all decimals of its operands.
use Rattle.std.specs.Prelude.{◌≡◌, ◌≢◌, ℕ, ℤ, pos, List, Some, slice_get}
use Rattle.scaled_decimal.specs.declared.rounding.Mode.{Mode}
use Rattle.scaled_decimal.specs.Decimals.{Decimal, numerator_of, sum, difference, product, negated, magnitude, comparison, lesser, greater, IsRescaled, IsQuotient}
use Rattle.scaled_decimal.specs.ExactQuotients.{IsExactQuotient}
use Rattle.scaled_decimal.specs.WorkingNumbers.{SumFits, DifferenceFits, ProductFits, ComparisonFits, RescaleFits, QuotientFits, ExactQuotientFits}
use Rattle.scaled_decimal.specs.WholeNumbers.{IsOfBits, whole_decimal}
use Rattle.interval_num.specs.declared.sign_set.SignSet.{SignSet}
use Rattle.interval_num.specs.Intervals.{Interval, Contains}
use Rattle.interval_num.specs.Signs.{HasSign}

-- an operation's working numbers fit, and its result lies in the interval
pub record Covers (r : Interval) (Fits : Type 0) (IsResult : Decimal → Type 0) : Type 0 where
  pub fits : Fits
  pub inside : (z : Decimal) → IsResult z → Contains r z

-- no contained divisor is 0, the working numbers of the division fit, and its result is contained
pub record CoversQuotient (r : Interval) (divisor : ℤ) (Fits : Type 0) (IsResult : Decimal → Type 0) : Type 0 where
  pub not_zero : divisor ≢ pos 0
  pub covers : Covers r Fits IsResult

-- the sum of all contained operands fits and is contained in r
abbrev pub SumIsSound : Interval → Interval → Interval → Type 0
SumIsSound a b r = (x y : Decimal) → Contains a x → Contains b y → Covers r (SumFits x y) (λ z. z ≡ sum x y)

-- the difference of all contained operands fits and is contained in r
abbrev pub DifferenceIsSound : Interval → Interval → Interval → Type 0
DifferenceIsSound a b r = (x y : Decimal) → Contains a x → Contains b y → Covers r (DifferenceFits x y) (λ z. z ≡ difference x y)

-- the product of all contained operands fits and is contained in r
abbrev pub ProductIsSound : Interval → Interval → Interval → Type 0
ProductIsSound a b r = (x y : Decimal) → Contains a x → Contains b y → Covers r (ProductFits x y) (λ z. z ≡ product x y)

-- the lesser of all contained operands fits and is contained in r
abbrev pub MinIsSound : Interval → Interval → Interval → Type 0
MinIsSound a b r = (x y : Decimal) → Contains a x → Contains b y → Covers r (ComparisonFits x y) (λ z. z ≡ lesser x y)

-- the greater of all contained operands fits and is contained in r
abbrev pub MaxIsSound : Interval → Interval → Interval → Type 0
MaxIsSound a b r = (x y : Decimal) → Contains a x → Contains b y → Covers r (ComparisonFits x y) (λ z. z ≡ greater x y)

-- the comparison of all contained operands fits, and its sign is contained in r
abbrev pub ComparisonIsSound : Interval → Interval → Interval → Type 0
ComparisonIsSound a b r =
    (x y : Decimal) → Contains a x → Contains b y → Covers r (ComparisonFits x y) (λ z. z ≡ whole_decimal (comparison x y))

-- no contained divisor is 0, and each rounded quotient fits and is contained in r
abbrev pub QuotientIsSound : Mode → ℕ → Interval → Interval → Interval → Type 0
QuotientIsSound mode s a b r =
    (x y : Decimal) → Contains a x → Contains b y → CoversQuotient r (numerator_of y) (QuotientFits mode x y s) (IsQuotient mode x y s)

-- each exact quotient by the plain divisor d fits and is contained in r
abbrev pub ExactQuotientIsSound : ℤ → Interval → Interval → Type 0
ExactQuotientIsSound d a r = (x : Decimal) → Contains a x → Covers r (ExactQuotientFits x d) (IsExactQuotient x d)

-- each contained value rounded to scale s fits and is contained in r
abbrev pub RescalingIsSound : Mode → ℕ → Interval → Interval → Type 0
RescalingIsSound mode s a r = (x : Decimal) → Contains a x → Covers r (RescaleFits mode x s) (IsRescaled mode x s)

-- the opposite of each contained decimal is contained in r
abbrev pub NegationIsSound : Interval → Interval → Type 0
NegationIsSound a r = (x : Decimal) → Contains a x → Contains r (negated x)

-- the magnitude of each contained decimal is contained in r
abbrev pub MagnitudeIsSound : Interval → Interval → Type 0
MagnitudeIsSound a r = (x : Decimal) → Contains a x → Contains r (magnitude x)

-- each decimal of either part is contained in r
pub record JoinIsSound (a b r : Interval) : Type 0 where
  pub left : (x : Decimal) → Contains a x → Contains r x
  pub right : (y : Decimal) → Contains b y → Contains r y

-- an index is one of a table's, and its item lies in the interval
pub record HasItem (items : List Decimal) (index : ℤ) (r : Interval) : Type 0 where
  pub place : ℕ
  pub at : index ≡ pos place
  pub item : Decimal
  pub is : slice_get items place ≡ Some item
  pub inside : Contains r item

-- each contained index is a place of the table, and its item is contained in r
abbrev pub ItemIsSound : List Decimal → Interval → Interval → Type 0
ItemIsSound items index r = (i : ℤ) → Contains index (whole_decimal i) → HasItem items i r

-- the result of an operation on all contained whole numbers has so many bits and is contained in r
abbrev pub WholeIsSound : ℕ → (ℤ → ℤ → ℤ) → Interval → Interval → Interval → Type 0
WholeIsSound bits operation a b r =
    (m n : ℤ) → Contains a (whole_decimal m) → Contains b (whole_decimal n) →
    Covers r (IsOfBits bits (operation m n)) (λ z. z ≡ whole_decimal (operation m n))

-- no contained divisor is 0, and the result of / or % has so many bits and is contained in r
abbrev pub WholeQuotientIsSound : ℕ → (ℤ → ℤ → ℤ) → Interval → Interval → Interval → Type 0
WholeQuotientIsSound bits operation a b r =
    (m n : ℤ) → Contains a (whole_decimal m) → Contains b (whole_decimal n) →
    CoversQuotient r n (IsOfBits bits (operation m n)) (λ z. z ≡ whole_decimal (operation m n))

-- the opposite of each contained whole number has so many bits and is contained in r
abbrev pub WholeOppositeIsSound : ℕ → (ℤ → ℤ) → Interval → Interval → Type 0
WholeOppositeIsSound bits opposite a r =
    (m : ℤ) → Contains a (whole_decimal m) → Covers r (IsOfBits bits (opposite m)) (λ z. z ≡ whole_decimal (opposite m))

-- the set has the sign of every pair
abbrev pub SignsAreSound : Interval → Interval → SignSet → Type 0
SignsAreSound a b s = (x y : Decimal) → Contains a x → Contains b y → HasSign s x y

-- a decimal of v stands in an allowed sign to some decimal of e
pub record IsAllowed (v e : Interval) (allowed : SignSet) (x : Decimal) : Type 0 where
  pub is : Contains v x
  pub other : Decimal
  pub of : Contains e other
  pub sign : HasSign allowed x other

-- the decimals of v that have an allowed sign against some decimal of e lie in the part that is kept
abbrev pub RefinementIsSound : Interval → Interval → SignSet → Interval → Type 0
RefinementIsSound v e allowed r = (x : Decimal) → IsAllowed v e allowed x → Contains r x

-- no decimal of v has an allowed sign against a decimal of e
abbrev pub NoneIsAllowed : Interval → Interval → SignSet → Type 0
NoneIsAllowed v e allowed = (x : Decimal) → ¬ (IsAllowed v e allowed x)
