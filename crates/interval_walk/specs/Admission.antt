-- The limits of a plan's inputs, and which values they admit.
use Rattle.std.specs.Prelude.{◌≡◌, ℕ, List, [], ◌∷◌, All, Some, ⊤}
use Rattle.std.specs.declared.cmp.Ordering.TheVariants.{Equal}
use Rattle.scaled_decimal.specs.Decimals.{Decimal, numerator_of, scale_of, value_order}
use Rattle.scaled_decimal.specs.Limits.{IsKept}
use Rattle.scaled_decimal.specs.WholeNumbers.{int_bits, long_bits, IsOfBits}
use Rattle.pap_tree.specs.declared.declaration.Kind.{Kind}
use Rattle.pap_tree.specs.declared.declaration.Kind.TheVariants as declares
use Rattle.pap_tree.specs.Declarations.{Declaration}
use Rattle.pap_tree.specs.Flowchart.{Flowchart}
use Rattle.limits_file.specs.declared.limits.InputLimit.{InputLimit}
use Rattle.limits_file.specs.declared.limits.Limits.{Limits}
use Rattle.limits_file.specs.Limits.{limit_named, Fits, HasSoundBounds, IsFactorLimit}
use Rattle.pap_types.specs.Scopes.{factor_places}

-- a limit of whole numbers of so many bits
pub record IsWholeLimit (bits : ℕ) (limit : InputLimit) : Type 0 where
  pub places : limit.places ≡ 0
  pub low : IsOfBits bits (numerator_of limit.low)
  pub high : IsOfBits bits (numerator_of limit.high)

-- a limit that suits an input of a kind
abbrev pub SuitsLimit : Kind → InputLimit → Type 0
SuitsLimit declares.Int limit = IsWholeLimit int_bits limit
SuitsLimit declares.Long limit = IsWholeLimit long_bits limit
SuitsLimit declares.Factor limit = IsFactorLimit limit
SuitsLimit _ limit = ⊤

-- a declared input has a limit of its name, with sound bounds, which suits its kind
pub record HasLimit (limits : Limits) (d : Declaration) : Type 0 where
  pub limit : InputLimit
  pub is : limit_named limits d.name ≡ Some limit
  pub sound : HasSoundBounds limit
  pub suits : SuitsLimit d.kind limit

-- each input of the plan has such a limit
abbrev pub HaveLimits : Flowchart → Limits → Type 0
HaveLimits f limits = All (HasLimit limits) f.inputs

-- a value of a `double` has three places, and some decimal of equal value fits
pub record FitsAsFactor (limit : InputLimit) (v : Decimal) : Type 0 where
  pub places : scale_of v ≡ factor_places
  pub equal : Decimal
  pub same : value_order equal v ≡ Equal
  pub fits : Fits limit equal

-- a value that a limit admits for an input of a kind
abbrev pub FitsAs : Kind → InputLimit → Decimal → Type 0
FitsAs declares.Factor limit v = FitsAsFactor limit v
FitsAs _ limit v = Fits limit v

-- a kept decimal that a limit admits for an input of a kind
pub record IsAdmitted (kind : Kind) (limit : InputLimit) (v : Decimal) : Type 0 where
  pub kept : IsKept v
  pub fits : FitsAs kind limit v

-- a value that the limit of a declared input admits
pub record IsAdmittedFor (limits : Limits) (d : Declaration) (v : Decimal) : Type 0 where
  pub limit : InputLimit
  pub is : limit_named limits d.name ≡ Some limit
  pub admitted : IsAdmitted d.kind limit v

-- one such value for each declared input, in declared order
abbrev pub AllAdmitted : Limits → List Declaration → List Decimal → Type 0
AllAdmitted limits [] [] = ⊤
AllAdmitted limits (d ∷ ds) (v ∷ vs) = IsAdmittedFor limits d v × AllAdmitted limits ds vs
AllAdmitted limits _ _ = ⊥

-- the limits admit these values as the plan's inputs
abbrev pub AreAdmitted : Flowchart → Limits → List Decimal → Type 0
AreAdmitted f limits inputs = AllAdmitted limits f.inputs inputs
