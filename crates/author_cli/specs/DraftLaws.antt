-- What holds of the range with which an input begins in a drafted range file.
use Rattle.std.specs.Prelude.{◌≡◌, ℕ, ◌-◌, ◌==◌, if◌then◌else◌, List, [], ◌∷◌, length, take}
use Rattle.scaled_decimal.specs.NumberTexts.{Spells}
use Rattle.pap_tree.specs.declared.declaration.Kind.{Kind}
use Rattle.limits_file.specs.declared.limits.InputLimit.{InputLimit}
use Rattle.limits_file.specs.Limits.{HasSoundBounds}
use Rattle.interval_walk.specs.Admission.{SuitsLimit}
use Rattle.range_draft.specs.Bounds.{least_of_kind, greatest_of_kind, places_of_kind}

-- the text between quotes; a text without quotes is itself
abbrev pub unquoted : List ℕ → List ℕ
unquoted [] = []
unquoted (c ∷ text) = if c == 34 then take (length text - 1) text else c ∷ text

-- the limit that a drafted table of an input of this type spells
pub record IsWidest (kind : Kind) (limit : InputLimit) : Type 0 where
  pub low : Spells (unquoted (least_of_kind kind)) limit.low
  pub high : Spells (unquoted (greatest_of_kind kind)) limit.high
  pub places : limit.places ≡ places_of_kind kind

-- a limit that keeps the rule for bounds, and suits the type
pub record IsTaken (kind : Kind) (limit : InputLimit) : Type 0 where
  pub sound : HasSoundBounds limit
  pub suits : SuitsLimit kind limit

-- the range with which an input begins is one that a range file may have for an input of its type
abbrev pub WidestSuit : Type 0
WidestSuit = (kind : Kind) (limit : InputLimit) → IsWidest kind limit → IsTaken kind limit
