-- How the values of a record are matched to the inputs.
use Rattle.std.specs.Prelude.{◌≡◌, ◌++◌, ℕ, Bool, true, List, Option, Some, None, map, slice_set}
use Rattle.std.specs.Option.{option_or}
use Rattle.limits_file.specs.declared.limits.Carry.{Carry}
use Rattle.limits_file.specs.declared.slots.Slot.{Slot}
use Rattle.payroll_records.specs.declared.values.NamedValue.{NamedValue}
use Rattle.carry_bindings.specs.declared.carried.Earlier.{Earlier}
use Rattle.carry_bindings.specs.declared.filling.Found.{Found}
use Rattle.carry_bindings.specs.Filling.{inputs, missing, outside, takes}

-- of each value, whether some input takes it
abbrev pub taken : List Slot → List NamedValue → List Bool
taken slots values = map (λ v. takes slots v.name) values

-- the marks with one more for the value at a place, unless its input carries
abbrev pub marked : List Bool → Option ℕ → Option Carry → List Bool
marked marks None carry = marks
marked marks (Some at) None = slice_set marks at true
marked marks (Some at) (Some carry) = marks

-- what is found of the inputs: which values they take, and the inputs, or the first that is missing or outside its range
pub record IsFound (slots : List Slot) (values : List NamedValue) (earlier : List Earlier) (f : Found) : Type 0 where
  pub taken : f.taken.items ≡ taken slots values
  pub missing : f.missing ≡ missing slots values earlier
  pub outside : f.outside ≡ outside slots values earlier
  pub inputs : f.outside ≡ None → f.inputs.items ≡ inputs slots values earlier

-- the same before the inputs from a place on: the first that is missing or outside its range is kept
pub record IsSofar (values : List NamedValue) (earlier : List Earlier) (slots rest : List Slot) (f : Found) : Type 0 where
  pub missing : option_or f.missing (missing rest values earlier) ≡ missing slots values earlier
  pub outside : option_or f.outside (outside rest values earlier) ≡ outside slots values earlier
  pub inputs : f.outside ≡ None → f.inputs.items ++ inputs rest values earlier ≡ inputs slots values earlier
