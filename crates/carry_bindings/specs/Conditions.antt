-- What `fill` asks of the earlier runs and of the inputs.
use Rattle.std.specs.Prelude.{◌≡◌, ⊤, List, Option, Some, None}
use Rattle.std.specs.List.{AllByRecursion}
use Rattle.pap_tree.specs.declared.declaration.Kind.TheVariants.{Factor}
use Rattle.limits_file.specs.Limits.{IsFactorLimit, IsWithinBound}
use Rattle.limits_file.specs.declared.slots.Slot.{Slot}
use Rattle.payroll_records.specs.declared.values.NamedValue.{NamedValue}

-- each output is within the bound of outputs
abbrev pub AreBounded : Option (List NamedValue) → Type 0
AreBounded None = ⊤
AreBounded (Some outputs) = AllByRecursion (λ v. IsWithinBound v.value) outputs

-- the limit of a `double` input keeps the rule for limits of a `double`
abbrev pub KeepsFactorLimit : Slot → Type 0
KeepsFactorLimit s = s.kind ≡ Factor → IsFactorLimit s.limit
