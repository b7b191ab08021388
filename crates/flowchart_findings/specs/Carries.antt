-- Which outputs may be too long for the inputs that carry them over: a run whose carried value has more digits behind its point than the
-- input's limit takes has no inputs. Source: docs/PROFILE.md, "Carried values" and "The inputs of a run".
use Rattle.std.specs.Prelude.{ℕ, ◌+◌, Bool, false, nat_lt, if◌then◌else◌, List, [], ◌∷◌, ◌++◌}
use Rattle.std.specs.List.{flat_map}
use Rattle.std.specs.Option.{option_map_or}
use Rattle.std.specs.Str.{bytes_eq}
use Rattle.limits_file.specs.declared.limits.Binding.{Binding}
use Rattle.limits_file.specs.declared.limits.Carry.{Carry}
use Rattle.limits_file.specs.declared.limits.Carry.TheVariants.{Sum, Last, Count}
use Rattle.limits_file.specs.declared.limits.InputLimit.{InputLimit}
use Rattle.limits_file.specs.declared.limits.Limits.{Limits}
use Rattle.limits_file.specs.Limits.{limit_named}
use Rattle.interval_walk.specs.Ranges.{NamedRange, Ranges}
use Rattle.flowchart_findings.specs.declared.finding.Group.TheVariants.{Output}
use Rattle.flowchart_findings.specs.declared.finding.DeclarationSite.{DeclarationSite}
use Rattle.flowchart_findings.specs.declared.finding.Finding.{Finding}
use Rattle.flowchart_findings.specs.declared.finding.Finding.TheVariants.{LongCarry}

-- what is carried over are values of the output of a name: their sum, or the last of them
abbrev pub is_carried : Carry → List ℕ → Bool
is_carried (Sum output) name = bytes_eq output name
is_carried (Last output) name = bytes_eq output name
is_carried Count name = false

-- the finding of an output whose values have at most so many places, and of the limit of an input that carries them over: there is one
-- exactly where the limit takes fewer
abbrev pub limit_finding : DeclarationSite → ℕ → InputLimit → List Finding
limit_finding site places limit =
    if nat_lt limit.places places then LongCarry site limit.name places limit.places ∷ [] else []

-- that of a binding; there is none where it carries another output over, or how many runs there are
abbrev pub carry_finding : Limits → DeclarationSite → ℕ → Binding → List Finding
carry_finding limits site places binding =
    if is_carried binding.carry site.name then option_map_or (limit_finding site places) (limit_named limits binding.input) [] else []

-- the output of a number and a name
abbrev pub output_site : ℕ → List ℕ → DeclarationSite
output_site number name = record { group = Output; number = number; name = name }

-- those of an output of a number, by the range in which its values lie at the end of a run
abbrev pub output_findings : Limits → ℕ → NamedRange → List Finding
output_findings limits number output =
    flat_map (carry_finding limits (output_site number output.name) output.range.s_hi) limits.bindings

-- those of outputs that are numbered from `number`
abbrev pub carry_findings : Limits → ℕ → Ranges → List Finding
carry_findings limits number [] = []
carry_findings limits number (output ∷ outputs) = output_findings limits number output ++ carry_findings limits (number + 1) outputs
