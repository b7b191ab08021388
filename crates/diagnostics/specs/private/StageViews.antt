-- What is found of a stage.
use Rattle.std.specs.Prelude.{◌≡◌, ℕ, List, Ok}
use Rattle.toml.specs.Data.{Members}
use Rattle.pap_tree.specs.Flowchart.{Flowchart}
use Rattle.limits_file.specs.declared.limits.Limits.{Limits}
use Rattle.limits_file.specs.RangeFiles.{FileSays, IsToml}
use Rattle.pap_plan.specs.LimitFaults.{limit_faults}
use Rattle.pap_plan.specs.declared.refusal.PlanRefusal.{PlanRefusal}

-- these are all faults of the entries of this range file beside a flowchart
abbrev pub AreFaultsBeside : Flowchart → List ℕ → List PlanRefusal → Type 0
AreFaultsBeside f limits all = (l : Limits) × FileSays limits (Ok l) × (all ≡ limit_faults f l)

-- the text of a range file is a table
abbrev pub HasTable : List ℕ → Type 0
HasTable bytes = (file : Members) × IsToml bytes file
