-- What stops a coverage, by what a plan and a table are refused for.
use Rattle.std.specs.Prelude.{alloc_error}
use Rattle.pap_plan.specs.declared.refusal.PlanRefusal.{PlanRefusal}
use Rattle.pap_plan.specs.declared.refusal.PlanRefusal.TheVariants as plans
use Rattle.payroll_records.specs.declared.table.TableFault.{TableFault}
use Rattle.payroll_records.specs.declared.table.TableFault.TheVariants as tables
use Rattle.table_coverage.specs.declared.refusal.CoverRefusal.{CoverRefusal}
use Rattle.table_coverage.specs.declared.refusal.CoverRefusal.TheVariants as refusals

-- the refusal of a plan; that memory ran out is no refusal of it
abbrev pub refusal_of_plan : PlanRefusal → CoverRefusal
refusal_of_plan plans.Memory = refusals.Memory alloc_error
refusal_of_plan why = refusals.Plan why

-- the refusal of a table; that memory ran out is no refusal of it
abbrev pub refusal_of_table : TableFault → CoverRefusal
refusal_of_table (tables.Memory error) = refusals.Memory error
refusal_of_table fault = refusals.Table fault
