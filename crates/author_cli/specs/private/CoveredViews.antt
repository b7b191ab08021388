-- Parts of the answers on what runs cover.
use Rattle.std.specs.Prelude.{◌≡◌, ◌+◌, ◌≤◌, ℕ, List, take, Some}
use Rattle.std.specs.Fmt.{decimal as number}
use Rattle.outside.specs.Told.{FileMap}
use Rattle.payroll_records.specs.Limits.{longest_table}
use Rattle.pap_plan.specs.Acceptance.{Meaning, IsAccepted}
use Rattle.plan_answers.specs.Fronts.{AreFronts}
use Rattle.author_cli.specs.declared.covered.CoverBytes.{CoverBytes}

-- a number of percent
abbrev pub IsPercent : ℕ → Type 0
IsPercent percent = percent ≤ 100

-- a word that is such a number
pub record IsPercentWord (word : List ℕ) (percent : ℕ) : Type 0 where
  pub most : IsPercent percent
  pub spelled : word ≡ number percent

-- the plan is accepted with its range file
abbrev pub IsSomeMeaning : (plan limits : List ℕ) → Type 0
IsSomeMeaning plan limits = (m : Meaning) × IsAccepted plan limits m

-- the three files are there, and these are their first bytes: of each at most one byte more than its limit
pub record AreThreeFronts (files : FileMap) (plan limits table : List ℕ) (read : CoverBytes) : Type 0 where
  pub both : AreFronts files plan limits read.plan.items read.limits.items
  pub table_bytes : List ℕ
  pub table_there : files table ≡ Some table_bytes
  pub table_read : read.table.items ≡ take (longest_table + 1) table_bytes
