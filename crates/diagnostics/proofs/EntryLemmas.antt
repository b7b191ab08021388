-- What is told of a range file's entries.
use Rattle.std.proofs.Common.{◌≡◌, ℕ, Bool, true, false, List, ◌++◌, refl, sym, subst}
use Rattle.std.specs.Prelude.{MatchBool}
use Rattle.toml.specs.Data.{Members}
use Rattle.limits_file.specs.declared.fault.LimitsFault.TheVariants as files
use Rattle.limits_file.specs.RangeFiles.{IsToml}
use Rattle.pap_plan.specs.Acceptance.{IsRefused}
use Rattle.pap_plan.specs.declared.refusal.PlanRefusal.{PlanRefusal}
use Rattle.pap_plan.specs.declared.refusal.PlanRefusal.TheVariants as refusals
use Rattle.plain_words.specs.Places.{PlanFiles}
use Rattle.range_faults.specs.declared.fault.EntryFault.{EntryFault}
use Rattle.range_faults.specs.FileFaults.{AreTableFaults}
use Rattle.diagnostics.specs.FaultLines.{IsEntryLine, TellsEach}
use Rattle.diagnostics.specs.FurtherFaults.{is_of_entries, TellsEntryFaults, TellsStage, TellsStageFaults}
use Rattle.diagnostics.specs.private.StageViews.{HasTable}

pub tells_entries : (f : PlanFiles) (file : Members) (faults told : List EntryFault) (text : List ℕ) → told ≡ faults → IsToml f.ranges.bytes file
    → AreTableFaults file faults → TellsEach (IsEntryLine f) told text → TellsEntryFaults f text
tells_entries f file faults told text same toml are h = record {
  faults = faults;
  are = (file, toml, are);
  tells = subst (λ l. TellsEach (IsEntryLine f) l text) same h;
}

no_entries : false ≡ true → ⊥
no_entries e = cc

-- a range file that is refused for one of its entries is a table
pub has_table : (plan limits : List ℕ) (r : PlanRefusal) → is_of_entries r ≡ true → IsRefused plan limits r → HasTable limits
has_table plan limits (refusals.Limits (files.Key label)) is h = (h.2.0, h.2.1)
has_table plan limits (refusals.Limits (files.Bound label)) is h = (h.2.0, h.2.1)
has_table plan limits (refusals.Limits files.Toml) is h = absurd (no_entries is)
has_table plan limits (refusals.Limits files.LimitsLong) is h = absurd (no_entries is)
has_table plan limits (refusals.Limits (files.Memory e)) is h = absurd (no_entries is)
has_table plan limits (refusals.Read fault) is h = absurd (no_entries is)
has_table plan limits (refusals.Expr spot fault) is h = absurd (no_entries is)
has_table plan limits (refusals.Types fault) is h = absurd (no_entries is)
has_table plan limits (refusals.Order fault) is h = absurd (no_entries is)
has_table plan limits (refusals.LimitName name) is h = absurd (no_entries is)
has_table plan limits (refusals.LimitKind name) is h = absurd (no_entries is)
has_table plan limits (refusals.Bind name) is h = absurd (no_entries is)
has_table plan limits (refusals.Range fault) is h = absurd (no_entries is)
has_table plan limits refusals.Memory is h = absurd (no_entries is)

-- where it is refused for one, its entries are told
pub entries_told : (f : PlanFiles) (r : PlanRefusal) (text : List ℕ) → is_of_entries r ≡ true → TellsEntryFaults f text → TellsStage f r text
entries_told f r text is h = subst (λ b. MatchBool b (TellsEntryFaults f text) (TellsStageFaults f r text)) (sym is) h
