use Rattle.std.proofs.Common.{◌≡◌, ◌∷◌, ◌∙◌, drop, string_bytes, sym, ap}
use Rattle.std.proofs.lemmas.Result.{IfOk-weaker}
use Rattle.plain_words.specs.Places.{files_of}
use Rattle.diagnostics.specs.FaultLines.{IsPlanLine, TellsEach}
use Rattle.diagnostics.specs.FurtherFaults.{TellsEntryFaults, TellsStage}
use Rattle.diagnostics.proofs.EntryLemmas.{has_table, entries_told}
use Rattle.diagnostics.proofs.FurtherLemmas.{stage_told}
use Rattle.diagnostics.proofs.stage_lines.stage_lines.Goals as goal

pub entry_lines-requires : goal.entry_lines-requires
entry_lines-requires c = has_table c.args.plan.bytes.now c.args.limits.bytes.now c.args.refusal.now (sym c.if-is_of_entries.ensures) c.requires

pub returns-then-is_of_entries : goal.returns-then-is_of_entries
returns-then-is_of_entries c =
    let files = files_of c.args.plan c.args.limits in
    IfOk-weaker c.entry_lines.result (λ text. TellsEntryFaults files (string_bytes text)) (λ text. TellsStage files c.args.refusal.now (string_bytes text))
    (λ text h. entries_told files c.args.refusal.now (string_bytes text) (sym c.if-is_of_entries.ensures) h) c.entry_lines.ensures

pub returns : goal.returns
returns c =
    let files = files_of c.args.plan c.args.limits in
    let r = c.args.refusal.now in
    IfOk-weaker c.plan_lines.result (λ text. TellsEach (IsPlanLine files) (r ∷ c.behind_first.result.now) (string_bytes text)) (λ text. TellsStage files r (string_bytes text))
    (λ text h. stage_told files r (drop 1 c.in_ok-faults.faults.items) c.behind_first.result.now (string_bytes text) (sym c.if-is_of_entries.ensures)
    (c.behind_first.ensures ∙ ap (λ l. drop 1 l) c.deref.ensures.value) c.in_ok-faults.ensures h) c.plan_lines.ensures
