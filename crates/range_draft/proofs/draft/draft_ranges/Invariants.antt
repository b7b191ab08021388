use Rattle.std.proofs.Common.{string_bytes}
use Rattle.range_draft.proofs.DraftLemmas.{IsDrafted}
use Rattle.range_draft.proofs.draft.draft_ranges.Given as goal

abbrev pub invariant-loop-input : goal.invariant-loop-input
invariant-loop-input l = IsDrafted l.elements.inputs.items l.notes l.input-index l.walk l.names (string_bytes l.text)
