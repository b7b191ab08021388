use Rattle.std.proofs.Common.{◌≡◌, take, string_bytes}
use Rattle.std.specs.List.{flat_map}
use Rattle.script_steps.specs.LineTexts.{due_line}
use Rattle.script_steps.proofs.filings.filed_text.Given as goal

abbrev pub invariant-loop-entry : goal.invariant-loop-entry
invariant-loop-entry l = string_bytes l.text ≡ flat_map due_line (take l.entry-index l.entries)
