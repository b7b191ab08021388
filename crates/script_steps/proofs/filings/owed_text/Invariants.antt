use Rattle.std.proofs.Common.{◌≡◌, take, string_bytes}
use Rattle.std.specs.List.{flat_map}
use Rattle.script_steps.specs.LineTexts.{owed_line}
use Rattle.script_steps.proofs.filings.owed_text.Given as goal

abbrev pub invariant-loop-due : goal.invariant-loop-due
invariant-loop-due l = string_bytes l.text ≡ flat_map owed_line (take l.due-index l.dues)
