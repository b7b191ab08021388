use Rattle.std.proofs.Common.{◌≡◌, map, take}
use Rattle.correction_ledger.specs.Filings.{entry_with}
use Rattle.correction_ledger.proofs.filings.entries_of.Given as goal

abbrev pub invariant-loop-due : goal.invariant-loop-due
invariant-loop-due l = l.entries.items ≡ map (entry_with l.month) (take l.due-index l.dues)
