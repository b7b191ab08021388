use Rattle.std.proofs.Common.{map, take}
use Rattle.pap_reader.specs.Contents.{token_meant}
use Rattle.plan_notes.specs.Contents.{items_told, root_of}
use Rattle.plan_notes.specs.private.ScanViews.{Holds}
use Rattle.plan_notes.proofs.scan.notes_of.Given as goal

abbrev pub invariant-loop-token : goal.invariant-loop-token
invariant-loop-token l =
    let ts = map token_meant (take l.token-index l.tokens.items.items) in Holds l.scan (items_told ts) (root_of ts)
