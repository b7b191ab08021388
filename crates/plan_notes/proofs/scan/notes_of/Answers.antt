use Rattle.std.proofs.Common.{List, length, arith, ap, map, subst}
use Rattle.std.proofs.lemmas.List.{take_all}
use Rattle.pap_reader.specs.declared.tokens.Token.{Token}
use Rattle.pap_reader.specs.Contents.{token_meant}
use Rattle.plan_notes.specs.Contents.{items_told, root_of}
use Rattle.plan_notes.specs.private.ScanViews.{Holds}
use Rattle.plan_notes.proofs.NoteLemmas.{holds_more}
use Rattle.plan_notes.proofs.scan.notes_of.Goals as goal

pub loop-token-init : goal.loop-token-init
loop-token-init c = c.new-scan.ensures

pub loop-token-preserved : goal.loop-token-preserved
loop-token-preserved c =
    holds_more c.loop-token.scan c.take.new.self c.args.tokens.now.items.items _ c.loop-token.token-index c.token-item.result
    c.deref-token-items.ensures.value c.loop-token-test.true c.token-item.is c.loop-token.invariant c.in_ok-take.ensures

pub returns : goal.returns
returns c =
    let xs : List Token = c.args.tokens.now.items.items in
    let all = take_all c.loop-token.token-index xs (omega (arith, ap length c.deref-token-items.ensures.value)) in
    let h = subst (λ z. Holds c.loop-token.scan (items_told (map token_meant z)) (root_of (map token_meant z))) all c.loop-token.invariant in
    record { behind = c.loop-token.scan.first; in_turn = h.in_turn; within = h.within; items = h.told; root = h.says }
