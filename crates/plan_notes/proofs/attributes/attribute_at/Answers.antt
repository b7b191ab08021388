use Rattle.std.proofs.Common.{◌+◌, cond, drop, map, ap, sym, ◌∙◌}
use Rattle.std.proofs.lemmas.Bool.{eq-eqb, ne_eqb}
use Rattle.pap_reader.specs.Tags.{attributes_of}
use Rattle.pap_reader.specs.Contents.{token_meant}
use Rattle.pap_reader.proofs.Laws.{tokens_left}
use Rattle.plan_notes.specs.AttributeBytes.{attribute_named, attribute_at}
use Rattle.plan_notes.proofs.attributes.attribute_at.Goals as goal

pub loop-token-preserved-in_default : goal.loop-token-preserved-in_default
loop-token-preserved-in_default c =
    c.loop-token.invariant ∙ ap (attribute_at c.args.at c.args.name.now)
    (tokens_left c.args.tokens.now.items.items _ c.loop-token.token-index c.token-item.result _
    c.deref-token-items.ensures.value c.loop-token-test.true c.token-item.is c.in_default.is)

pub loop-token-preserved : goal.loop-token-preserved
loop-token-preserved c =
    let xs = c.args.tokens.now.items.items in
    let i = c.loop-token.token-index in
    let name = c.args.name.now in
    let next = tokens_left xs _ i c.token-item.result _ c.deref-token-items.ensures.value c.loop-token-test.true
    c.token-item.is c.in-Tag.is in
    c.loop-token.invariant ∙ ap (attribute_at c.args.at name) next
    ∙ ap (λ b. cond b (attribute_named name (attributes_of c.in-Tag.tag.attributes.items))
    (attribute_at c.args.at name (map token_meant (drop (i + 1) xs)))) (ne_eqb _ _ c.if-place-at.false)

pub returns-then-place-at : goal.returns-then-place-at
returns-then-place-at c =
    let xs = c.args.tokens.now.items.items in
    let i = c.loop-token.token-index in
    let name = c.args.name.now in
    let next = tokens_left xs _ i c.token-item.result _ c.deref-token-items.ensures.value c.loop-token-test.true
    c.token-item.is c.in-Tag.is in
    c.attribute_named.ensures ∙ ap (λ z. attribute_named name (attributes_of z)) c.deref.ensures.value
    ∙ sym (c.loop-token.invariant ∙ ap (attribute_at c.args.at name) next
    ∙ ap (λ b. cond b (attribute_named name (attributes_of c.in-Tag.tag.attributes.items))
    (attribute_at c.args.at name (map token_meant (drop (i + 1) xs)))) (eq-eqb _ _ c.if-place-at.true))
