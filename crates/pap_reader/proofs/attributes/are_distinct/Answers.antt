use Rattle.std.proofs.Common.{arith, sym, ap, ◌∙◌}
use Rattle.std.proofs.lemmas.List.{take_all}
use Rattle.pap_reader.specs.Attributes.{are_different}
use Rattle.pap_reader.proofs.AttributeNames.{names, distinct_names, not_different, still_different, seen_more, was_there, was_new}
use Rattle.pap_reader.proofs.attributes.are_distinct.Goals as goal

pub returns-then-not-branch : goal.returns-then-not-branch
returns-then-not-branch c =
    let a = c.attribute-item.result in
    let there = was_there _ _ c.if-not-branch.true c.in_ok-insert.ensures.added in
    sym (distinct_names c.args.attributes.now
    ∙ not_different c.args.attributes.now c.loop-attribute.attribute-index a (omega arith) c.attribute-item.is (sym (c.loop-attribute.invariant.seen a.name) ∙ there))

pub loop-attribute-preserved : goal.loop-attribute-preserved
loop-attribute-preserved c =
    let a = c.attribute-item.result in
    let i = c.loop-attribute.attribute-index in
    let xs = c.args.attributes.now in
    let v = c.loop-attribute.invariant in
    let new = was_new _ _ c.if-not-branch.false c.in_ok-insert.ensures.added in
    record {
      different = still_different xs i a (omega arith) c.attribute-item.is v.different (sym (v.seen a.name) ∙ new);
      seen = λ q. seen_more xs i a q.now _ _ (omega arith) c.attribute-item.is (v.seen q) (c.in_ok-insert.ensures.updates.0 q);
    }

pub returns : goal.returns
returns c =
    let v = c.loop-attribute.invariant in
    sym (distinct_names c.args.attributes.now ∙ ap (λ xs. are_different (names xs)) (sym (take_all c.loop-attribute.attribute-index c.args.attributes.now (omega arith))) ∙ v.different)
