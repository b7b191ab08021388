use Rattle.std.proofs.Common.{◌++◌, [], ◌∷◌, sym, ap, ◌∙◌, arith}
use Rattle.pay_run.proofs.RunLemmas.{named, named_more}
use Rattle.pay_run.proofs.outputs.name_values.Goals as goal

pub loop-at-preserved : goal.loop-at-preserved
loop-at-preserved c =
    let output = c.index-declared-at.result in
    let value = c.index-values-at.result in
    record {
      items =
          c.push_reserved.ensures.items ∙ ap (λ t. t ++ named output.name value ∷ []) c.loop-at.invariant.items
          ∙ sym (named_more c.args.declared.now c.args.values.now c.loop-at.at output value c.requires.each c.index-declared-at.is c.loop-at-test.true c.index-values-at.is);
      len = omega (arith, c.push_reserved.ensures.len, c.loop-at.invariant.len);
      room = omega (arith, c.push_reserved.ensures.capacity, c.loop-at.invariant.room);
    }
