use Rattle.std.proofs.Common.{ap, subst, map, ◌∙◌}
use Rattle.std.specs.Prelude.{IfOk}
use Rattle.flowchart_comparison.specs.Entries.{IsPairing, PairsNames}
use Rattle.flowchart_comparison.specs.Comparisons.{item_names, item_texts, lined_names, method_text}
use Rattle.flowchart_comparison.proofs.comparison.pair_methods.Goals as goal

pub returns-clause-paired : goal.returns-clause-paired
returns-clause-paired c =
    let old = ap item_texts c.deref.ensures.value ∙ c.in_ok-old.ensures.texts in
    let new = ap item_texts c.deref-2.ensures.value ∙ c.in_ok-new.ensures.texts in
    let new_texts = map method_text c.args.new.now in
    subst (λ l. IfOk c.pair_texts.result (λ pairs. IsPairing l new_texts pairs.items)) old
    (subst (λ l. IfOk c.pair_texts.result (λ pairs. IsPairing (item_texts c.deref.result.now) l pairs.items)) new
    c.pair_texts.ensures.paired)

pub returns-clause-by_name : goal.returns-clause-by_name
returns-clause-by_name c =
    let old = ap item_names c.deref.ensures.value ∙ c.in_ok-old.ensures.names in
    let new = ap item_names c.deref-2.ensures.value ∙ c.in_ok-new.ensures.names in
    subst (λ l. IfOk c.pair_texts.result (λ pairs. PairsNames l (lined_names c.args.new.now) pairs.items)) old
    (subst (λ l. IfOk c.pair_texts.result (λ pairs. PairsNames (item_names c.deref.result.now) l pairs.items)) new
    c.pair_texts.ensures.by_name)
