use Rattle.std.proofs.Common.{refl}
use Rattle.flowchart_comparison.proofs.EntryLemmas.{compared}
use Rattle.flowchart_comparison.proofs.comparison.compare.Goals as goal

pub returns : goal.returns
returns c =
    compared c.args.old.now c.args.new.now _ c.declarations-old_items.result.now c.declarations-new_items.result.now
    c.methods-old_methods.result.now c.methods-new_methods.result.now c.in_ok-declarations.declarations.items
    c.in_ok-pairs.pairs.items c.deref.result.now c.in_ok-methods.methods.items c.declarations-old_items.ensures
    c.declarations-new_items.ensures c.methods-old_methods.ensures c.methods-new_methods.ensures
    c.in_ok-declarations.ensures.paired c.in_ok-pairs.ensures.paired c.in_ok-declarations.ensures.by_name
    c.in_ok-pairs.ensures.by_name c.deref.ensures.value c.in_ok-methods.ensures.methods
    c.in_ok-methods.ensures.lines refl
