use Rattle.std.proofs.Common.{◌≡◌, Some, None, true, false, sym, ap, ◌∙◌, subst, arith, rules}
use Rattle.std.proofs.lemmas.List.{take_all}
use Rattle.book_edits.specs.Kept.{years_of}
use Rattle.book_edits.specs.Loads.{first_present}
use Rattle.book_edits.proofs.PresentLemmas.{none_here, present_here, stands}
use Rattle.book_edits.proofs.refused.present.Goals as goal

pub returns-clause-ok : goal.returns-clause-ok
returns-clause-ok c =
    let years = years_of c.args.years.now in
    let items = c.args.items.now in
    subst (λ rs. first_present years rs ≡ None) (take_all c.loop-item.item-index items (omega arith)) c.loop-item.invariant

pub returns-then-is_some-clause-err : goal.returns-then-is_some-clause-err
returns-then-is_some-clause-err c =
    let years = years_of c.args.years.now in
    let there : stands years c.item-item.result ≡ true = search rules in
    present_here years c.args.items.now c.loop-item.item-index c.item-item.result (omega arith) c.item-item.is c.loop-item.invariant there
    ∙ ap (λ k. Some k) (sym c.key-key.ensures)

pub loop-item-preserved : goal.loop-item-preserved
loop-item-preserved c =
    let years = years_of c.args.years.now in
    let free : stands years c.item-item.result ≡ false = search rules in
    none_here years c.args.items.now c.loop-item.item-index c.item-item.result (omega arith) c.item-item.is c.loop-item.invariant free
