use Rattle.std.proofs.lemmas.Result.{on_ok_weaker}
use Rattle.coverage_page.specs.private.ItemLists.{is_in_list}
use Rattle.coverage_page.proofs.PartLemmas.{entry_told, none_told}
use Rattle.coverage_page.proofs.part.write_listed_item.Goals as goal

pub returns-then-has : goal.returns-then-has
returns-then-has c =
    on_ok_weaker c.write_entry.result
    (entry_told (is_in_list c.args.list) c.args.name c.args.item.now c.has.result c.args.entries.now c.write_entry.new.entries c.has.ensures
    c.if-has.true)
    c.write_entry.ensures

pub returns-else-has : goal.returns-else-has
returns-else-has c =
    none_told (is_in_list c.args.list) c.args.name c.args.item.now c.has.result c.args.entries.now c.has.ensures c.if-has.false
