use Rattle.std.proofs.Common.{◌++◌, ap, ◌∙◌}
use Rattle.std.proofs.lemmas.Result.{on_ok_weaker}
use Rattle.std.specs.List.{flat_map}
use Rattle.coverage_page.specs.CoverageParts.{tested_entry}
use Rattle.coverage_page.specs.private.ItemLists.{is_in_list}
use Rattle.coverage_page.proofs.part.write_listed_of.Goals as goal

pub returns : goal.returns
returns c =
    let old = c.args.entries.now in
    let method = c.args.method.now in
    on_ok_weaker c.write_listed_items.result
    (λ e. e ∙ ap (λ n. old ++ flat_map (tested_entry (is_in_list c.args.list) n) c.items-items.result.now) c.name-name.ensures
    ∙ ap (λ is. old ++ flat_map (tested_entry (is_in_list c.args.list) method.name) is) c.items-items.ensures)
    c.write_listed_items.ensures
