use Rattle.std.proofs.Common.{◌++◌, ap, ◌∙◌}
use Rattle.std.specs.List.{flat_map}
use Rattle.comparison_page.specs.Rows.{line_row}
use Rattle.comparison_page.specs.Tables.{change_table, part_end}
use Rattle.comparison_page.specs.Pages.{method_start, fold_start, fold_end}
use Rattle.comparison_page.proofs.PieceLemmas.{five_pieces}
use Rattle.comparison_page.proofs.parts.write_method_part.Goals as goal

pub returns : goal.returns
returns c =
    let e = c.args.entry in
    let old = c.args.old.now in
    let new = c.args.new.now in
    let lines = c.args.lines.now in
    let begun = c.write_method_start.new.page.items in
    let told = c.write_line_table.new.page.items in
    five_pieces (method_start e old.name new.name lines) (fold_start e) (change_table (flat_map (line_row old new) lines)) (fold_end e)
    part_end c.args.page.now.items begun c.push_own.new.page.items told c.push_own-2.new.page.items c.push_own-3.new.page.items
    c.in_ok-write_method_start.ensures (c.in_ok-push_own.ensures ∙ ap (λ t. begun ++ t) c.fold_start.ensures)
    c.in_ok-write_line_table.ensures (c.in_ok-push_own-2.ensures ∙ ap (λ t. told ++ t) c.fold_end.ensures)
    c.in_ok-push_own-3.ensures
