use Rattle.std.specs.List.{flat_map}
use Rattle.comparison_page.specs.Rows.{range_row}
use Rattle.comparison_page.specs.Tables.{table_start, table_end}
use Rattle.comparison_page.proofs.PieceLemmas.{three_pieces}
use Rattle.comparison_page.proofs.parts.write_change_table.Goals as goal

pub returns : goal.returns
returns c =
    three_pieces table_start (flat_map range_row c.args.changes.now) table_end c.args.page.now.items c.push_own.new.page.items c.write_range_rows.new.page.items
    c.push_own-2.new.page.items c.in_ok-push_own.ensures c.in_ok-write_range_rows.ensures c.in_ok-push_own-2.ensures
