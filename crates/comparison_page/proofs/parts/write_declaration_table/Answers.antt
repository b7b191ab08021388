use Rattle.std.specs.List.{flat_map}
use Rattle.comparison_page.specs.Rows.{declaration_row}
use Rattle.comparison_page.specs.Tables.{table_start, table_end}
use Rattle.comparison_page.proofs.PieceLemmas.{three_pieces}
use Rattle.comparison_page.proofs.parts.write_declaration_table.Goals as goal

pub returns : goal.returns
returns c =
    three_pieces table_start (flat_map (declaration_row c.args.old.now c.args.new.now) c.args.entries.now) table_end c.args.page.now.items c.push_own.new.page.items c.write_declaration_rows.new.page.items
    c.push_own-2.new.page.items c.in_ok-push_own.ensures c.in_ok-write_declaration_rows.ensures c.in_ok-push_own-2.ensures
