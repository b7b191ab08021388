use Rattle.comparison_page.specs.Tables.{part_end}
use Rattle.comparison_page.specs.Pages.{range_table, ranges_start}
use Rattle.comparison_page.proofs.PieceLemmas.{three_pieces}
use Rattle.comparison_page.proofs.parts.write_range_part.Goals as goal

pub returns : goal.returns
returns c =
    three_pieces ranges_start (range_table c.args.changes.now) part_end c.args.page.now.items c.push_own.new.page.items c.write_range_table.new.page.items
    c.push_own-2.new.page.items c.in_ok-push_own.ensures c.in_ok-write_range_table.ensures c.in_ok-push_own-2.ensures
