use Rattle.std.specs.List.{flat_map}
use Rattle.comparison_page.specs.Tables.{part_end}
use Rattle.comparison_page.specs.Pages.{compared_part, methods_start}
use Rattle.comparison_page.proofs.PieceLemmas.{three_pieces}
use Rattle.comparison_page.proofs.parts.write_methods_part.Goals as goal

pub returns : goal.returns
returns c =
    three_pieces methods_start (flat_map (compared_part c.args.old.now c.args.new.now) c.args.methods.now) part_end c.args.page.now.items c.push_own.new.page.items c.write_method_parts.new.page.items
    c.push_own-2.new.page.items c.in_ok-push_own.ensures c.in_ok-write_method_parts.ensures c.in_ok-push_own-2.ensures
