use Rattle.std.proofs.Common.{◌++◌, map}
use Rattle.std.specs.List.{flat_map}
use Rattle.flowchart_comparison.specs.Comparisons.{ComparedMethod}
use Rattle.std.specs.Option.{option_map}
use Rattle.comparison_page.specs.Counts.{entry_counts}
use Rattle.comparison_page.specs.CommentParts.{comments_link}
use Rattle.comparison_page.specs.Tables.{link_end}
use Rattle.comparison_page.specs.Pages.{contents_start, ranges_link, methods_link_start, compared_link, contents_end}
use Rattle.comparison_page.proofs.PieceLemmas.{five_pieces, six_pieces}
use Rattle.comparison_page.proofs.contents.write_contents.Goals as goal

pub returns : goal.returns
returns c =
    let told = c.args.comparison.now in
    let methods = entry_counts (map (λ (m : ComparedMethod). m.method) told.methods) in
    let links = flat_map (compared_link c.args.old.now c.args.new.now) told.methods in
    let comments = comments_link (option_map (λ c. c.now) c.args.comments) in
    let half = c.write_ranges_link.new.page.items in
    let all = c.push_own-5.new.page.items in
    five_pieces contents_start (entry_counts told.declarations) link_end (ranges_link (option_map (λ changes. changes.now) c.args.ranges))
    (methods_link_start ++ (methods ++ (link_end ++ (links ++ (comments ++ contents_end))))) c.args.page.now.items c.push_own.new.page.items
    c.write_declaration_counts.new.page.items c.push_own-2.new.page.items half all c.in_ok-push_own.ensures
    c.in_ok-write_declaration_counts.ensures c.in_ok-push_own-2.ensures c.in_ok-write_ranges_link.ensures
    (six_pieces methods_link_start methods link_end links comments contents_end half c.push_own-3.new.page.items
    c.write_method_counts.new.page.items c.push_own-4.new.page.items c.write_compared_links.new.page.items
    c.write_comments_link.new.page.items all c.in_ok-push_own-3.ensures c.in_ok-write_method_counts.ensures
    c.in_ok-push_own-4.ensures c.in_ok-write_compared_links.ensures c.in_ok-write_comments_link.ensures
    c.in_ok-push_own-5.ensures)
