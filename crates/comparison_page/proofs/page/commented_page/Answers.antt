use Rattle.std.proofs.Common.{◌++◌, ap, ◌∙◌}
use Rattle.std.specs.Option.{option_map}
use Rattle.flowchart_comparison.specs.Comparisons.{differs}
use Rattle.comparison_page.specs.CommentParts.{comments_part}
use Rattle.comparison_page.specs.Pages.{comparison_head, difference_sentence, ranges_differ, contents, declarations_part, ranges_part, methods_part, comparison_end}
use Rattle.comparison_page.proofs.PieceLemmas.{four_pieces, five_pieces}
use Rattle.comparison_page.proofs.page.commented_page.Goals as goal

pub returns : goal.returns
returns c =
    let old = c.args.old.now in
    let new = c.args.new.now in
    let told = c.args.comparison.now in
    let ranges = option_map (λ changes. changes.now) c.args.ranges in
    let comments = option_map (λ c. c.now) c.args.comments in
    let head = comparison_head c.args.names.old.now c.args.names.new.now in
    let sentence = difference_sentence (differs old new told) (ranges_differ ranges) in
    let links = contents old.methods new.methods told ranges comments in
    let declared = declarations_part old.declarations new.declarations told.declarations in
    let methods = methods_part old.methods new.methods told.methods in
    let parts = declared ++ (ranges_part ranges ++ (methods ++ (comments_part comments ++ comparison_end))) in
    let half = c.write_all_contents.new.page.items in
    let all = c.push_own.new.page.items in
    four_pieces head sentence links parts c.new-page.result.items c.write_head.new.page.items
    c.write_sentence.new.page.items half all c.in_ok-write_head.ensures c.in_ok-write_sentence.ensures
    c.in_ok-write_all_contents.ensures
    (five_pieces declared (ranges_part ranges) methods (comments_part comments) comparison_end half
    c.write_all_declarations.new.page.items c.write_ranges_part.new.page.items c.write_all_methods.new.page.items
    c.write_comments_part.new.page.items all c.in_ok-write_all_declarations.ensures c.in_ok-write_ranges_part.ensures
    c.in_ok-write_all_methods.ensures c.in_ok-write_comments_part.ensures c.in_ok-push_own.ensures)
    ∙ ap (λ l. l ++ (head ++ (sentence ++ (links ++ parts)))) c.new-page.ensures.items
