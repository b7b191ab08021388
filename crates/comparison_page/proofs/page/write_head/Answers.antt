use Rattle.std.proofs.Common.{[], ◌++◌, ap, ◌∙◌, codes}
use Rattle.page_frame.specs.Starts.{page_start}
use Rattle.page_frame.specs.Styles.{style_sheet}
use Rattle.comparison_page.specs.Cells.{between_marks}
use Rattle.comparison_page.specs.Pages.{title_start}
use Rattle.comparison_page.proofs.PieceLemmas.{five_pieces}
use Rattle.comparison_page.proofs.page.write_head.Goals as goal

pub returns : goal.returns
returns c =
    let old = c.args.names.old.now in
    let new = c.args.names.new.now in
    let begun = c.args.page.now.items in
    let titled = c.push_name-2.new.page.items in
    five_pieces (between_marks page_start new (codes " against "))
    (between_marks [] old (codes ": comparison</title>\n<style>\n")) style_sheet
    (between_marks title_start new (codes " changed <small>against ")) (between_marks [] old (codes "</small></h1>\n")) begun
    c.push_name.new.page.items titled c.push_own.new.page.items c.push_name-3.new.page.items c.push_name-4.new.page.items
    (c.in_ok-push_name.ensures ∙ ap (λ t. begun ++ between_marks t new (codes " against ")) c.page_start.ensures)
    c.in_ok-push_name-2.ensures (c.in_ok-push_own.ensures ∙ ap (λ t. titled ++ t) c.style_sheet.ensures)
    c.in_ok-push_name-3.ensures c.in_ok-push_name-4.ensures
