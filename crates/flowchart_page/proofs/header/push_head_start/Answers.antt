use Rattle.std.proofs.Common.{◌++◌, ap, ◌∙◌}
use Rattle.flowchart_markup.specs.Escapes.{escaped}
use Rattle.page_frame.specs.Starts.{page_start}
use Rattle.page_frame.specs.Styles.{style_sheet}
use Rattle.flowchart_page.specs.Heads.{title_end, body_start}
use Rattle.flowchart_page.proofs.HeaderLemmas.{six_pieces}
use Rattle.flowchart_page.proofs.header.push_head_start.Goals as goal

pub returns : goal.returns
returns c =
    let old = c.args.html.now.items in
    let title = escaped c.args.title.now in
    let first = c.push_own.new.html.items in
    let titled = c.push_own-2.new.html.items in
    let body = c.push_own-4.new.html.items in
    six_pieces page_start title (title_end c.args.subject) style_sheet body_start title old
    first c.push_escaped.new.page.items titled c.push_own-3.new.html.items body
    c.push_escaped-2.new.page.items
    (c.in_ok-push_own.ensures ∙ ap (λ t. old ++ t) c.page_start.ensures)
    (c.in_ok-push_escaped.ensures ∙ ap (λ t. first ++ escaped t) c.as_bytes.ensures.value)
    (c.in_ok-push_own-2.ensures ∙ ap (λ t. c.push_escaped.new.page.items ++ t) c.title_end.ensures)
    (c.in_ok-push_own-3.ensures ∙ ap (λ t. titled ++ t) c.style_sheet.ensures) c.in_ok-push_own-4.ensures
    (c.in_ok-push_escaped-2.ensures ∙ ap (λ t. body ++ escaped t) c.as_bytes-2.ensures.value)
