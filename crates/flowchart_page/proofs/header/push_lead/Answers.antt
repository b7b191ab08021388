use Rattle.std.proofs.Common.{◌≡◌, ◌++◌, sym, ap, ◌∙◌, codes}
use Rattle.flowchart_methods.specs.Comments.{comments_text}
use Rattle.flowchart_page.proofs.HeaderLemmas.{three_pieces, lead_of}
use Rattle.flowchart_page.proofs.header.push_lead.Goals as goal

pub returns : goal.returns
returns c =
    let old = c.args.html.now.items in
    let comments = c.args.comments.now in
    let begun = c.push_own.new.html.items in
    let text : c.write_comments.new.page ≡ comments_text comments =
    c.in_ok-write_comments.ensures ∙ ap (λ l. l ++ comments_text comments) c.new-text.ensures in
    three_pieces (codes "<p class=\"lead\">") (comments_text comments) (codes "</p>\n") old begun c.push_page.new.html.items
    c.push_own-2.new.html.items c.in_ok-push_own.ensures (c.in_ok-push_page.ensures.grown ∙ ap (λ t. begun ++ t) text)
    c.in_ok-push_own-2.ensures
    ∙ ap (λ p. old ++ p) (lead_of comments (sym c.is_empty.ensures ∙ c.if-is_empty.false))
