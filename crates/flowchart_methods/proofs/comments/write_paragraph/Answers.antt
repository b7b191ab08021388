use Rattle.std.proofs.Common.{◌≡◌, ◌++◌, sym, ap, ◌∙◌, codes}
use Rattle.flowchart_methods.specs.Comments.{comments_text, paragraph}
use Rattle.flowchart_methods.proofs.TurnLemmas.{on_ok, three_parts}
use Rattle.flowchart_methods.proofs.CommentLemmas.{paragraph_of}
use Rattle.flowchart_methods.proofs.comments.write_paragraph.Goals as goal

pub returns : goal.returns
returns c =
    let old = c.args.page.now in
    let comments = c.args.comments.now in
    let text = c.write_comments.new.page in
    let new = c.put-2.new.self in
    on_ok c.put-2.result (new ≡ text ++ codes "</p>\n") (new ≡ old ++ paragraph comments) c.put-2.ensures
    (λ ended. three_parts (codes "<p class=\"com\">") (comments_text comments) (codes "</p>\n") old c.put.new.self text new
    c.in_ok-put.ensures c.in_ok-write_comments.ensures ended
    ∙ ap (λ p. old ++ p) (paragraph_of comments (sym c.is_empty.ensures ∙ c.if-is_empty.false)))
