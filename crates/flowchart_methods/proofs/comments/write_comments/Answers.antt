use Rattle.std.proofs.Common.{◌≡◌, ◌++◌, [], ap, ◌∙◌, take}
use Rattle.flowchart_markup.specs.Escapes.{escaped}
use Rattle.flowchart_methods.proofs.CommentLemmas.{space_behind, no_space, a_space, comments_more}
use Rattle.flowchart_methods.proofs.comments.write_comments.Goals.{then-i-gt0, else-i-gt0}
use Rattle.flowchart_methods.proofs.comments.write_comments.Goals as goal

pub loop-i-preserved : goal.loop-i-preserved
loop-i-preserved c =
    let comments = c.args.comments.now in
    let i = c.loop-i.i in
    let space = c.if-i-gt0.space.now in
    let spaced : escaped space ≡ space_behind (take i comments) = elim c.if-i-gt0.branch [
      | then-i-gt0 w ↦ ap (λ s. escaped s.now) w.space-is ∙ a_space comments i w.if-i-gt0.true c.loop-i-test.true
      | else-i-gt0 w ↦ ap (λ s. escaped s.now) w.space-is ∙ no_space comments i w.if-i-gt0.false
    ] in
    let text = c.as_bytes-in-loop-i.result.now in
    comments_more comments i c.index-comments-i.result (escaped space) c.args.page.now c.loop-i.page c.put.new.self
    c.loop-i-test.true c.index-comments-i.is spaced c.loop-i.invariant
    (c.in_ok-put.ensures
    ∙ ap (λ s. c.loop-i.page ++ (escaped s ++ (escaped text ++ []))) c.as_bytes.ensures.value
    ∙ ap (λ t. c.loop-i.page ++ (escaped space ++ (escaped t ++ []))) c.as_bytes-in-loop-i.ensures.value)
