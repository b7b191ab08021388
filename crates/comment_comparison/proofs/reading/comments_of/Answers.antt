use Rattle.std.proofs.Common.{◌+◌, List, [], ◌∷◌, ◌++◌, length, drop, map, refl, sym, ap, subst, ◌∙◌, arith}
use Rattle.std.proofs.lemmas.List.{append-nil, append_assoc, drop_all}
use Rattle.pap_reader.specs.declared.tokens.Token.{Token}
use Rattle.pap_reader.specs.Contents.{StandInOrder, token_byte, token_meant, tokens_of}
use Rattle.pap_reader.proofs.Laws.{order_from, tokens_in_order, tokens_left}
use Rattle.plan_notes.specs.Lines.{line_text}
use Rattle.comment_comparison.specs.Comments.{LineComment, line_comment}
use Rattle.comment_comparison.proofs.ReadingLemmas.{comments_in, comments_whole}
use Rattle.comment_comparison.proofs.reading.comments_of.Goals as goal

pub loop-token-init : goal.loop-token-init
loop-token-init c =
    let all = tokens_of c.args.tokens.now in
    record {
      comments = ap (λ cs. cs ++ comments_in c.args.file.now all) c.new-comments.ensures.items;
      line = refl;
      order = tokens_in_order c.args.file.now c.args.tokens.now.left.now all c.requires;
    }

pub loop-token-preserved-in_default : goal.loop-token-preserved-in_default
loop-token-preserved-in_default c =
    let file = c.args.file.now in
    let xs = c.args.tokens.now.items.items in
    let known = c.loop-token.invariant in
    let more = map token_meant (drop (c.loop-token.token-index + 1) xs) in
    let next = tokens_left xs _ c.loop-token.token-index c.token-item.result _ c.deref-token-items.ensures.value
    c.loop-token-test.true c.token-item.is c.in_default.is in
    let order = subst (λ ts. StandInOrder c.loop-token.counted (map token_byte ts) (length file)) next known.order in
    record {
      comments = ap (λ ts. c.loop-token.comments.items ++ comments_in file ts) (sym next) ∙ known.comments;
      line = known.line;
      order = order_from c.loop-token.counted _ (length file) (map token_byte more) order.0 order.1.1;
    }

pub line_behind-line-requires : goal.line_behind-line-requires
line_behind-line-requires c =
    let next = tokens_left c.args.tokens.now.items.items _ c.loop-token.token-index c.token-item.result _
    c.deref-token-items.ensures.value c.loop-token-test.true c.token-item.is c.in-Comment.is in
    let order = subst (λ ts. StandInOrder c.loop-token.counted (map token_byte ts) (length c.args.file.now)) next
    c.loop-token.invariant.order in
    record { known = c.loop-token.invariant.line; order = order.0; within = omega (arith, order.1.0) }

pub loop-token-preserved : goal.loop-token-preserved
loop-token-preserved c =
    let file = c.args.file.now in
    let xs = c.args.tokens.now.items.items in
    let known = c.loop-token.invariant in
    let old : List LineComment = c.loop-token.comments.items in
    let text = line_text c.in-Comment.inside.now in
    let more = comments_in file (map token_meant (drop (c.loop-token.token-index + 1) xs)) in
    let next = tokens_left xs _ c.loop-token.token-index c.token-item.result _ c.deref-token-items.ensures.value
    c.loop-token-test.true c.token-item.is c.in-Comment.is in
    let order = subst (λ ts. StandInOrder c.loop-token.counted (map token_byte ts) (length file)) next known.order in
    record {
      comments = ap (λ cs. cs ++ more) c.in_ok-keep_comment.ensures
          ∙ append_assoc old (line_comment c.line_behind-line.result text ∷ []) more
          ∙ ap (λ n. old ++ (line_comment n text ∷ more)) c.line_behind-line.ensures
          ∙ ap (λ ts. old ++ comments_in file ts) (sym next) ∙ known.comments;
      line = c.line_behind-line.ensures;
      order = order.1.1;
    }

pub returns : goal.returns
returns c =
    let xs : List Token = c.args.tokens.now.items.items in
    let file = c.args.file.now in
    let cs : List LineComment = c.loop-token.comments.items in
    let all = drop_all c.loop-token.token-index xs (omega (arith, ap length c.deref-token-items.ensures.value)) in
    comments_whole file c.args.tokens.now.left.now (tokens_of c.args.tokens.now) cs c.requires
    (sym (append-nil cs) ∙ ap (λ zs. cs ++ comments_in file (map token_meant zs)) (sym all) ∙ c.loop-token.invariant.comments)
