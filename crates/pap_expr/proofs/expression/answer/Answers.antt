use Rattle.std.proofs.Common.{List, take, get_or, sym, subst, arith}
use Rattle.pap_tree.specs.Stopping.{deep}
use Rattle.expr_tokens.specs.declared.token.Placed.{Placed}
use Rattle.expr_tokens.specs.Spots.{spots_of}
use Rattle.expr_grammar.specs.Machine.{first_state}
use Rattle.expr_grammar.specs.Run.{refusal_at, run}
use Rattle.pap_expr.specs.private.Answers.{line_of, Answers}
use Rattle.pap_expr.proofs.RunLemmas.{short_answer, long_answer}
use Rattle.pap_expr.proofs.TrailLemmas.{no_reading}
use Rattle.pap_expr.proofs.expression.answer.Goals as goal

pub returns-then-tokens-le-MOST_TOKENS-clause-answer : goal.returns-then-tokens-le-MOST_TOKENS-clause-answer
returns-then-tokens-le-MOST_TOKENS-clause-answer c =
    subst (λ r. Answers r c.line.result) (sym (short_answer c.args.kind c.args.len c.args.tokens.now (omega arith))) c.line.ensures.answer

pub returns-clause-answer : goal.returns-clause-answer
returns-clause-answer c =
    let ts = c.args.tokens.now in
    let f = refusal_at deep (get_or ts 1000 c.index-tokens-1000.result).at in
    let ran = λ (us : List Placed). run (line_of c.args.kind) f (first_state (line_of c.args.kind)) (spots_of us) in
    let read = subst (λ (us : List Placed). Answers (ran us) c.line-2.result) c.split_at.ensures.front c.line-2.ensures.answer in
    subst (λ r. Answers r c.never.result) (sym (long_answer c.args.kind c.args.len ts c.index-tokens-1000.result (omega arith))) (c.never.ensures.answer (ran (take 1000 ts)) read)

pub returns-clause-places : goal.returns-clause-places
returns-clause-places c = λ k e. no_reading c.never.result _ c.never.ensures.fails
