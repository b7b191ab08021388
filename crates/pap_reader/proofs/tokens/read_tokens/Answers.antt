use Rattle.std.proofs.Common.{map, ap, sym, subst, ◌∙◌, arith}
use Rattle.std.proofs.lemmas.Option.{MatchOption-at_none}
use Rattle.pap_tree.specs.White.{is_white}
use Rattle.pap_reader.specs.Bytes.{begins_with}
use Rattle.pap_reader.specs.Contents.{HasTokens, token_meant}
use Rattle.pap_reader.proofs.ReaderSteps.{at_some}
use Rattle.pap_reader.proofs.TokenLemmas.{tokens_start, tokens_pushed, black, ended}
use Rattle.pap_reader.proofs.tokens.read_tokens.Goals as goal

pub loop-items-init : goal.loop-items-init
loop-items-init c =
    let e = c.after_white-left.ensures.left in
    record {
      read = subst (HasTokens c.args.file.now (map token_meant c.new-items.result.items)) (sym e)
          (tokens_start c.args.file.now c.after_prolog.result.now _ c.after_prolog.ensures.passed (ap (map token_meant) c.new-items.ensures.items));
      black = ap (begins_with is_white) e ∙ black c.after_prolog.result.now;
      shorter = omega (arith, c.after_white-left.ensures.shorter, c.after_prolog.ensures.shorter);
    }

pub loop-items-preserved : goal.loop-items-preserved
loop-items-preserved c =
    let i = c.loop-items.invariant in
    let found = at_some c.in_ok-token.field-0 _ _ _ c.in_ok-token.ensures.found c.in-Some.is in
    let less = at_some c.in_ok-token.field-0 _ _ _ c.in_ok-token.ensures.shorter c.in-Some.is in
    let e = c.after_white-left-in-Some.ensures.left in
    record {
      read = tokens_pushed c.args.file.now c.loop-items.left.now c.in-Some.rest.now c.after_white-left-in-Some.result.now
          c.loop-items.items.items c.push.new.self.items c.in-Some.token i.read found c.in_ok-push.ensures.items e;
      black = ap (begins_with is_white) e ∙ black c.in-Some.rest.now;
      shorter = omega (arith, i.shorter, less, c.after_white-left-in-Some.ensures.shorter);
    }

pub returns : goal.returns
returns c =
    let i = c.loop-items.invariant in
    record {
      read = i.read;
      ended = ended c.loop-items.left.now i.black (MatchOption-at_none _ _ c.in_default.is c.in_ok-token.ensures.found);
    }
