use Rattle.std.proofs.Common.{◌-◌, [], ◌∷◌, length, refl, ap, arith}
use Rattle.std.proofs.lemmas.List.{append-nil, length-append}
use Rattle.pap_tree.specs.Tokens.{Spot}
use Rattle.expr_tokens.specs.Spots.{token_of}
use Rattle.expr_tokens.proofs.ReadLemmas.{starts, proceeds, spots_more, at_end, less_after}
use Rattle.expr_tokens.proofs.lexer.read_tokens.Goals as goal

pub loop-token-init : goal.loop-token-init
loop-token-init c =
    let s = c.skip_white-rest.ensures in
    record {
      told = λ ts h. rw c.new-tokens.ensures.items (starts c.args.text.now c.skip_white-rest.result.now s.0 ts s.1 h);
      black = s.1.stops;
      within = omega (arith, ap length s.1.parts, length-append s.0 c.skip_white-rest.result.now);
    }

pub loop-token-preserved : goal.loop-token-preserved
loop-token-preserved c =
    let i = c.loop-token.invariant in
    let all = length c.args.text.now in
    let bytes = c.loop-token.rest.now in
    let after = c.in-Some.after.now in
    let rest = c.skip_white-rest-in-Some.result.now in
    let s = c.skip_white-rest-in-Some.ensures in
    let less = less_after bytes after (token_of c.in-Some.token) c.in-Some.ensures in
    let spot : Spot = record { token = token_of c.in-Some.token; at = all - length bytes } in
    record {
      told = λ ts h. rw (c.in_ok-push.ensures.items, spots_more) (i.told (spot ∷ ts) (proceeds all bytes after rest s.0 spot ts i.within c.in-Some.ensures refl s.1 h));
      black = s.1.stops;
      within = omega (arith, ap length s.1.parts, length-append s.0 rest);
    }

pub returns : goal.returns
returns c = rw append-nil at (c.loop-token.invariant.told [] (at_end (length c.args.text.now - length c.loop-token.rest.now) c.loop-token.rest.now c.in_default.ensures))
