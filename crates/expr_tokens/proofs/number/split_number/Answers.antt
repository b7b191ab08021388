use Rattle.expr_tokens.specs.Spots.{token_of}
use Rattle.expr_tokens.proofs.NumberLemmas.{int_begins, long_begins, point_begins, point_parts, point_text}
use Rattle.expr_tokens.proofs.number.split_number.Goals as goal

pub returns-in-Some : goal.returns-in-Some
returns-in-Some c =
    long_begins c.args.bytes.now c.split_numeral.result.0.now c.split_numeral.result.1.now c.in-Some.rest.now (token_of c.long_token.result) c.requires c.split_numeral.ensures c.in-Some.ensures c.long_token.ensures

pub returns-in_default-after_places : goal.returns-in_default-after_places
returns-in_default-after_places c =
    int_begins c.args.bytes.now c.split_numeral.result.0.now c.split_numeral.result.1.now (token_of c.int_token.result) c.requires c.split_numeral.ensures c.in_default.ensures c.in_default-after_places.ensures c.int_token.ensures

pub point_token-requires : goal.point_token-requires
point_token-requires c =
    let parts = point_parts c.args.bytes.now c.split_numeral.result.0.now c.split_numeral.result.1.now c.split_at.result.0.now c.in-Some-after_places.rest.now c.split_numeral.ensures c.in-Some-after_places.ensures c.split_at.ensures.front in
    point_text c.args.bytes.now c.split_numeral.result.0.now c.split_numeral.result.1.now c.split_at.result.0.now c.in-Some-after_places.rest.now c.split_numeral.ensures c.in-Some-after_places.ensures parts

pub returns : goal.returns
returns c =
    let parts = point_parts c.args.bytes.now c.split_numeral.result.0.now c.split_numeral.result.1.now c.split_at.result.0.now c.in-Some-after_places.rest.now c.split_numeral.ensures c.in-Some-after_places.ensures c.split_at.ensures.front in
    point_begins c.args.bytes.now c.split_numeral.result.0.now c.split_numeral.result.1.now c.split_at.result.0.now c.in-Some-after_places.rest.now (token_of c.point_token.result) c.requires c.split_numeral.ensures c.in-Some-after_places.ensures parts c.point_token.ensures
