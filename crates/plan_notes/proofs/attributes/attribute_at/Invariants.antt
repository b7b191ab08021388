use Rattle.std.proofs.Common.{◌≡◌, drop, map}
use Rattle.pap_reader.specs.Contents.{token_meant, tokens_of}
use Rattle.plan_notes.specs.AttributeBytes.{attribute_at}
use Rattle.plan_notes.proofs.attributes.attribute_at.Given as goal

abbrev pub invariant-loop-token : goal.invariant-loop-token
invariant-loop-token l =
    attribute_at l.at l.name (tokens_of l.tokens)
    ≡ attribute_at l.at l.name (map token_meant (drop l.token-index l.tokens.items.items))
