use Rattle.std.proofs.Common.{sym}
use Rattle.pap_reader.specs.Tags.{attribute_of}
use Rattle.plan_notes.proofs.attributes.value_byte.Goals as goal

pub returns : goal.returns
returns c = record {
  attribute = attribute_of c.in_ok-attribute.attribute.now;
  there = sym c.in_ok-attribute.ensures;
  left = c.behind_bytes-left.result.now;
  behind = c.behind_bytes-left.ensures;
  is = c.saturating_sub.ensures;
}
