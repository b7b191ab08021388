use Rattle.std.proofs.Common.{arith, ap, ◌∙◌}
use Rattle.pap_reader.specs.Tags.{attribute_of, attributes_of}
use Rattle.pap_reader.proofs.ReaderSteps.{at_some, at_none}
use Rattle.pap_reader.proofs.Closings.{map_one}
use Rattle.pap_reader.proofs.Lexing.{attributes_more, attributes_none}
use Rattle.pap_reader.proofs.tags.read_ending.Goals as goal

pub loop-attributes-preserved : goal.loop-attributes-preserved
loop-attributes-preserved c =
    let i = c.loop-attributes.invariant in
    let a = at_some c.in_ok-attribute.field-0 _ _ _ c.in_ok-attribute.ensures.found c.in-Some.is in
    let s = at_some c.in_ok-attribute.field-0 _ _ _ c.in_ok-attribute.ensures.shorter c.in-Some.is in
    record {
      reads = attributes_more c.args.bytes.now (attributes_of c.loop-attributes.attributes.items) (attributes_of c.push.new.self.items) c.loop-attributes.left.now c.in-Some.rest.now (attribute_of c.in-Some.attribute) i.reads a
          (ap attributes_of c.in_ok-push.ensures.items ∙ map_one attribute_of c.loop-attributes.attributes.items c.in-Some.attribute);
      shorter = omega (arith, i.shorter, s);
    }

pub returns-clause-found : goal.returns-clause-found
returns-clause-found c =
    attributes_none c.args.bytes.now (attributes_of c.loop-attributes.attributes.items) c.loop-attributes.left.now c.loop-attributes.invariant.reads
    (at_none c.in_ok-attribute.field-0 _ _ c.in_ok-attribute.ensures.found c.in_default.is) c.in-None.ensures.found
