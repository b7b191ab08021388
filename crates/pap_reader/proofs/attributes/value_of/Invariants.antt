use Rattle.std.proofs.Common.{◌≡◌, drop}
use Rattle.pap_reader.specs.Attributes.{attribute_value}
use Rattle.pap_reader.specs.Tags.{attributes_of}
use Rattle.pap_reader.proofs.attributes.value_of.Given as goal

abbrev pub invariant-loop-attribute : goal.invariant-loop-attribute
invariant-loop-attribute l = attribute_value l.name (attributes_of l.attributes) ≡ attribute_value l.name (attributes_of (drop l.attribute-index l.attributes))
