use Rattle.std.proofs.Common.{◌≡◌, drop}
use Rattle.pap_reader.specs.Attributes.{are_short}
use Rattle.pap_reader.specs.Tags.{attributes_of}
use Rattle.pap_reader.proofs.attributes.are_short.Given as goal

abbrev pub invariant-loop-attribute : goal.invariant-loop-attribute
invariant-loop-attribute l = are_short (attributes_of l.attributes) ≡ are_short (attributes_of (drop l.attribute-index l.attributes))
