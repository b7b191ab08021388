use Rattle.std.proofs.Common.{◌≡◌, drop}
use Rattle.pap_reader.specs.Tags.{attributes_of}
use Rattle.plan_notes.specs.AttributeBytes.{attribute_named}
use Rattle.plan_notes.proofs.attributes.attribute_named.Given as goal

abbrev pub invariant-loop-attribute : goal.invariant-loop-attribute
invariant-loop-attribute l =
    attribute_named l.name (attributes_of l.attributes)
    ≡ attribute_named l.name (attributes_of (drop l.attribute-index l.attributes))
