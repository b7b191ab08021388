use Rattle.std.proofs.Common.{sym, ◌∙◌}
use Rattle.pap_reader.specs.Tags.{attributes_of}
use Rattle.pap_reader.proofs.ReaderSteps.{at_some}
use Rattle.pap_reader.proofs.Passing.{an_opening}
use Rattle.pap_reader.proofs.tags.read_tag.Goals as goal

pub returns-clause-found : goal.returns-clause-found
returns-clause-found c =
    an_opening c.args.bytes.now c.in-Some.inner.now c.split_letters.result.0.now c.split_letters.result.1.now c.in-Some-2.rest.now c.in-Some-2.form (attributes_of c.in-Some-2.attributes.items)
    c.in-Some.ensures.found (sym c.begins_with_letter.ensures ∙ c.if-not-begins_with_letter.false) c.split_letters.ensures.letters c.split_letters.ensures.left
    (at_some c.in_ok-attributes.field-0 _ _ _ c.in_ok-attributes.ensures.found c.in-Some-2.is)
