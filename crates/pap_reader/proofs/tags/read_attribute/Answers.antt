use Rattle.pap_reader.proofs.ReaderSteps.{at_some}
use Rattle.pap_reader.proofs.Lexing.{an_attribute}
use Rattle.pap_reader.proofs.tags.read_attribute.Goals as goal

pub returns-clause-found : goal.returns-clause-found
returns-clause-found c =
    let f = c.in-Some.ensures.found in
    let v = at_some c.in_ok-value.field-0 _ _ _ c.in_ok-value.ensures.found c.in-Some-2.is in
    let s = at_some c.in_ok-value.field-0 _ _ _ c.in_ok-value.ensures.shorter c.in-Some-2.is in
    an_attribute c.args.bytes.now c.in-Some.field-0.name.now c.in-Some.field-0.text.now c.in-Some-2.value.items c.in-Some-2.rest.now c.in-Some.field-0.quote f.0 f.1 f.2 f.3 v s
