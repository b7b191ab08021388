use Rattle.std.proofs.Common.{refl, ap}
use Rattle.pap_reader.specs.declared.tags.Form.TheVariants as forms
use Rattle.pap_reader.specs.Marks.{begins}
use Rattle.pap_reader.specs.Tags.{attributes_of, tag_of}
use Rattle.pap_reader.proofs.Verdicts.{judges_one, judges_end, takes_form, foreign_refused}
use Rattle.pap_reader.proofs.reader.Reader.take.Goals as goal

pub returns-in_default : goal.returns-in_default
returns-in_default c = λ before os ws h. foreign_refused c.args.at before os (tag_of c.args.tag.now) c.named.result c.named.ensures c.in_default.is

pub returns-in-Start : goal.returns-in-Start
returns-in-Start c = λ before os ws h.
    let own = attributes_of c.deref.result.now in
    let e = c.in-Some.element in
    takes_form c.args.at before os ws (tag_of c.args.tag.now) forms.Start c.named.result e own c.open.new.self c.open.result
    c.named.ensures c.in-Some.is c.in-Start.is (ap attributes_of c.deref.ensures.value)
    (judges_one c.args.at before os ws (begins e own) c.open.new.self c.open.result (c.open.ensures before os ws h))

pub returns-in-Empty : goal.returns-in-Empty
returns-in-Empty c = λ before os ws h.
    let own = attributes_of c.deref-in-Empty.result.now in
    let e = c.in-Some.element in
    takes_form c.args.at before os ws (tag_of c.args.tag.now) forms.Empty c.named.result e own c.open_and_close.new.self c.open_and_close.result
    c.named.ensures c.in-Some.is c.in-Empty.is (ap attributes_of c.deref-in-Empty.ensures.value)
    (c.open_and_close.ensures before os ws h)

pub returns-in-End : goal.returns-in-End
returns-in-End c = λ before os ws h.
    let own = attributes_of c.args.tag.now.attributes.items in
    let e = c.in-Some.element in
    takes_form c.args.at before os ws (tag_of c.args.tag.now) forms.End c.named.result e own c.close.new.self c.close.result
    c.named.ensures c.in-Some.is c.in-End.is refl
    (judges_end c.args.at before os ws e c.close.new.self c.close.result (c.close.ensures before os ws h))
