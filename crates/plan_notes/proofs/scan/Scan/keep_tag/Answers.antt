use Rattle.std.proofs.Common.{[], ◌∷◌, true, false, Some, sym, ◌∙◌}
use Rattle.pap_reader.specs.declared.tags.Form.TheVariants as forms
use Rattle.pap_reader.specs.Tags.{tag_of, attributes_of}
use Rattle.pap_reader.specs.Marks.{begins}
use Rattle.plan_notes.specs.Edges.{edge}
use Rattle.plan_notes.specs.Contents.{place, root_at}
use Rattle.plan_notes.proofs.NoteLemmas.{keeps_on, keeps_tag}
use Rattle.plan_notes.proofs.scan.Scan.keep_tag.Goals as goal

pub returns-in-Start : goal.returns-in-Start
returns-in-Start c =
    keeps_tag c.args.self.now c.begin.new.self c.args.at (tag_of c.args.tag.now) forms.Start (Some c.in-Some.element)
    c.begin.result c.in-Start.is (sym c.named.ensures ∙ c.in-Some.is) c.begin.ensures

pub returns-in_ok-begin-in-Empty : goal.returns-in_ok-begin-in-Empty
returns-in_ok-begin-in-Empty c =
    let e = c.in-Some.element in
    let attributes = attributes_of c.args.tag.now.attributes.items in
    keeps_tag c.args.self.now c.mark.new.self c.args.at (tag_of c.args.tag.now) forms.Empty (Some e)
    c.mark.result c.in-Empty.is (sym c.named.ensures ∙ c.in-Some.is)
    (keeps_on c.args.self.now c.begin-in-Empty.new.self c.mark.new.self (place (edge e false c.args.at) ∷ [])
    (place (edge e true c.args.at) ∷ []) (λ before. root_at before (begins e attributes)) (λ before. before) c.mark.result
    c.in_ok-begin-in-Empty.ensures c.mark.ensures)

pub returns-in-End : goal.returns-in-End
returns-in-End c =
    keeps_tag c.args.self.now c.mark-in-End.new.self c.args.at (tag_of c.args.tag.now) forms.End (Some c.in-Some.element)
    c.mark-in-End.result c.in-End.is (sym c.named.ensures ∙ c.in-Some.is) c.mark-in-End.ensures
