use Rattle.std.proofs.Common.{[], ◌∷◌, false}
use Rattle.pap_reader.specs.Tags.{attributes_of}
use Rattle.pap_reader.specs.Marks.{begins}
use Rattle.plan_notes.specs.Edges.{edge}
use Rattle.plan_notes.specs.Contents.{place, root_at}
use Rattle.plan_notes.proofs.NoteLemmas.{keeps_root, keeps_on}
use Rattle.plan_notes.proofs.scan.Scan.begin.Goals as goal

pub returns : goal.returns
returns c =
    let old = c.args.self.now in
    let kept = c.in_ok-keep_root.ensures in
    let attributes = attributes_of c.args.tag.now.attributes.items in
    keeps_on old c.keep_root.new.self c.mark.new.self [] (place (edge c.args.element false c.args.at) ∷ [])
    (λ before. root_at before (begins c.args.element attributes)) (λ before. before) c.mark.result
    (keeps_root old c.keep_root.new.self (λ before. root_at before (begins c.args.element attributes)) kept.marks kept.comments kept.first kept.root)
    c.mark.ensures
