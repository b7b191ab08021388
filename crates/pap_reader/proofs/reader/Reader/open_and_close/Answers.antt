use Rattle.std.proofs.Common.{◌∷◌, [], sym, ◌∙◌}
use Rattle.std.proofs.lemmas.Result.{err_from_is_err_and}
use Rattle.pap_reader.specs.Structure.{opens}
use Rattle.pap_reader.specs.Marks.{begins, ends}
use Rattle.pap_reader.specs.Attributes.{is_right}
use Rattle.pap_reader.specs.private.VerdictDecisions.{verdict_on}
use Rattle.pap_reader.specs.private.ReaderViews.{Refuses, one_verdict}
use Rattle.pap_reader.specs.Tags.{attributes_of}
use Rattle.pap_reader.proofs.Verdicts.{pair_refused, refuses_same, judges_pair}
use Rattle.pap_reader.proofs.reader.Reader.open_and_close.Goals as goal

pub returns-in_err-open : goal.returns-in_err-open
returns-in_err-open c = λ before os ws h.
    let attributes = attributes_of c.args.attributes.now in
    let e = c.args.element in
    let p = err_from_is_err_and c.from_residual.result c.from_residual.ensures.1 in
    let d = sym (c.is_complete.ensures [] c.none.ensures) ∙ c.if-not-is_complete.false in
    let f = c.in_err-open.field-0.0 in
    let r : Refuses f (verdict_on before os c.args.at (begins e attributes ∷ ends e ∷ [])) =
    refuses_same f (one_verdict c.args.at before os (is_right e attributes) (opens e)) (verdict_on before os c.args.at (begins e attributes ∷ ends e ∷ []))
    (λ g k. pair_refused c.args.at before os e attributes g d k) (c.in_err-open.ensures before os ws h) in
    rw (p.1, p.2) r

pub returns : goal.returns
returns c = λ before os ws h.
    let a = c.in_ok-open.ensures before os ws h in
    let d = c.is_complete.ensures [] c.none.ensures in
    let attributes = attributes_of c.args.attributes.now in
    judges_pair c.args.at before os ws c.args.element attributes c.open.new.self c.close.new.self c.close.result a.0 a.1 (sym d ∙ c.if-not-is_complete.false)
    (c.close.ensures _ a.0.next _ a.0.stands)
