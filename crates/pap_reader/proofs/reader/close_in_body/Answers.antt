use Rattle.std.proofs.Common.{codes, refl, sym, ap, ◌∙◌}
use Rattle.pap_reader.specs.declared.element.Element.TheVariants as elements
use Rattle.pap_reader.specs.declared.elements.RawStmt as raws
use Rattle.pap_reader.specs.Trees.{done, eval, branch, execute, raw_body_of}
use Rattle.pap_reader.specs.Meaning.{attribute_text, says, or_done}
use Rattle.pap_reader.proofs.Closings.{body_arm, body_kept, piece_statement, text_is, name_is, raw_stmt_then-If}
use Rattle.pap_reader.proofs.Pieces.{join-done}
use Rattle.pap_reader.proofs.reader.close_in_body.Goals as goal

pub returns-in_ok-push-in-Eval : goal.returns-in_ok-push-in-Eval
returns-in_ok-push-in-Eval c =
    body_arm c.args.child c.args.parent.now (record c.args.parent.now { statements = c.push.new.self }) c.args.element elements.Eval c.in-Eval.is (record { element = refl; children = refl; value = refl })
    (λ attributes p s h. piece_statement c.args.parent.now c.push.new.self (raws.Eval c.in-Text.exec) (eval (attribute_text (codes "exec") attributes) done) (says elements.Eval attributes p) c.in_ok-push-in-Eval.ensures.items
    (ap (λ t. eval t done) (text_is (attribute_text (codes "exec") attributes) c.args.child.value c.in-Text.exec c.in-Text.is s)) refl refl refl)

pub returns-in_ok-push-in-Execute : goal.returns-in_ok-push-in-Execute
returns-in_ok-push-in-Execute c =
    body_arm c.args.child c.args.parent.now (record c.args.parent.now { statements = c.push-in-Execute.new.self }) c.args.element elements.Execute c.in-Execute.is (record { element = refl; children = refl; value = refl })
    (λ attributes p s h. piece_statement c.args.parent.now c.push-in-Execute.new.self (raws.Execute c.in-Named.method) (execute (attribute_text (codes "method") attributes) done) (says elements.Execute attributes p) c.in_ok-push-in-Execute.ensures.items
    (ap (λ t. execute t done) (name_is (attribute_text (codes "method") attributes) c.args.child.value c.in-Named.method c.in-Named.is s)) refl refl refl)

pub returns-in_ok-push-in-If : goal.returns-in_ok-push-in-If
returns-in_ok-push-in-If c =
    let ys = c.args.child.yes in
    let zs = c.args.child.no in
    let t = c.in-Text-value.test in
    body_arm c.args.child c.args.parent.now (record c.args.parent.now { statements = c.push-in-If.new.self }) c.args.element elements.If c.in-If.is (record { element = refl; children = refl; value = refl })
    (λ attributes p s h. piece_statement c.args.parent.now c.push-in-If.new.self (raws.If t ys zs) (branch (attribute_text (codes "expr") attributes) (or_done p.yes) (or_done p.no) done) (says elements.If attributes p) c.in_ok-push-in-If.ensures.items
    (raw_stmt_then-If t ys zs done ∙ ap (λ x. branch x (raw_body_of ys.items) (raw_body_of zs.items) done) (text_is (attribute_text (codes "expr") attributes) c.args.child.value t c.in-Text-value.is s)
    ∙ ap (λ x. branch (attribute_text (codes "expr") attributes) x (raw_body_of zs.items) done) h.yes ∙ ap (λ x. branch (attribute_text (codes "expr") attributes) (or_done p.yes) x done) h.no) refl refl refl)

pub returns-in-Then : goal.returns-in-Then
returns-in-Then c =
    body_arm c.args.child c.args.parent.now (record c.args.parent.now { yes = c.args.child.statements }) c.args.element elements.Then c.in-Then.is (record { element = refl; children = refl; value = refl })
    (λ attributes p s h. record { statements = sym (join-done (raw_body_of c.args.parent.now.statements.items)); yes = λ m g. h.statements; no = λ m g. g })

pub returns-in-Else : goal.returns-in-Else
returns-in-Else c =
    body_arm c.args.child c.args.parent.now (record c.args.parent.now { no = c.args.child.statements }) c.args.element elements.Else c.in-Else.is (record { element = refl; children = refl; value = refl })
    (λ attributes p s h. record { statements = sym (join-done (raw_body_of c.args.parent.now.statements.items)); yes = λ m g. g; no = λ m g. h.statements })

pub returns-in_default : goal.returns-in_default
returns-in_default c = body_kept c.args.child c.args.parent.now c.args.element c.in_default.not-Eval c.in_default.not-Execute c.in_default.not-If c.in_default.not-Then c.in_default.not-Else
