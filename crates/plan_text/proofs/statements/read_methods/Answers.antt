use Rattle.std.proofs.Common.{◌+◌, [], ◌∷◌, map, drop, refl, sym, ap, subst, ◌∙◌, arith}
use Rattle.std.proofs.lemmas.List.{map-append}
use Rattle.std.proofs.Math.ListN.{drop_of_length-le}
use Rattle.pap_tree.specs.declared.plan.Method.{Method}
use Rattle.pap_tree.specs.Flowchart.{routine_of, body_of}
use Rattle.pap_reader.specs.Trees.{raw_routine_of, raw_body_of}
use Rattle.pap_reader.specs.TreeLimits.{raw_written}
use Rattle.plan_text.specs.Plans.{AreRoutines, IsBody}
use Rattle.plan_text.specs.Sites.{routine_sites, body_sites}
use Rattle.plan_text.specs.private.Views.{TellsFault}
use Rattle.plan_text.proofs.ExpressionLemmas.{AreRead, none_yet, one_more, method_fails, method_from, method_room, all_read}
use Rattle.plan_text.proofs.SiteLemmas.{passed}
use Rattle.plan_text.proofs.statements.read_methods.Goals as goal

pub loop-method-init : goal.loop-method-init
loop-method-init c =
    subst (λ ms. AreRead (map raw_routine_of c.args.raw.now) (map raw_routine_of c.args.raw.now) (map routine_of ms)) (sym c.new-methods.ensures.items) (none_yet (map raw_routine_of c.args.raw.now))

pub read_statements-requires : goal.read_statements-requires
read_statements-requires c =
    let all = map raw_routine_of c.args.raw.now in
    let left = map raw_routine_of (drop (c.loop-method.method-index + 1) c.args.raw.now) in
    let e = method_from c.args.raw.now c.loop-method.method-index c.method-item.result c.method-item.is c.loop-method-test.true in
    let h = method_room all (raw_routine_of c.method-item.result) left (map routine_of c.loop-method.methods.items) (subst (λ l. AreRead all l (map routine_of c.loop-method.methods.items)) e c.loop-method.invariant) in
    omega (arith, h, ap (λ l. raw_written (raw_body_of l)) c.deref.ensures.value, c.requires)

pub returns-in_err-body : goal.returns-in_err-body
returns-in_err-body c =
    let all = map raw_routine_of c.args.raw.now in
    let left = map raw_routine_of (drop (c.loop-method.method-index + 1) c.args.raw.now) in
    let r = raw_routine_of c.method-item.result in
    let e = method_from c.args.raw.now c.loop-method.method-index c.method-item.result c.method-item.is c.loop-method-test.true in
    passed (routine_sites all) (λ read. AreRoutines all (map routine_of read.items)) c.from_residual.result c.in_err-body.field-0.0
    (method_fails all r left (map routine_of c.loop-method.methods.items) c.in_err-body.field-0.0 (subst (λ l. AreRead all l (map routine_of c.loop-method.methods.items)) e c.loop-method.invariant)
    (subst (λ l. TellsFault (body_sites r.name 0 (raw_body_of l)) c.in_err-body.field-0.0) c.deref.ensures.value c.in_err-body.ensures))
    c.from_residual.ensures.1

pub loop-method-preserved : goal.loop-method-preserved
loop-method-preserved c =
    let all = map raw_routine_of c.args.raw.now in
    let left = map raw_routine_of (drop (c.loop-method.method-index + 1) c.args.raw.now) in
    let r = raw_routine_of c.method-item.result in
    let e = method_from c.args.raw.now c.loop-method.method-index c.method-item.result c.method-item.is c.loop-method-test.true in
    let m : Method = record { name = c.method-item.result.name; body = c.in_ok-body.body } in
    let new = ap (map routine_of) c.in_ok-push.ensures.items ∙ map-append routine_of c.loop-method.methods.items (m ∷ []) in
    subst (AreRead all left) (sym new)
    (one_more all r left (map routine_of c.loop-method.methods.items) (routine_of m) (subst (λ l. AreRead all l (map routine_of c.loop-method.methods.items)) e c.loop-method.invariant) refl
    (subst (λ l. IsBody (raw_body_of l) (body_of c.in_ok-body.body.items)) c.deref.ensures.value c.in_ok-body.ensures))

pub returns : goal.returns
returns c =
    all_read (map raw_routine_of c.args.raw.now) (map raw_routine_of (drop c.loop-method.method-index c.args.raw.now)) (map routine_of c.loop-method.methods.items)
    (ap (map raw_routine_of) (drop_of_length-le c.args.raw.now (omega (arith, c.loop-method-test.false))))
    c.loop-method.invariant
