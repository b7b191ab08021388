use Rattle.std.proofs.Common.{◌+◌, ◌++◌, drop, map, ap, sym, subst, ◌∙◌, arith}
use Rattle.std.proofs.lemmas.List.{drop_all}
use Rattle.pap_tree.specs.Flowchart.{body_of, routine_of}
use Rattle.pap_tree.specs.Statements.{written}
use Rattle.pap_types.specs.Counts.{AreSmallTerms}
use Rattle.pap_types.specs.private.FaultViews.{method_faults_in}
use Rattle.pap_types.proofs.MethodLemmas.{methods_from}
use Rattle.pap_types.proofs.StatementFaultLemmas.{small_method, room_method, next_method, all_methods}
use Rattle.pap_types.proofs.fault_list.FaultFinder.find_in_methods.Goals as goal

pub find_in_method-requires-clause-small : goal.find_in_method-requires-clause-small
find_in_method-requires-clause-small c =
    let ms = c.args.methods.now in
    let l = c.loop-method in
    let i = l.method-index in
    let m = c.method-item.result in
    subst (λ ss. AreSmallTerms (body_of ss)) (sym c.deref.ensures.value)
    (small_method c.args.scope.now c.args.self.now.faults.items l.self.faults.items (map routine_of ms) (map routine_of (drop i ms)) (map routine_of (drop (i + 1) ms))
    (routine_of m) (methods_from ms i m c.method-item.is c.loop-method-test.true) l.invariant)

pub find_in_method-requires-clause-room : goal.find_in_method-requires-clause-room
find_in_method-requires-clause-room c =
    let ms = c.args.methods.now in
    let l = c.loop-method in
    let i = l.method-index in
    let m = c.method-item.result in
    let room =
    room_method c.args.scope.now c.args.self.now.faults.items l.self.faults.items (map routine_of ms) (map routine_of (drop i ms)) (map routine_of (drop (i + 1) ms))
    (routine_of m) (methods_from ms i m c.method-item.is c.loop-method-test.true) l.invariant in
    let same = ap (λ ss. written (body_of ss)) c.deref.ensures.value in
    omega arith

pub loop-method-preserved : goal.loop-method-preserved
loop-method-preserved c =
    let s = c.args.scope.now in
    let ms = c.args.methods.now in
    let l = c.loop-method in
    let i = l.method-index in
    let m = c.method-item.result in
    let now = l.self.faults.items in
    next_method s c.args.self.now.faults.items now (map routine_of ms) (map routine_of (drop i ms)) (map routine_of (drop (i + 1) ms))
    (routine_of m) (methods_from ms i m c.method-item.is c.loop-method-test.true) l.invariant c.find_in_method.new.self.faults.items
    (c.in_ok-find_in_method.ensures ∙ ap (λ ss. now ++ method_faults_in s m.name (body_of ss)) c.deref.ensures.value)

pub returns : goal.returns
returns c =
    let ms = c.args.methods.now in
    let l = c.loop-method in
    all_methods c.args.scope.now c.args.self.now.faults.items l.self.faults.items (map routine_of ms) (map routine_of (drop l.method-index ms))
    (ap (map routine_of) (drop_all l.method-index ms (omega (arith, c.loop-method-test.false)))) l.invariant
