use Rattle.std.proofs.Common.{◌+◌, map, drop, ap, subst, arith}
use Rattle.std.proofs.Math.ListN.{drop_of_length-le}
use Rattle.pap_reader.specs.Trees.{raw_body_of, raw_routine_of}
use Rattle.pap_reader.specs.TreeLimits.{methods_written, raw_written}
use Rattle.plan_text.specs.Sites.{body_sites, routine_sites}
use Rattle.diagnostics.specs.private.FaultViews.{Finds}
use Rattle.diagnostics.proofs.FindLemmas.{GoesOn, begins, ends, goes_on, method_from}
use Rattle.diagnostics.proofs.expressions.FaultFinder.find_in_methods.Goals as goal

pub loop-method-init : goal.loop-method-init
loop-method-init c = (begins (routine_sites (map raw_routine_of c.args.raw.now)) c.args.self.now.faults.items, omega arith)

pub find_in_body-requires : goal.find_in_body-requires
find_in_body-requires c =
    let e = method_from c.args.raw.now c.loop-method.method-index c.method-item.result c.method-item.is c.loop-method-test.true in
    omega (arith, ap (λ l. methods_written (map raw_routine_of l)) e, c.loop-method.invariant.1, ap (λ l. raw_written (raw_body_of l)) c.deref.ensures.value, c.requires)

pub loop-method-preserved : goal.loop-method-preserved
loop-method-preserved c =
    let l = c.loop-method in
    let raw = c.args.raw.now in
    let method = c.method-item.result in
    let e = method_from raw l.method-index method c.method-item.is c.loop-method-test.true in
    let all = routine_sites (map raw_routine_of raw) in
    let own = body_sites method.name 0 (raw_body_of method.body.items) in
    let left = routine_sites (map raw_routine_of (drop (l.method-index + 1) raw)) in
    let before = c.args.self.now.faults.items in
    let now = l.self.faults.items in
    let new = c.find_in_body.new.self.faults.items in (
      goes_on all own left before now new (subst (λ r. GoesOn all (routine_sites (map raw_routine_of r)) before now) e l.invariant.0)
          (subst (λ b. Finds (body_sites method.name 0 (raw_body_of b)) now new) c.deref.ensures.value c.in_ok-find_in_body.ensures.finds),
      omega (arith, ap (λ l. methods_written (map raw_routine_of l)) e, l.invariant.1),
    )

pub returns : goal.returns
returns c =
    let l = c.loop-method in
    let raw = c.args.raw.now in
    ends (routine_sites (map raw_routine_of raw)) (routine_sites (map raw_routine_of (drop l.method-index raw))) c.args.self.now.faults.items l.self.faults.items
    (ap (λ r. routine_sites (map raw_routine_of r)) (drop_of_length-le raw (omega (arith, c.loop-method-test.false)))) l.invariant.0
