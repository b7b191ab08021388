use Rattle.std.proofs.Common.{◌+◌, map, drop, ap, subst, arith}
use Rattle.std.proofs.Math.ListN.{drop_of_length-le}
use Rattle.pap_reader.specs.Trees.{raw_declaration_of}
use Rattle.plan_text.specs.Sites.{declared_sites, literal_sites}
use Rattle.diagnostics.proofs.FindLemmas.{GoesOn, begins, declared_from, ends, goes_on}
use Rattle.diagnostics.proofs.expressions.FaultFinder.find_declared.Goals as goal

pub loop-declaration-init : goal.loop-declaration-init
loop-declaration-init c = begins (declared_sites (map raw_declaration_of c.args.raw.now)) c.args.self.now.faults.items

pub loop-declaration-preserved : goal.loop-declaration-preserved
loop-declaration-preserved c =
    let l = c.loop-declaration in
    let raw = c.args.raw.now in
    let all = declared_sites (map raw_declaration_of raw) in
    let own = literal_sites (raw_declaration_of c.declaration-item.result) in
    let left = declared_sites (map raw_declaration_of (drop (l.declaration-index + 1) raw)) in
    let before = c.args.self.now.faults.items in
    let now = l.self.faults.items in
    goes_on all own left before now c.find_literal.new.self.faults.items
    (subst (λ s. GoesOn all s before now) (declared_from raw l.declaration-index c.declaration-item.result c.declaration-item.is c.loop-declaration-test.true) l.invariant)
    c.in_ok-find_literal.ensures

pub returns : goal.returns
returns c =
    let l = c.loop-declaration in
    let raw = c.args.raw.now in
    ends (declared_sites (map raw_declaration_of raw)) (declared_sites (map raw_declaration_of (drop l.declaration-index raw))) c.args.self.now.faults.items l.self.faults.items
    (ap (λ r. declared_sites (map raw_declaration_of r)) (drop_of_length-le raw (omega (arith, c.loop-declaration-test.false)))) l.invariant
