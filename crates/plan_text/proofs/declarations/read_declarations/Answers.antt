use Rattle.std.proofs.Common.{◌+◌, [], ◌∷◌, map, drop, sym, ap, subst, ◌∙◌, arith}
use Rattle.std.proofs.lemmas.List.{map-append}
use Rattle.std.proofs.Math.ListN.{drop_of_length-le}
use Rattle.pap_tree.specs.Declarations.{declaration_of}
use Rattle.pap_reader.specs.Trees.{raw_declaration_of}
use Rattle.plan_text.specs.Plans.{AreDeclarations}
use Rattle.plan_text.specs.Sites.{declared_sites}
use Rattle.plan_text.proofs.DeclarationLemmas.{AreRead, none_yet, one_more, fails_at, left_from, all_read}
use Rattle.plan_text.proofs.SiteLemmas.{passed}
use Rattle.plan_text.proofs.declarations.read_declarations.Goals as goal

pub loop-declaration-init : goal.loop-declaration-init
loop-declaration-init c =
    subst (λ ds. AreRead (map raw_declaration_of c.args.raw.now) (map raw_declaration_of c.args.raw.now) (map declaration_of ds)) (sym c.new-read.ensures.items) (none_yet (map raw_declaration_of c.args.raw.now))

pub returns-in_err-read_declaration : goal.returns-in_err-read_declaration
returns-in_err-read_declaration c =
    let all = map raw_declaration_of c.args.raw.now in
    let left = map raw_declaration_of (drop (c.loop-declaration.declaration-index + 1) c.args.raw.now) in
    let r = raw_declaration_of c.declaration-item.result in
    let e = left_from c.args.raw.now c.loop-declaration.declaration-index c.declaration-item.result c.declaration-item.is c.loop-declaration-test.true in
    passed (declared_sites all) (λ read. AreDeclarations all (map declaration_of read.items)) c.from_residual.result c.in_err-read_declaration.field-0.0
    (fails_at all r left (map declaration_of c.loop-declaration.read.items) c.in_err-read_declaration.field-0.0 (subst (λ l. AreRead all l (map declaration_of c.loop-declaration.read.items)) e c.loop-declaration.invariant) c.in_err-read_declaration.ensures)
    c.from_residual.ensures.1

pub loop-declaration-preserved : goal.loop-declaration-preserved
loop-declaration-preserved c =
    let all = map raw_declaration_of c.args.raw.now in
    let left = map raw_declaration_of (drop (c.loop-declaration.declaration-index + 1) c.args.raw.now) in
    let r = raw_declaration_of c.declaration-item.result in
    let e = left_from c.args.raw.now c.loop-declaration.declaration-index c.declaration-item.result c.declaration-item.is c.loop-declaration-test.true in
    let new = ap (map declaration_of) c.in_ok-push.ensures.items ∙ map-append declaration_of c.loop-declaration.read.items (c.in_ok-read_declaration.field-0 ∷ []) in
    subst (AreRead all left) (sym new)
    (one_more all r left (map declaration_of c.loop-declaration.read.items) (declaration_of c.in_ok-read_declaration.field-0) (subst (λ l. AreRead all l (map declaration_of c.loop-declaration.read.items)) e c.loop-declaration.invariant) c.in_ok-read_declaration.ensures)

pub returns : goal.returns
returns c =
    all_read (map raw_declaration_of c.args.raw.now) (map raw_declaration_of (drop c.loop-declaration.declaration-index c.args.raw.now)) (map declaration_of c.loop-declaration.read.items)
    (ap (map raw_declaration_of) (drop_of_length-le c.args.raw.now (omega (arith, c.loop-declaration-test.false))))
    c.loop-declaration.invariant
