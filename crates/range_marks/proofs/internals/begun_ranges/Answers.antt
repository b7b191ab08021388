use Rattle.std.proofs.Common.{◌<◌, length, map, get_or, sym, ap, ◌∙◌, subst, arith}
use Rattle.std.proofs.lemmas.List.{length-map, get_or-map}
use Rattle.std.proofs.lemmas.List.Elements.{All-get_or}
use Rattle.pap_tree.specs.Declarations.{Declaration, declaration_of}
use Rattle.pap_types.specs.Typing.{HasItsType}
use Rattle.range_marks.proofs.internals.begun_ranges.Goals as goal

pub first_value-requires : goal.first_value-requires
first_value-requires c =
    let ds = c.args.variables.now in
    let i = c.loop-variable.variable-index in
    let d = c.variable-item.result in
    let within : i < length (map declaration_of ds) = omega (arith, length-map ds declaration_of, c.loop-variable-test.true) in
    subst HasItsType
    (get_or-map declaration_of ds i d (declaration_of d) c.loop-variable-test.true ∙ ap declaration_of (sym c.variable-item.is))
    (All-get_or HasItsType (map declaration_of ds) i (declaration_of d) within c.requires)
