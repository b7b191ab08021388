use Rattle.std.proofs.Common.{sym, refl}
use Rattle.pap_tree.specs.Declarations.{declaration_of}
use Rattle.failing_input.proofs.SampleLemmas.{no_limit, range_is}
use Rattle.failing_input.proofs.samples.range_of.Goals as goal

pub unreachable-requires : goal.unreachable-requires
unreachable-requires c =
    no_limit c.args.limits.now (declaration_of c.args.input.now) c.requires c.in_default.ensures

pub returns : goal.returns
returns c =
    range_is c.args.limits.now (declaration_of c.args.input.now) _ c.requires refl (sym c.in-Some.ensures)
