use Rattle.std.proofs.Common.{sym, subst}
use Rattle.limits_file.specs.Limits.{Fits}
use Rattle.failing_input.proofs.SampleLemmas.{few_places, factor_chosen}
use Rattle.failing_input.proofs.samples.value_of_choice.Goals as goal

pub at_factor_scale-requires : goal.at_factor_scale-requires
at_factor_scale-requires c =
    few_places c.args.kind c.args.limit.now c.kept-value.result c.in-Factor.is c.requires.sound c.requires.suits
    (subst (Fits c.args.limit.now) (sym c.kept-value.ensures.value) c.fitting.ensures)

pub returns-in-Factor : goal.returns-in-Factor
returns-in-Factor c =
    factor_chosen c.args.kind c.args.limit.now c.kept-value.result c.at_factor_scale.result c.in-Factor.is
    c.requires.sound c.requires.suits
    (subst (Fits c.args.limit.now) (sym c.kept-value.ensures.value) c.fitting.ensures) c.at_factor_scale.ensures
