use Rattle.carry_bindings.proofs.FitLemmas.{double_kept}
use Rattle.carry_bindings.proofs.filling.kept_as.Goals as goal

pub at_factor_scale-requires : goal.at_factor_scale-requires
at_factor_scale-requires c = double_kept c.args.slot.now.limit c.args.value (c.requires.suits c.in-Factor.is) c.requires.fits
