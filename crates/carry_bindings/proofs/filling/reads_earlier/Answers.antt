use Rattle.std.proofs.Common.{sym, ap, ◌∙◌}
use Rattle.std.proofs.lemmas.Bool.{OnFalse_from}
use Rattle.carry_bindings.specs.Filling.{ReadsNothing, has_carry}
use Rattle.carry_bindings.proofs.CarryLemmas.{reads_nothing}
use Rattle.carry_bindings.proofs.filling.reads_earlier.Goals as goal

pub returns-clause-none : goal.returns-clause-none
returns-clause-none c =
    let slots = c.args.spec.now.slots in
    OnFalse_from c.has_carry.result (ReadsNothing slots) (λ none. reads_nothing slots (ap has_carry (sym c.as_slice.ensures) ∙ sym c.has_carry.ensures ∙ none))
