use Rattle.std.proofs.Common.{sym, subst, ◌∙◌}
use Rattle.scaled_decimal.specs.ExactQuotients.{IsPlainDivisor}
use Rattle.scaled_decimal.specs.WorkingNumbers.{IsDivisorPlaces}
use Rattle.checked_run.proofs.OperationLemmas.{held_is}
use Rattle.checked_run.proofs.fits.places_of.Goals as goal

pub divisor_places-requires : goal.divisor_places-requires
divisor_places-requires c =
    subst IsPlainDivisor (sym (held_is c.numerator.result c.numerator.ensures.kept ∙ c.numerator.ensures.value)) c.requires

pub returns-clause-places : goal.returns-clause-places
returns-clause-places c =
    subst (λ d. IsDivisorPlaces d c.divisor_places.result)
    (held_is c.numerator.result c.numerator.ensures.kept ∙ c.numerator.ensures.value) c.divisor_places.ensures.places
