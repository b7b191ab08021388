use Rattle.std.proofs.Common.{arith, sym, ◌∙◌, true≢false}
use Rattle.checked_run.proofs.OperationLemmas.{exact_scale, exact_wide, exact_found}
use Rattle.checked_run.proofs.operations.exact_quotient.Goals as goal

pub returns-then-scale-places-gt-MOST_PLACES : goal.returns-then-scale-places-gt-MOST_PLACES
returns-then-scale-places-gt-MOST_PLACES c =
    exact_scale c.args.a c.args.b c.places_of-places.result c.requires c.places_of-places.ensures.places
    (omega (arith, c.scale.ensures.value))

pub returns-then-exact_quotient_fits : goal.returns-then-exact_quotient_fits
returns-then-exact_quotient_fits c =
    exact_found c.args.a c.args.b c.places_of-places.result c.requires c.places_of-places.ensures.places
    c.exact_quotient.result (c.exact_quotient_fits.ensures.0 c.if-exact_quotient_fits.true) c.exact_quotient.ensures

pub returns-else-exact_quotient_fits : goal.returns-else-exact_quotient_fits
returns-else-exact_quotient_fits c =
    exact_wide c.args.a c.args.b c.places_of-places.result c.requires c.places_of-places.ensures.places
    (omega (arith, c.scale.ensures.value))
    (λ fits. true≢false (sym (c.exact_quotient_fits.ensures.1 fits) ∙ c.if-exact_quotient_fits.false))
