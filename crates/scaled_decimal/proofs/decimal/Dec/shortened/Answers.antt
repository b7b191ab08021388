use Rattle.std.proofs.Common.{rules, arith, FitsSigned, sym, ◌∙◌, ◌≡◌, ◌<◌, pos, int_div, to_z}
use Rattle.std.specs.Int.{w128}
use Rattle.std.proofs.lemmas.Bool.Decides.{nat_tests}
use Rattle.std.proofs.lemmas.Int.{ints, to_z-of_z, quot_fits}
use Rattle.scaled_decimal.specs.Decimals.{decimal}
use Rattle.scaled_decimal.specs.ExactQuotients.{Divides}
use Rattle.scaled_decimal.specs.ShortenedDecimals.{shortened}
use Rattle.scaled_decimal.specs.laws.RoundingLemmas.{mag_quot}
use Rattle.scaled_decimal.proofs.ShortenedLemmas.{shortened_is, fewer, stays}
use Rattle.scaled_decimal.proofs.decimal.Dec.shortened.Goals as goal
use Rattle.scaled_decimal.proofs.decimal.Dec.shortened.Goals.{then-loop-places-test+else-divides, else-loop-places-test}

pub loop-places-preserved : goal.loop-places-preserved
loop-places-preserved c =
    let m = c.loop-places.numerator in
    let fm : FitsSigned w128 m = search rules in
    let fq : FitsSigned w128 (int_div m (pos 10)) = quot_fits w128 m (pos 10) fm (omega (arith, ints)) in
    let small = mag_quot m (pos 10) in
    let ends : Divides (pos 10) m = rw (← c.loop-places.numerator-is) (c.divides.ensures.0 c.if-divides.true) in
    let less = fewer c.args.least c.loop-places.places m (omega arith) ends in
    let before : shortened c.args.least (decimal m c.loop-places.places) ≡ shortened c.args.least c.args.self = rw (← c.loop-places.numerator-is) c.loop-places.invariant.is in
    rw (c.loop-places.numerator-is, to_z-of_z w128 (int_div m (pos 10)) fq) (record {
      is = sym less ∙ before;
      kept = omega (arith, ints, small, c.loop-places.invariant.kept);
      few = omega (arith, c.loop-places.invariant.few);
    })

pub returns-clause-value : goal.returns-clause-value
returns-clause-value c =
    let n = to_z w128 c.loop-places.numerator-bits in
    let no_more : c.args.least < c.loop-places.places → Divides (pos 10) n → ⊥ = elim c.loop-places-test.branch [
      | then-loop-places-test+else-divides w ↦ λ more ends. (let t = w.divides.ensures.1 ends in let f = w.if-divides.false in cc)
      | else-loop-places-test w ↦ λ more ends. (let f = w.loop-places-test.false in grind (arith, nat_tests))
    ] in
    c.new.ensures ∙ sym (stays c.args.least c.loop-places.places n no_more) ∙ c.loop-places.invariant.is

pub returns-clause-short : goal.returns-clause-short
returns-clause-short c enough = rw (returns-clause-value c) (shortened_is c.args.least c.args.self enough)
