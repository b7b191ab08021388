use Rattle.std.proofs.Common.{arith}
use Rattle.plain_words.specs.Strays.{nothing, more}
use Rattle.plain_words.proofs.stops.value_end.Goals as goal

pub loop-rest-init : goal.loop-rest-init
loop-rest-init c = record { reads = λ rest h. h; within = omega arith }

pub loop-rest-preserved : goal.loop-rest-preserved
loop-rest-preserved c = record {
  reads = λ rest h. c.loop-rest.invariant.reads rest (more c.in-Some.ensures.found h);
  within = omega (arith, c.loop-rest.invariant.within, c.in-Some.ensures.shorter);
}

pub returns-clause-reads : goal.returns-clause-reads
returns-clause-reads c = c.loop-rest.invariant.reads c.loop-rest.left.now nothing
