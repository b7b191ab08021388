use Rattle.interval_num.proofs.AlignmentLemmas.{aligned_same}
use Rattle.interval_num.proofs.alignment.aligned.Goals as goal

pub returns-then-s_hi-clause-exact : goal.returns-then-s_hi-clause-exact
returns-then-s_hi-clause-exact c = λ make. aligned_same c.args.a c.args.b (cc (c.if-s_hi.true, c.s_hi.ensures.value, c.s_hi-2.ensures.value)) make c.s_hi.ensures.kept.ends c.s_hi-2.ensures.kept.ends
