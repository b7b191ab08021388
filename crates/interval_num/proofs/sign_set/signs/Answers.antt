use Rattle.std.proofs.Common.{subst, sym}
use Rattle.interval_num.specs.Soundness.{SignsAreSound}
use Rattle.interval_num.proofs.AlignmentLemmas.{signs_same}
use Rattle.interval_num.proofs.OrderLemmas.{signs_sound}
use Rattle.interval_num.proofs.sign_set.signs.Goals as goal

pub returns-then-s_hi-clause-exact : goal.returns-then-s_hi-clause-exact
returns-then-s_hi-clause-exact c = cc (c.signs_at.ensures, signs_same c.args.a c.args.b (cc (c.if-s_hi.true, c.s_hi.ensures.value, c.s_hi-2.ensures.value)))

pub returns-then-s_hi-clause-sound : goal.returns-then-s_hi-clause-sound
returns-then-s_hi-clause-sound c =
    subst (SignsAreSound c.args.a c.args.b) (sym (returns-then-s_hi-clause-exact c)) (signs_sound c.args.a c.args.b)

pub returns-clause-exact : goal.returns-clause-exact
returns-clause-exact c = cc (c.signs_at-2.ensures, c.at_scale.ensures.value, c.at_scale-2.ensures.value, c.greater_scale-q.ensures.value)

pub returns-clause-sound : goal.returns-clause-sound
returns-clause-sound c = subst (SignsAreSound c.args.a c.args.b) (sym (returns-clause-exact c)) (signs_sound c.args.a c.args.b)
