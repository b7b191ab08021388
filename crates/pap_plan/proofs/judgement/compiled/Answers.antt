use Rattle.std.proofs.Common.{◌≡◌, Option, Some, None, refl, rules}
use Rattle.std.specs.Option.{option_or}
use Rattle.pap_plan.proofs.judgement.compiled.Goals as goal

first_none : {A : Type 0} (x y : Option A) → option_or x y ≡ None → x ≡ None
first_none None y e = refl
first_none (Some a) y e = absurd (cc)

pub invariant_of-result : goal.invariant_of-result
invariant_of-result c =
    let slots = rw c.plan.ensures.text at c.in_ok-spec.ensures in
    record {
      accepted = search rules;
      bound = search rules;
      slots = slots (first_none _ _ c.requires.bound.passed.suited.named.matching);
      code = rw c.in_ok-code-2.ensures c.in_ok-code.ensures.means;
      compiled = rw c.in_ok-code-2.ensures c.in_ok-code.ensures.compiled;
    }
