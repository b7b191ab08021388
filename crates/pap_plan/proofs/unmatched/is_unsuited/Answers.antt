use Rattle.std.proofs.Common.{sym, ap, ◌∙◌}
use Rattle.std.specs.Option.{option_map}
use Rattle.pap_tree.specs.Declarations.{declaration_of}
use Rattle.pap_plan.proofs.LimitFaultLemmas.{unsuited_some, unsuited_none}
use Rattle.pap_plan.proofs.unmatched.is_unsuited.Goals as goal

pub returns-in-Some : goal.returns-in-Some
returns-in-Some c =
    unsuited_some c.args.ranges.now (declaration_of c.args.input.now) c.in-Some.limit.now c.suits.result
    (sym (ap (option_map (λ l. l.now)) c.in-Some.is) ∙ c.limit_of.ensures) c.suits.ensures

pub returns-in-None : goal.returns-in-None
returns-in-None c =
    unsuited_none c.args.ranges.now (declaration_of c.args.input.now) (sym (ap (option_map (λ l. l.now)) c.in-None.is) ∙ c.limit_of.ensures)
