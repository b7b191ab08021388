use Rattle.std.proofs.Common.{[], ◌∷◌, sym, ap, subst, ◌∙◌}
use Rattle.pap_tree.specs.Grammar.{Level}
use Rattle.plan_text.specs.declared.fault.Spot.TheVariants.{Statement}
use Rattle.plan_text.specs.Sites.{text_site}
use Rattle.plan_text.specs.private.Views.{TellsFault, fault_at}
use Rattle.plan_text.proofs.SiteLemmas.{of_text}
use Rattle.plan_text.proofs.statements.StatementReader.read_test.Goals as goal

pub returns-in-Err-clause-says : goal.returns-in-Err-clause-says
returns-in-Err-clause-says c =
    let spot = Statement c.args.self.now.method c.args.self.now.next in
    subst (TellsFault (text_site (Level 0) c.args.text.now spot ∷ [])) (sym (c.expr_fault.ensures ∙ ap (λ s. fault_at s c.in-Err.fault) c.next_spot-spot.ensures.spot))
    (of_text (Level 0) c.args.text.now spot c.in-Err.fault c.in-Err.ensures.fault)
