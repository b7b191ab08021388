use Rattle.std.proofs.Common.{◌≡◌, ap, sym, ◌∙◌, subst}
use Rattle.std.specs.Prelude.{None, Some}
use Rattle.std.specs.Option.{option_copied}
use Rattle.plain_words.specs.Helps.{help_of}
use Rattle.plain_words.specs.Refusals.{IsPlaceOf}
use Rattle.plain_words.specs.private.FoundViews.{HelpsAs}
use Rattle.plain_words.proofs.plan.find_refusal.Goals as goal

pub returns-in-Some-clause-place : goal.returns-in-Some-clause-place
returns-in-Some-clause-place c =
    subst (IsPlaceOf c.args.plan.bytes.now c.args.refusal.now) (sym c.with_help.ensures.place) c.in_ok-found.ensures.place

pub returns-in-Some-clause-help : goal.returns-in-Some-clause-help
returns-in-Some-clause-help c =
    let helps : help_of c.args.refusal.now ≡ Some c.in-Some.help.now =
    sym c.help_of.ensures ∙ ap option_copied c.in-Some.is in
    subst (λ help. HelpsAs help c.with_help.result) (sym helps) c.with_help.ensures.help

pub returns-in-None-clause-help : goal.returns-in-None-clause-help
returns-in-None-clause-help c =
    let helps : help_of c.args.refusal.now ≡ None = sym c.help_of.ensures ∙ ap option_copied c.in-None.is in
    subst (λ help. HelpsAs help c.in_ok-found.found) (sym helps) tt
