use Rattle.std.proofs.Common.{refl, subst}
use Rattle.std.specs.Prelude.{Err, MatchOption}
use Rattle.author_cli.specs.declared.stop.Stop.TheVariants as stops
use Rattle.author_cli.specs.Words.{texts, HasForm, IsBad}
use Rattle.author_cli.specs.private.WordViews.{form_of}
use Rattle.author_cli.specs.Outside.{outside_of}
use Rattle.author_cli.specs.CallClauses.{Carries}
use Rattle.author_cli.proofs.WordLemmas.{one_form}
use Rattle.author_cli.proofs.LeavesLemmas.{carries}
use Rattle.author_cli.proofs.call.pap_author.Goals as goal

pub returns-in-Ok-Some-clause-carries : goal.returns-in-Ok-Some-clause-carries
returns-in-Ok-Some-clause-carries g c = λ form has.
    let words = texts c.args.words.now in
    let own = form_of c.in-Ok-Some.request in
    let is = subst (λ o. MatchOption o (IsBad words) (λ request. HasForm words (form_of request)))
    c.in-Ok-Some.field-0-is c.in-Ok-Some.ensures in
    let same = one_form words own form is has in
    let before = outside_of g.F.Files g.W.Sink c.args.files.now c.args.sink.now in
    let after = outside_of g.F.Files g.W.Sink c.write_answer.new.files c.write_answer.new.sink in
    subst (λ f. Carries f before after c.write_answer.result) same
    (carries own before after c.write_answer.result c.write_answer.ensures.leaves c.write_answer.ensures.file.rose
    c.write_answer.ensures.write.rose)

pub returns-in-Err-clause-carries : goal.returns-in-Err-clause-carries
returns-in-Err-clause-carries g c = λ form has.
    let before = outside_of g.F.Files g.W.Sink c.args.files.now c.args.sink.now in
    carries form before before (Err stops.Memory) (record { written = refl; kept = refl }) (λ e. cc e) (λ e. cc e)
