use Rattle.std.proofs.Common.{◌∙◌, ◌++◌, ap, subst}
use Rattle.script_run.specs.Notes.{AreNoted, notes_shown}
use Rattle.pap_cli.specs.Notes.{refused_summary}
use Rattle.script_run.proofs.Laws.{noted_by}
use Rattle.pap_cli.proofs.summary.sum_up.Goals as goal

pub returns : goal.returns
returns g c =
    let before = notes_shown g.N.Sink c.args.notes.now in
    let after = notes_shown g.N.Sink c.put_all.new.sink in
    subst (λ t. AreNoted before after t) (c.as_bytes.ensures.value ∙ c.in_ok-push_str.ensures.bytes
    ∙ ap (λ t. t ++ c.as_str.result.now) c.in_ok-text.ensures ∙ ap (λ t. refused_summary c.args.counts.refused ++ t) (c.as_str.ensures.value ∙ c.in_ok-runs.ensures))
    (noted_by c.put_all.result before after c.as_bytes.result.now c.put_all.ensures.ok c.put_all.ensures.cause)
