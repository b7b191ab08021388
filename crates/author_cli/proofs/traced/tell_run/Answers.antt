use Rattle.std.proofs.Common.{refl}
use Rattle.author_cli.proofs.TracedLemmas.{run_of}
use Rattle.author_cli.proofs.traced.tell_run.Goals as goal

pub returns : goal.returns
returns c =
    run_of _ _ _ _ c.in_ok-notes.notes _ c.in_ok-lines.lines _ _ c.in_ok-notes.ensures.notes c.deref.ensures.value
    c.in_ok-lines.ensures c.in_ok-text.ensures refl
