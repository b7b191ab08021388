use Rattle.std.proofs.Common.{refl}
use Rattle.author_cli.proofs.DrawnLemmas.{draws_run}
use Rattle.author_cli.proofs.drawn.draw_run.Goals as goal

pub returns : goal.returns
returns c =
    draws_run c.args.judged _ _ _ c.in_ok-notes.notes _ c.in_ok-lines.lines _ _ _ _ _ _ c.in_ok-notes.ensures.notes
    c.deref.ensures.value c.in_ok-lines.ensures c.in_ok-run.ensures c.deref-2.ensures.value c.in_ok-page.ensures
    c.requires.files.silent refl
