use Rattle.std.proofs.Common.{refl, string_bytes}
use Rattle.author_cli.proofs.DrawnLemmas.{draws_blocked}
use Rattle.author_cli.proofs.drawn.draw_blocked.Goals as goal

pub returns : goal.returns
returns c =
    draws_blocked c.args.judged c.args.values.now c.args.state.now (string_bytes c.in_ok-words.words) (string_bytes c.in_ok-line.line)
    c.as_str.result.now c.as_bytes.result.now _ c.in_ok-page.page.items _ _ c.in_ok-words.ensures.line
    c.in_ok-words.ensures.says c.in_ok-line.ensures c.as_str.ensures.value c.as_bytes.ensures.value c.in_ok-part.ensures
    c.in_ok-page.ensures c.requires.files.silent refl
