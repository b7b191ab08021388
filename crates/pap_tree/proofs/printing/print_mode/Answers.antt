use Rattle.std.proofs.Common.{◌++◌, ◌∙◌, ap, codes}
use Rattle.std.proofs.lemmas.Result.{on_ok_weaker}
use Rattle.pap_tree.specs.Words.{mode_word}
use Rattle.pap_tree.proofs.PrintingLemmas.{two_pieces}
use Rattle.pap_tree.proofs.printing.print_mode.Goals as goal

pub returns : goal.returns
returns c =
    on_ok_weaker c.append-2.result
    (λ written. two_pieces c.args.out.now.items (codes ", BigDecimal.ROUND_") (mode_word c.args.mode) c.in_ok-append.ensures (written ∙ ap (λ word. c.append.new.out.items ++ word) c.mode_word.ensures))
    c.append-2.ensures
