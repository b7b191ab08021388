use Rattle.std.proofs.Common.{◌++◌, codes}
use Rattle.std.proofs.lemmas.Result.{on_ok_weaker}
use Rattle.scaled_decimal.specs.PlainTexts.{whole_text}
use Rattle.pap_tree.specs.Term.{term_of}
use Rattle.pap_tree.specs.Spelling.{spelling}
use Rattle.pap_tree.proofs.PrintingLemmas.{three_pieces}
use Rattle.pap_tree.proofs.printing.+print.Goals as goal

pub print_scaled-returns : goal.print_scaled-returns
print_scaled-returns t c =
    on_ok_weaker c.print_last_scale.result
    (λ written. three_pieces c.args.out.now.items (codes "BigDecimal.valueOf(") (spelling (term_of c.args.operand.now)) (codes ", " ++ (whole_text c.args.scale ++ codes ")")) c.in_ok-append.ensures c.in_ok-print.ensures written)
    c.print_last_scale.ensures

pub print_value_of-returns : goal.print_value_of-returns
print_value_of-returns t c =
    on_ok_weaker c.append-2.result
    (λ written. three_pieces c.args.out.now.items (codes "BigDecimal.valueOf(") (spelling (term_of c.args.operand.now)) (codes ")") c.in_ok-append.ensures c.in_ok-print.ensures written)
    c.append-2.ensures
