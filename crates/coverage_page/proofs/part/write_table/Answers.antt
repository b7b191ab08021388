use Rattle.std.proofs.lemmas.Result.{on_ok_weaker}
use Rattle.coverage_page.proofs.PartLemmas.{three_parts}
use Rattle.coverage_page.proofs.part.write_table.Goals as goal

pub returns : goal.returns
returns c =
    on_ok_weaker c.put-2.result
    (λ three. three_parts _ _ _ c.args.part.now c.put.new.self c.write_rows.new.part c.put-2.new.self c.in_ok-put.ensures
    c.in_ok-write_rows.ensures three)
    c.put-2.ensures
