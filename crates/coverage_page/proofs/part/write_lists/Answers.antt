use Rattle.std.proofs.lemmas.Result.{on_ok_weaker}
use Rattle.coverage_page.proofs.PartLemmas.{five_parts}
use Rattle.coverage_page.proofs.part.write_lists.Goals as goal

pub returns : goal.returns
returns c =
    on_ok_weaker c.put-3.result
    (λ last. five_parts _ _ _ _ _ c.args.part.now c.put.new.self c.write_listed.new.part c.put-2.new.self c.write_listed-2.new.part
    c.put-3.new.self c.in_ok-put.ensures c.in_ok-write_listed.ensures c.in_ok-put-2.ensures c.in_ok-write_listed-2.ensures last)
    c.put-3.ensures
