use Rattle.std.proofs.lemmas.Result.{on_ok_weaker}
use Rattle.coverage_page.proofs.PartLemmas.{three_parts}
use Rattle.coverage_page.proofs.part.put_list.Goals as goal

pub returns : goal.returns
returns c =
    on_ok_weaker c.put-2.result
    (λ three. three_parts _ _ _ c.args.part.now c.put.new.self c.append.new.self c.put-2.new.self c.in_ok-put.ensures
    c.in_ok-append.ensures three)
    c.put-2.ensures
