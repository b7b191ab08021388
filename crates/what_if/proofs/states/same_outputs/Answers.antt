use Rattle.std.proofs.Common.{rules, tests, ◌∙◌}
use Rattle.std.proofs.lemmas.Iterator.{YieldsList-from_slice, YieldsList-from_zip}
use Rattle.std.proofs.lemmas.Iterator.Search.{all_from_yields_List}
use Rattle.what_if.specs.Changes.{same_output}
use Rattle.what_if.proofs.PairLemmas.{pairs_same, other_length}
use Rattle.what_if.proofs.states.same_outputs.Goals as goal

pub returns-then-a-b : goal.returns-then-a-b
returns-then-a-b c =
    all_from_yields_List (λ p. same_output p.0 p.1) c.all.new.self _ c.all.result c.all.ensures.ran
    (YieldsList-from_zip (YieldsList-from_slice c.args.a.now cc) (YieldsList-from_slice c.args.b.now cc))
    (λ x b q k. search (rules, tests))
    ∙ pairs_same same_output c.args.a.now c.args.b.now (search rules)

pub returns-else-a-b : goal.returns-else-a-b
returns-else-a-b c = other_length same_output c.args.a.now c.args.b.now (search rules)
