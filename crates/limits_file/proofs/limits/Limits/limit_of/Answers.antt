use Rattle.std.proofs.Common.{rules, tests}
use Rattle.std.specs.Str.{bytes_eq}
use Rattle.std.proofs.lemmas.Iterator.{YieldsList-from_slice}
use Rattle.std.proofs.lemmas.Iterator.Search.{find_from_yields_List}
use Rattle.limits_file.proofs.limits.Limits.limit_of.Goals as goal

pub returns : goal.returns
returns c =
    find_from_yields_List (λ l. bytes_eq l.name c.args.name.now) _ _ c.find.result c.find.ensures.ran
    (YieldsList-from_slice c.args.self.now.inputs cc) (λ x b q k. search (rules, tests))
