use Rattle.std.proofs.lemmas.Result.{on_ok_weaker}
use Rattle.pap_tree.specs.Declarations.{declared_of}
use Rattle.pap_tree.specs.Grammar.{Constant, declared}
use Rattle.diagnostics.proofs.FindLemmas.{finds_text}
use Rattle.diagnostics.proofs.expressions.FaultFinder.try_constant.Goals as goal

pub returns : goal.returns
returns c =
    on_ok_weaker c.put.result
    (λ k. finds_text Constant c.args.text.now c.args.spot c.parse_constant.result c.err-found.result (λ v. declared (declared_of v)) c.args.self.now.faults.items c.put.new.self.faults.items
    c.parse_constant.ensures.literal c.parse_constant.ensures.fault c.err-found.ensures.value k)
    c.put.ensures
