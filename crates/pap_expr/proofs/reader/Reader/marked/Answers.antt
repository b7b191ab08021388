use Rattle.pap_tree.specs.Term.{term_of}
use Rattle.pap_expr.specs.private.Stacks.{stack_of}
use Rattle.pap_expr.proofs.SignLemmas.{ends}
use Rattle.pap_expr.proofs.reader.Reader.marked.Goals as goal

pub returns-in-Some : goal.returns-in-Some
returns-in-Some c =
    rw (ends c.args.sign (term_of c.args.value) (stack_of c.args.self.now.stack) c.in_default.not-Dot c.in_default.not-Question, c.in-Some.ensures.popped) c.ended.ensures
