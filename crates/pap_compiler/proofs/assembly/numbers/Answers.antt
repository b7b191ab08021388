use Rattle.std.proofs.Common.{◌≡◌, ◌∙◌, ◌+◌, ◌++◌, ap, sym, map, drop, arith, [], ◌∷◌, append_assoc}
use Rattle.pap_tree.specs.Declarations.{declaration_of}
use Rattle.pap_compiler.specs.CodeDecisions.{numbers_from}
use Rattle.pap_compiler.proofs.PlanLemmas.{numbers_at}
use Rattle.pap_compiler.proofs.assembly.numbers.Goals as goal

pub loop-i-preserved : goal.loop-i-preserved
loop-i-preserved c =
    let n = c.args.first + c.loop-i.i in
    let rest = map declaration_of (drop (c.loop-i.i + 1) c.args.declared.now) in
    let step = numbers_at c.args.declared.now n c.loop-i.i c.loop-i-test.true in
    let place : c.args.first + (c.loop-i.i + 1) ≡ n + 1 = omega arith in
    ap (λ k. c.push.new.self.items ++ numbers_from k rest) place
    ∙ ap (λ l. l ++ numbers_from (n + 1) rest) c.in_ok-push.ensures.items
    ∙ append_assoc c.loop-i.numbers.items (n ∷ []) (numbers_from (n + 1) rest)
    ∙ ap (λ l. c.loop-i.numbers.items ++ l) (sym step)
    ∙ c.loop-i.invariant
