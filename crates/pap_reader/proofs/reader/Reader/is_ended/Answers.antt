use Rattle.std.proofs.Common.{◌∙◌, sym, reverse, arith}
use Rattle.std.proofs.lemmas.List.{length-reverse}
use Rattle.std.proofs.lemmas.Bool.{eqb-false}
use Rattle.pap_reader.proofs.ReaderSteps.{not_ended}
use Rattle.pap_reader.proofs.reader.Reader.is_ended.Goals as goal

pub returns-else-is_empty : goal.returns-else-is_empty
returns-else-is_empty c = λ before os ws h.
    let e = eqb-false _ 0 (sym c.is_empty.ensures ∙ c.if-is_empty.false) in
    c.if-is_empty.false ∙ sym (not_ended c.args.self.now.top (reverse c.args.self.now.outer.items) os ws h.parts (λ k. e (let l = length-reverse c.args.self.now.outer.items in omega (arith, c.args.self.now.outer.ok.0))))
