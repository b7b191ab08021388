use Rattle.std.proofs.Common.{Ok, Err, sym, ap, ◌∙◌, reverse}
use Rattle.std.specs.Prelude.{if◌then◌else◌}
use Rattle.pap_reader.specs.declared.fault.ReadFault.TheVariants as faults
use Rattle.pap_reader.specs.private.VerdictDecisions.{built}
use Rattle.pap_reader.proofs.ReaderSteps.{tree_built}
use Rattle.pap_reader.proofs.reader.Reader.finish.Goals as goal

pub returns-then-is_ended : goal.returns-then-is_ended
returns-then-is_ended c = λ before os ws h.
    let e = sym (c.is_ended.ensures before os ws h) ∙ c.if-is_ended.true in
    ap (λ b. if b then Ok (built ws) else Err (faults.Element c.args.end)) e ∙ ap (λ x. Ok x) (tree_built c.args.self.top (reverse c.args.self.outer.items) c.args.self.plan os ws h.parts e h.plan)
