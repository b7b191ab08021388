use Rattle.std.proofs.Common.{◌∙◌, arith}
use Rattle.author_cli.proofs.CompareFrontLemmas.{four_fronts, second_missing}
use Rattle.author_cli.proofs.compared_pairs.read_four.Goals as goal

pub returns-clause-read : goal.returns-clause-read
returns-clause-read g c = λ files told.
    let first = c.in_ok-old in
    let second = c.in_ok-new in
    four_fronts files c.args.old.now c.args.old_limits.now c.args.new.now c.args.new_limits.now
    (record { old = first.old; old_limits = first.old_limits; new = second.new; new_limits = second.new_limits })
    (first.ensures.read files told) second.ensures.read (first.ensures.same ∙ told)

pub returns-in_err-new-clause-failed : goal.returns-in_err-new-clause-failed
returns-in_err-new-clause-failed g c = λ failed.
    second_missing c.args.old.now c.args.old_limits.now c.args.new.now c.args.new_limits.now c.in_ok-old.old.items
    c.in_ok-old.old_limits.items (g.F.Files.failed c.read_both-2.new.files) c.in_ok-old.ensures.read c.in_ok-old.ensures.same
    (c.read_both-2.ensures.failed (grind (arith, failed)))
