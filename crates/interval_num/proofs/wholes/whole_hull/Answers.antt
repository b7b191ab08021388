use Rattle.std.proofs.Common.{Ok, not, sym, ap}
use Rattle.std.proofs.lemmas.List.Elements.{All-weaker}
use Rattle.scaled_decimal.specs.WholeNumbers.{IsOfBits}
use Rattle.scaled_decimal.specs.Limits.{IsWithinLimit}
use Rattle.interval_num.specs.declared.cause.RangeCause.TheVariants.{Wide}
use Rattle.interval_num.specs.Alignment.{hull}
use Rattle.interval_num.specs.Rows.{RowAnswer}
use Rattle.interval_num.specs.private.Widths.{bits_of}
use Rattle.interval_num.proofs.AlignmentLemmas.{unless_passes}
use Rattle.interval_num.proofs.WholeLemmas.{all_of_bits}
use Rattle.interval_num.proofs.MachineLemmas.{of_width_kept}
use Rattle.interval_num.proofs.wholes.whole_hull.Goals as goal

pub hull-requires-clause-kept : goal.hull-requires-clause-kept
hull-requires-clause-kept c = All-weaker (IsOfBits (bits_of c.args.width)) IsWithinLimit (of_width_kept c.args.width) c.args.ends.now (all_of_bits (bits_of c.args.width) c.args.ends.now (sym c.if-not-are_of_width.ensures))

pub returns : goal.returns
returns c =
    let answer : RowAnswer = Ok (hull c.args.ends.now 0 0) in
    let row = unless_passes _ Wide answer (ap not (sym c.if-not-are_of_width.ensures)) in
    cc (row, c.hull.ensures)
