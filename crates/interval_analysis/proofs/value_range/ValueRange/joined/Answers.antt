use Rattle.interval_analysis.proofs.RangeLemmas.{least_by}
use Rattle.interval_analysis.proofs.value_range.ValueRange.joined.Goals as goal

pub returns : goal.returns
returns c =
    least_by c.args.self.now c.args.other.now c.lesser.result c.greater.result c.min.result c.max.result
    c.lesser.ensures c.greater.ensures c.min.ensures c.max.ensures
