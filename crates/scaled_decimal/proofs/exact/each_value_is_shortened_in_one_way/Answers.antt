use Rattle.std.proofs.Common.{sym, subst}
use Rattle.scaled_decimal.specs.Shortening.{IsShortest}
use Rattle.scaled_decimal.proofs.ShortenedLemmas.{shortest_is, shortest_only, kept_if_short}
use Rattle.scaled_decimal.proofs.exact.each_value_is_shortened_in_one_way.Goals as goal

pub returns : goal.returns
returns c = record {
  shortest = λ least a h q. (shortest_only least a q h, λ e. subst (IsShortest a least) (sym e) (shortest_is least a h));
  kept = kept_if_short;
}
