use Rattle.flowchart_methods.proofs.MarkLemmas.{exits_told}
use Rattle.flowchart_methods.proofs.mark.push_exits.Goals as goal

pub returns : goal.returns
returns c =
    exits_told c.args.yes c.args.no c.is_taken.result c.is_taken-2.result c.is_missed.result c.is_missed-2.result c.is_dead.result
    c.is_dead-2.result c.count.result c.count-2.result c.args.words.now.items c.push_ways.new.words.items
    c.push_count.new.words.items c.push_count-2.new.words.items c.push_ways-2.new.words.items c.push_ways-3.new.words.items
    c.is_taken.ensures c.is_taken-2.ensures c.count.ensures c.count-2.ensures c.is_missed.ensures c.is_missed-2.ensures
    c.is_dead.ensures c.is_dead-2.ensures c.in_ok-push_ways.ensures c.in_ok-push_count.ensures c.in_ok-push_count-2.ensures
    c.in_ok-push_ways-2.ensures c.in_ok-push_ways-3.ensures
