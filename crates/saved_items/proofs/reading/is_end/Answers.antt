use Rattle.std.proofs.Common.{ap, ◌∙◌}
use Rattle.std.specs.Str.{bytes_eq}
use Rattle.saved_items.specs.ItemFaults.{saved_in}
use Rattle.saved_items.proofs.EndLemmas.{complete_of, ends_by}
use Rattle.saved_items.proofs.reading.is_end.Goals as goal

pub returns-then-not-is_complete : goal.returns-then-not-is_complete
returns-then-not-is_complete c = λ e. c.if-not-is_complete.ensures
    (complete_of c.args.front.now.stage (saved_in c.args.front.now.items) e.saved e.all)

pub returns : goal.returns
returns c = ends_by c.args.front.now c.args.rest.now c.eq.result
    (c.eq.ensures ∙ ap (bytes_eq c.args.rest.now) c.as_slice.ensures) c.if-not-is_complete.ensures
