use Rattle.std.proofs.Common.{◌≡◌, ◌<◌, [], ◌∷◌, length, get_or, sym, ap, ◌∙◌, arith}
use Rattle.std.proofs.lemmas.List.{length-append, length-set, nil_from_length}
use Rattle.book_edits.specs.private.RedoneClauses.{merged}
use Rattle.book_edits.specs.RedoneClauses.{with_new}
use Rattle.book_edits.proofs.MergeLemmas.{merged_last, merged_none}
use Rattle.book_edits.proofs.redone.put_in.Goals as goal

pub loop-new-preserved : goal.loop-new-preserved
loop-new-preserved c =
    let ys = c.loop-new.years.items in
    let os = c.pop.new.self.items in
    let y = c.index_mut.result.now in
    let n : c.len.result ≡ length os = omega (arith, c.len.ensures, c.pop.new.self.ok.0) in
    let l : length os < length ys = omega (arith, ap length c.in-Some.ensures.items, length-append os (c.in-Some.new ∷ []), c.loop-new.invariant.0) in
    let last = merged_last ys os c.in-Some.new y l (c.index_mut.ensures.value ∙ ap (λ i. get_or ys i y) n) in
    (rw (c.put_outcomes.ensures, n) (omega (arith, length-set ys (length os) (with_new y c.in-Some.new))), rw (c.put_outcomes.ensures, n) (last ∙ ap (merged ys) (sym c.in-Some.ensures.items) ∙ c.loop-new.invariant.1))

pub returns : goal.returns
returns c =
    let none = nil_from_length c.loop-new.outcomes.items (omega (arith, c.in_default.ensures.cases, c.loop-new.outcomes.ok.0)) in
    sym (merged_none c.loop-new.years.items) ∙ ap (merged c.loop-new.years.items) (sym none) ∙ c.loop-new.invariant.1
