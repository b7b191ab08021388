use Rattle.std.proofs.Common.{sym, subst, arith}
use Rattle.book_edits.proofs.LoadMergeLemmas.{AreMergedSoFar, merged_more}
use Rattle.book_edits.proofs.merge.merged.Goals as goal

pub loop-year-preserved : goal.loop-year-preserved
loop-year-preserved c =
    let l = c.loop-year in
    let next = c.next_year.new in
    record {
      so_far = subst (λ t. AreMergedSoFar c.args.olds.items c.args.drafts.items t next.olds.items next.drafts.items) (sym c.push_reserved.ensures.items)
          (merged_more c.args.olds.items c.args.drafts.items l.years.items l.olds.items l.drafts.items c.in-Some.year next.olds.items next.drafts.items l.invariant.so_far c.in-Some.ensures.first);
      room = omega (arith, c.push_reserved.ensures.len, c.push_reserved.ensures.capacity, c.in-Some.ensures.len, l.invariant.room);
    }
