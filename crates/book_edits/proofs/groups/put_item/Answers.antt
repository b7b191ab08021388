use Rattle.std.proofs.Common.{sym, ap, subst, ◌∙◌}
use Rattle.rising_lists.specs.Places.{Finds, Misses}
use Rattle.book_edits.specs.Books.{year_cmp, year_of}
use Rattle.book_edits.specs.private.Groups.{IsPutGroup, group_key}
use Rattle.book_edits.proofs.GroupLemmas.{put_found_if, put_missed}
use Rattle.book_edits.proofs.OrderLemmas.{year_at}
use Rattle.book_edits.proofs.groups.put_item.Goals as goal

pub returns-in-Ok : goal.returns-in-Ok
returns-in-Ok c =
    let before = c.args.groups.now.items in
    let at_key = subst (λ k. Finds year_cmp group_key c.as_slice.result.now k c.in-Ok.at) (c.year_of-key.ensures ∙ ap year_of c.key.ensures) c.in-Ok.ensures.found in
    let found = subst (λ t. Finds year_cmp group_key t (year_at c.args.item) c.in-Ok.at) c.as_slice.ensures.value at_key in
    put_found_if c.append.result c.args.item before c.in-Ok.at c.index_mut.result.now c.append.new.group found c.index_mut.ensures.value c.append.ensures.key c.append.ensures.items

pub returns-in_ok-insert-in-Err : goal.returns-in_ok-insert-in-Err
returns-in_ok-insert-in-Err c =
    let before = c.args.groups.now.items in
    let g = c.in_ok-group-in-Err in
    let at_key = subst (λ k. Misses year_cmp group_key c.as_slice.result.now k c.in-Err.at) (c.year_of-key.ensures ∙ ap year_of c.key.ensures) c.in-Err.ensures.absent in
    let missed = subst (λ t. Misses year_cmp group_key t (year_at c.args.item) c.in-Err.at) c.as_slice.ensures.value at_key in
    subst (IsPutGroup c.args.item before) (sym c.in_ok-insert-in-Err.ensures.items) (put_missed c.args.item before c.in-Err.at g.group missed (g.ensures.key ∙ c.year_of-key.ensures ∙ ap year_of c.key.ensures) g.ensures.items)
