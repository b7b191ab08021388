use Rattle.std.proofs.Common.{rules}
use Rattle.std.proofs.lemmas.List.Sorted.{answers_always}
use Rattle.rising_lists.proofs.Laws.{found}
use Rattle.book_edits.specs.Books.{year_cmp}
use Rattle.book_edits.proofs.YearsLemmas.{year_total}
use Rattle.book_edits.specs.private.Groups.{group_key}
use Rattle.book_edits.proofs.groups.place_group.Goals as goal

pub returns : goal.returns
returns c =
    let facts = c.binary_search_by_key.ensures in
    let by_key = facts.position group_key (answers_always _ _ _ (λ f a r g called. search rules)) in
    let both = found year_cmp year_total group_key _ _ _ c.requires facts.bound by_key in
    record { found = both.0; absent = both.1 }
