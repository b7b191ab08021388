use Rattle.std.proofs.Common.{rules}
use Rattle.std.proofs.lemmas.List.Sorted.{answers_always}
use Rattle.std.specs.Cmp.Lexicographic.{nat_list_cmp_total}
use Rattle.rising_lists.proofs.Laws.{found}
use Rattle.payroll_records.specs.NamedValues.{name_cmp}
use Rattle.payroll_records.specs.private.TableViews.{column_name}
use Rattle.payroll_records.proofs.header.column_place.Goals as goal

pub returns : goal.returns
returns c =
    let facts = c.binary_search_by_key.ensures in
    let by_name = facts.position column_name (answers_always _ _ _ (λ f a r g called. search rules)) in
    let both = found name_cmp nat_list_cmp_total column_name _ _ _ c.requires facts.bound by_name in
    record { found = both.0; absent = both.1 }
