-- Outputs sorted by their names.
use Rattle.std.proofs.Common.{List, map}
use Rattle.std.specs.List.Sorted.{IsPermutation, IsSortedByKey}
use Rattle.std.proofs.lemmas.Map.Made.{IsDistinct-from_AllPairs}
use Rattle.std.proofs.lemmas.Slice.Eq.{bytes_eq-Decides}
use Rattle.rising_lists.proofs.Laws.{sorted_by_text}
use Rattle.payroll_records.specs.declared.values.NamedValue.{NamedValue}
use Rattle.payroll_records.specs.NamedValues.{name_cmp, name_of}
use Rattle.recalc_engine.specs.RowLaws.{HaveNames}
use Rattle.what_if.specs.private.SideViews.{AreOrdered}

-- outputs with different names, sorted by them
pub ordered_sorted : (outputs ys : List NamedValue) → HaveNames outputs → IsPermutation outputs ys →
    IsSortedByKey name_of name_cmp ys → AreOrdered outputs ys
ordered_sorted outputs ys named p s =
    let apart = IsDistinct-from_AllPairs bytes_eq-Decides (map name_of outputs) named in
    let sorted = sorted_by_text name_of outputs ys apart p s in
    record { rising = sorted.0; at = sorted.1 }
