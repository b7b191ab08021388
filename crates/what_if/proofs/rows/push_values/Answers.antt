use Rattle.std.proofs.Common.{◌≡◌, ◌++◌, OnOk, ap, ap₂, subst, ◌∙◌}
use Rattle.std.specs.List.{filter_map}
use Rattle.what_if.specs.private.SideViews.{side_row, sides_of}
use Rattle.what_if.proofs.ValueLemmas.{side_rows}
use Rattle.what_if.proofs.rows.push_values.Goals as goal

pub returns : goal.returns
returns c =
    let k = c.args.key.now in
    let sides = c.of.ensures ∙ ap₂ sides_of c.as_slice.ensures.value c.as_slice-2.ensures.value in
    let rows = ap (filter_map (side_row k)) sides
    ∙ side_rows k c.args.before.now c.args.after.now c.in_ok-before.before.items c.in_ok-after.after.items
    c.in_ok-before.ensures c.in_ok-after.ensures in
    subst (λ t. OnOk c.push_sides.result (c.push_sides.new.rows.items ≡ c.args.rows.now.items ++ t)) rows
    c.push_sides.ensures
