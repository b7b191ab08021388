-- What a range file changed against another one. Source: docs/PROFILE.md, "Declared ranges", for what a range file says.
use Rattle.std.specs.Prelude.{ℕ, Bool, true, false, ◌&&◌, ◌==◌, if◌then◌else◌, List, [], ◌∷◌, ◌++◌, map, Option, Some, None}
use Rattle.std.specs.List.{find, flat_map}
use Rattle.std.specs.Ordering.{is_eq}
use Rattle.std.specs.Str.{bytes_eq}
use Rattle.scaled_decimal.specs.Decimals.{value_order}
use Rattle.limits_file.specs.declared.limits.InputLimit.{InputLimit}
use Rattle.limits_file.specs.declared.limits.Carry.{Carry}
use Rattle.limits_file.specs.declared.limits.Carry.TheVariants.{Sum, Last, Count}
use Rattle.limits_file.specs.declared.limits.Limits.{Limits}
use Rattle.range_comparison.specs.declared.entry.RangeEntry.{RangeEntry}
use Rattle.range_comparison.specs.declared.entry.RangeEntry.TheVariants.{Input, Bind}
use Rattle.range_comparison.specs.declared.change.RangeChange.{RangeChange}
use Rattle.range_comparison.specs.declared.change.RangeChange.TheVariants.{New, Changed, Gone}

-- ---- entries

-- the input of an entry
abbrev pub entry_input : RangeEntry → List ℕ
entry_input (Input limit) = limit.name
entry_input (Bind binding) = binding.input

-- bounds of the same values with as many places: how many zeros end a bound makes no difference
abbrev pub is_same_limit : InputLimit → InputLimit → Bool
is_same_limit a b =
    is_eq (value_order a.low b.low) && is_eq (value_order a.high b.high) && a.places == b.places

-- both carry over the same
abbrev pub is_same_carry : Carry → Carry → Bool
is_same_carry (Sum a) (Sum b) = bytes_eq a b
is_same_carry (Last a) (Last b) = bytes_eq a b
is_same_carry Count Count = true
is_same_carry _ _ = false

-- both are of the same table and say the same, but for the input
abbrev pub is_same_entry : RangeEntry → RangeEntry → Bool
is_same_entry (Input a) (Input b) = is_same_limit a b
is_same_entry (Bind a) (Bind b) = is_same_carry a.carry b.carry
is_same_entry _ _ = false

-- the entry of an input, if there is one
abbrev pub entry_for : List RangeEntry → List ℕ → Option RangeEntry
entry_for entries name = find (λ e. bytes_eq (entry_input e) name) entries

-- ---- changes

-- what is told of an entry of the new file, beside that of the old file for the same input: nothing where both say the same
abbrev pub entry_change : Option RangeEntry → RangeEntry → List RangeChange
entry_change None e = New e ∷ []
entry_change (Some before) e = if is_same_entry before e then [] else Changed before e ∷ []

-- what is told of an entry of the old file, beside that of the new file for the same input: that it is gone where there is none
abbrev pub gone_change : Option RangeEntry → RangeEntry → List RangeChange
gone_change None e = Gone e ∷ []
gone_change (Some after) e = []

-- the same of an entry of the new file, by what the old file has for each input
abbrev pub new_change : (List ℕ → Option RangeEntry) → RangeEntry → List RangeChange
new_change before e = entry_change (before (entry_input e)) e

-- the same of an entry of the old file, by what the new file has for each input
abbrev pub old_change : (List ℕ → Option RangeEntry) → RangeEntry → List RangeChange
old_change after e = gone_change (after (entry_input e)) e

-- what is told of the entries of a table of both files: in the order of the new one what is new or changed, then in the order of
-- the old one what is gone
abbrev pub entry_changes : (old new : List RangeEntry) → List RangeChange
entry_changes old new = flat_map (new_change (entry_for old)) new ++ flat_map (old_change (entry_for new)) old

-- all that is told of two range files: of the ranges of inputs, then of what inputs carry over
abbrev pub range_changes : (old new : Limits) → List RangeChange
range_changes old new =
    entry_changes (map (λ l. Input l) old.inputs) (map (λ l. Input l) new.inputs)
    ++ entry_changes (map (λ b. Bind b) old.bindings) (map (λ b. Bind b) new.bindings)
