-- The places of entries by the names of their inputs.
use Rattle.std.specs.Prelude.{◌≡◌, ℕ, List, drop, Option, slice_get}
use Rattle.std.specs.Option.{option_and_then}
use Rattle.std.specs.Borrow.{Bor}
use Rattle.std.specs.BTreeMap.{BTreeMap, get_by}
use Rattle.std.specs.Cmp.Lexicographic.{slice_cmp}
use Rattle.std.specs.Ordering.{nat_cmp}
use Rattle.range_comparison.specs.declared.entry.RangeEntry.{RangeEntry}
use Rattle.range_comparison.specs.Changes.{entry_for}

-- the place that a map has for an input
abbrev pub place_for : BTreeMap (Bor (List ℕ)) ℕ → List ℕ → Option ℕ
place_for places name = get_by (λ key. slice_cmp nat_cmp name key.now) places

-- the entry at the place that a map has for an input
abbrev pub entry_in : List RangeEntry → BTreeMap (Bor (List ℕ)) ℕ → List ℕ → Option RangeEntry
entry_in entries places name = option_and_then (slice_get entries) (place_for places name)

-- the map has the places of the entries from one of them on; of several for one input the first
abbrev pub ArePlacesFrom : ℕ → List RangeEntry → BTreeMap (Bor (List ℕ)) ℕ → Type 0
ArePlacesFrom from entries places = (name : List ℕ) → entry_in entries places name ≡ entry_for (drop from entries) name
