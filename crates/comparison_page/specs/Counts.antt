-- How much changed, counted.
use Rattle.std.specs.Prelude.{ℕ, Bool, true, false, List, ◌++◌, codes, count_by}
use Rattle.std.specs.Fmt.{decimal as number}
use Rattle.flowchart_comparison.specs.declared.entry.Entry.{Entry}
use Rattle.flowchart_comparison.specs.declared.entry.Entry.TheVariants as entries
use Rattle.range_comparison.specs.declared.change.RangeChange.{RangeChange}
use Rattle.range_comparison.specs.declared.change.RangeChange.TheVariants as changes

-- the entry is of two texts that differ
abbrev pub is_changed : Entry → Bool
is_changed (entries.Changed i j) = true
is_changed _ = false

-- the entry is of a text that is gone
abbrev pub is_gone : Entry → Bool
is_gone (entries.Gone i) = true
is_gone _ = false

-- the entry is of a text that is new
abbrev pub is_new : Entry → Bool
is_new (entries.New j) = true
is_new _ = false

-- the change is of an entry that both range files have
abbrev pub is_changed_range : RangeChange → Bool
is_changed_range (changes.Changed a b) = true
is_changed_range _ = false

-- the change is of an entry that is gone
abbrev pub is_gone_range : RangeChange → Bool
is_gone_range (changes.Gone e) = true
is_gone_range _ = false

-- the change is of an entry that is new
abbrev pub is_new_range : RangeChange → Bool
is_new_range (changes.New e) = true
is_new_range _ = false

-- how many changed, are new and are gone, in words
abbrev pub change_counts : (changed new gone : ℕ) → List ℕ
change_counts changed new gone =
    number changed ++ (codes " changed, " ++ (number new ++ (codes " new, " ++ (number gone ++ codes " gone"))))

-- the same of some entries
abbrev pub entry_counts : List Entry → List ℕ
entry_counts es = change_counts (count_by is_changed es) (count_by is_new es) (count_by is_gone es)

-- the same of the changes of range files
abbrev pub range_counts : List RangeChange → List ℕ
range_counts cs = change_counts (count_by is_changed_range cs) (count_by is_new_range cs) (count_by is_gone_range cs)

-- what is said of a method: how many of its lines changed, are new and are gone, where it isn't the same
abbrev pub method_words : Entry → List Entry → List ℕ
method_words (entries.Same i j) lines = codes "same"
method_words (entries.Changed i j) lines = codes "changed: " ++ entry_counts lines
method_words (entries.Gone i) lines = codes "gone: " ++ entry_counts lines
method_words (entries.New j) lines = codes "new: " ++ entry_counts lines
