-- What a range file changed, as a text.
use Rattle.std.specs.Prelude.{ℕ, List, [], ◌∷◌, ◌++◌, codes}
use Rattle.std.specs.List.{flat_map}
use Rattle.std.specs.Fmt.{decimal as number}
use Rattle.scaled_decimal.specs.PlainTexts.{plain_text}
use Rattle.limits_file.specs.declared.limits.InputLimit.{InputLimit}
use Rattle.limits_file.specs.declared.limits.Carry.{Carry}
use Rattle.limits_file.specs.declared.limits.Carry.TheVariants.{Sum, Last, Count}
use Rattle.range_comparison.specs.declared.entry.RangeEntry.{RangeEntry}
use Rattle.range_comparison.specs.declared.entry.RangeEntry.TheVariants.{Input, Bind}
use Rattle.range_comparison.specs.declared.change.RangeChange.{RangeChange}
use Rattle.range_comparison.specs.declared.change.RangeChange.TheVariants.{New, Changed, Gone}
use Rattle.range_comparison.specs.Changes.{entry_input}
use Rattle.comparison_page.specs.Texts.{signed_lines}

-- the range of an input: range LOW .. HIGH, places N
abbrev pub range_words : InputLimit → List ℕ
range_words l =
    codes "range " ++ (plain_text l.low ++ (codes " .. " ++ (plain_text l.high ++ (codes ", places " ++ number l.places))))

-- what an input carries over from earlier runs
abbrev pub carry_words : Carry → List ℕ
carry_words (Sum output) = codes "carries the sum of " ++ output
carry_words (Last output) = codes "carries the last " ++ output
carry_words Count = codes "carries the number of runs"

-- what an entry says of its input
abbrev pub range_entry_words : RangeEntry → List ℕ
range_entry_words (Input limit) = range_words limit
range_entry_words (Bind binding) = carry_words binding.carry

-- an entry behind its sign, with a word between its input and what it says
abbrev pub range_entry_lines : ℕ → List ℕ → RangeEntry → List ℕ
range_entry_lines sign word e = signed_lines sign (entry_input e ++ word) (range_entry_words e)

-- what is written of a change: the old entry of what is gone or changed, the new one of what is new or changed
abbrev pub range_change_lines : RangeChange → List ℕ
range_change_lines (New e) = range_entry_lines 43 (codes " ") e
range_change_lines (Changed a b) = range_entry_lines 126 (codes " was ") a ++ range_entry_lines 126 (codes " now ") b
range_change_lines (Gone e) = range_entry_lines 45 (codes " ") e

-- what is written of two range files below a heading: a line for each entry that is new or gone, and two for one that is changed;
-- nothing where nothing changed
abbrev pub range_changes_text : List RangeChange → List ℕ
range_changes_text [] = []
range_changes_text (c ∷ changes) = codes "ranges\n" ++ flat_map range_change_lines (c ∷ changes)
