use Rattle.std.proofs.Common.{◌≡◌, List, map, take}
use Rattle.std.specs.List.{AllByRecursion}
use Rattle.payroll_records.specs.NamedValues.{AreValues}
use Rattle.payroll_records.specs.declared.values.NamedValue.{NamedValue}
use Rattle.saved_items.specs.private.LineViews.{texts}
use Rattle.saved_items.specs.SavedBooks.{IsValue, value_word}
use Rattle.saved_items.proofs.run_words.values_of.Given as goal

abbrev pub invariant-loop-word : goal.invariant-loop-word
invariant-loop-word l =
    (vs : List NamedValue) → AreValues vs → AllByRecursion IsValue vs → texts l.words ≡ map value_word vs →
    l.values ≡ take l.word-index vs
