use Rattle.std.proofs.Common.{◌≡◌, ◌++◌, take}
use Rattle.std.specs.List.{flat_map}
use Rattle.book_year.specs.Accepted.{plans_in}
use Rattle.book_file.specs.private.WritingViews.{entry_text}
use Rattle.book_file.proofs.write.write_plans.Given as goal

abbrev pub invariant-loop-entry : goal.invariant-loop-entry
invariant-loop-entry l =
    l.text.items ≡ l.initial.text.items ++ flat_map entry_text (plans_in (take l.entry-index l.plans))
