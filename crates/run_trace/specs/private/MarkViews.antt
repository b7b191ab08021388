-- Marks, as they are made.
use Rattle.std.specs.Prelude.{ℕ, zero, suc, ◌+◌, ◌==◌, true, false, ◌||◌, nat_lt, if◌then◌else◌, List, [], ◌∷◌, ◌++◌, map}
use Rattle.std.specs.Option.{option_map_or}
use Rattle.pap_tree.specs.Flowchart.{Flowchart}
use Rattle.statement_list.specs.declared.statement.Form.{Form}
use Rattle.statement_list.specs.Statements.{Listed}
use Rattle.flowchart_methods.specs.declared.kind.MarkKind.TheVariants.{Run}
use Rattle.flowchart_methods.specs.Marks.{Marked, unmarked}
use Rattle.run_trace.specs.StepLines.{method_number}
use Rattle.run_trace.specs.RunPages.{place_of}
use Rattle.run_trace.specs.RunMarks.{RunStep, has_answer, execution_mark, told_one_by_one, more_words, mark_lines, exit_kind, entry_shown}
use Rattle.run_trace.specs.private.MarkTallies.{MarkTally}

-- no execution of a statement that does this
abbrev pub no_executions : Form → MarkTally
no_executions what = record { what = what; count = 0; first = 0; told = []; yes = false; no = false }

-- no execution of some statements
abbrev pub none_of : List Listed → List MarkTally
none_of listed = map (λ (s : Listed). no_executions s.form) listed

-- the number of the first execution, where there were so many before this one
abbrev pub first_number : ℕ → ℕ → ℕ → ℕ
first_number count first k = if count == 0 then k else first

-- what is told, where there were so many executions before this one
abbrev pub told_with : ℕ → List (List ℕ) → List ℕ → List (List ℕ)
told_with count told text = if nat_lt count told_one_by_one then told ++ (text ∷ []) else told

-- one execution more
abbrev pub with_execution : Flowchart → RunStep → MarkTally → MarkTally
with_execution f e t = record {
  what = t.what;
  count = t.count + 1;
  first = first_number t.count t.first e.number;
  told = told_with t.count t.told (execution_mark f e);
  yes = t.yes || has_answer true e.step;
  no = t.no || has_answer false e.step;
}

-- a list with one of its items changed; itself where it has no such item
abbrev pub changed_at : {A : Type 0} → ℕ → (A → A) → List A → List A
changed_at n g [] = []
changed_at zero g (x ∷ xs) = g x ∷ xs
changed_at (suc n) g (x ∷ xs) = x ∷ changed_at n g xs

-- what is kept of all statements, with one execution more
abbrev pub after_execution : Flowchart → List (List MarkTally) → RunStep → List (List MarkTally)
after_execution f methods e =
    option_map_or (λ m. changed_at m (changed_at (place_of e.step).statement (with_execution f e)) methods)
    (method_number f (place_of e.step).method) methods

-- the mark of a statement, of which this is kept
abbrev pub mark_in : ℕ → MarkTally → Marked
mark_in total t =
    if t.count == 0 then unmarked
    else record {
      kind = Run (entry_shown total t.first);
      lines = mark_lines t.what (t.told ++ more_words t.count);
      yes = exit_kind t.yes;
      no = exit_kind t.no;
    }
