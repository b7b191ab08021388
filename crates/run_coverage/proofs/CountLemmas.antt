-- The tallies after some runs say how many of them have a statement.
use Rattle.std.proofs.Common.{◌≡◌, ℕ, ◌+◌, ◌≤◌, Bool, true, false, List, [], ◌∷◌, ◌++◌, map, refl, sym, ap, ◌∙◌, arith, cond, ◌==◌, if◌then◌else◌, zero-add, add-zero}
use Rattle.std.specs.Prelude.{◌&&◌, count_by, Option, Some, None}
use Rattle.std.specs.List.{fold, flat_map, list_any, range_with_len}
use Rattle.std.specs.Option.{option_map_or}
use Rattle.std.proofs.lemmas.List.Sums.{sum_by-append}
use Rattle.pap_tree.specs.Flowchart.{Flowchart}
use Rattle.book_year.specs.declared.year.Year.{Year}
use Rattle.book_edits.specs.Kept.{runs_in as kept_runs, runs_in_year}
use Rattle.recalc_engine.specs.Contents.{Contents}
use Rattle.month_trace.specs.declared.step.TraceStep.{TraceStep}
use Rattle.run_coverage.specs.declared.runs.StatementRuns.{StatementRuns}
use Rattle.run_coverage.specs.private.TallyStates.{TallyState}
use Rattle.run_coverage.specs.declared.statement.StatementTally.{StatementTally}
use Rattle.run_coverage.specs.Coverage.{step_method, step_statement, is_step_of, is_yes, is_no, statement_runs, traces_with, by_statement, coverage_of}
use Rattle.run_coverage.specs.CoveredRuns.{year_traces, book_traces}
use Rattle.run_coverage.specs.private.Tallies.{BoardState, board_state, runs_in, no_statement, no_statements, with_step, touched, after_step, after_trace}
use Rattle.run_coverage.proofs.PlaceLemmas.{touched_statement}
use Rattle.run_coverage.proofs.TallyLemmas.{counted, hits_once, stepped, all_hits, yes_hits, no_hits}

-- ---- all statements at once

module _ (f : Flowchart) (counts : List ℕ) where
  step_by : (run : ℕ) (s : TraceStep) (of : ℕ → ℕ → StatementTally) (o : Option ℕ)
      → option_map_or (λ m. touched m (touched (step_statement s) (with_step run s)) (by_statement of 0 counts)) o (by_statement of 0 counts)
      ≡ by_statement (λ m n. if option_map_or (λ k. m == k && n == step_statement s) o false then with_step run s (of m n) else of m n) 0 counts
  step_by run s of None = refl
  step_by run s of (Some k) = touched_statement (with_step run s) k (step_statement s) of counts

  step_all : (run : ℕ) (s : TraceStep) (of : ℕ → ℕ → StatementTally)
      → after_step f run (by_statement of 0 counts) s ≡ by_statement (λ m n. stepped (is_step_of f m n) run (of m n) s) 0 counts
  step_all run s of = step_by run s of (step_method f s)

  steps_all : (run : ℕ) (steps : List TraceStep) (of : ℕ → ℕ → StatementTally)
      → fold (after_step f run) (by_statement of 0 counts) steps
      ≡ by_statement (λ m n. fold (stepped (is_step_of f m n) run) (of m n) steps) 0 counts
  steps_all run [] of = refl
  steps_all run (s ∷ steps) of =
      ap (λ l. fold (after_step f run) l steps) (step_all run s of)
      ∙ steps_all run steps (λ m n. stepped (is_step_of f m n) run (of m n) s)

  -- a statement's tallies after some runs, the last of which before them has this number
  abbrev pub after_runs : (TraceStep → Bool) → ℕ → StatementTally → List (List TraceStep) → StatementTally
  after_runs is run t [] = t
  after_runs is run t (steps ∷ traces) = after_runs is (run + 1) (fold (stepped is (run + 1)) t steps) traces

  runs_all : (traces : List (List TraceStep)) (run : ℕ) (of : ℕ → ℕ → StatementTally)
      → (fold (after_trace f) (board_state run (by_statement of 0 counts)) traces).methods
      ≡ by_statement (λ m n. after_runs (is_step_of f m n) run (of m n) traces) 0 counts
  runs_all [] run of = refl
  runs_all (steps ∷ traces) run of =
      ap (λ l. (fold (after_trace f) (board_state (run + 1) l) traces).methods) (steps_all (run + 1) steps of)
      ∙ runs_all traces (run + 1) (λ m n. fold (stepped (is_step_of f m n) (run + 1)) (of m n) steps)

-- ---- one statement

-- no tally has a run of a later number
pub record IsUpTo (run : ℕ) (t : StatementTally) : Type 0 where
  pub all : t.all.last ≤ run
  pub yes : t.yes.last ≤ run
  pub no : t.no.last ≤ run

count_cons : {X : Type 0} (p : X → Bool) (x : X) (xs : List X) → count_by p (x ∷ xs) ≡ cond (p x) 1 0 + count_by p xs
count_cons p x xs = sum_by-append (λ y. cond (p y) 1 0) (x ∷ []) xs ∙ ap (λ n. n + count_by p xs) (zero-add (cond (p x) 1 0))

counted_runs : (b : Bool) (run : ℕ) (t : TallyState) → (counted b run t).runs ≡ t.runs + cond b 1 0
counted_runs true run t = refl
counted_runs false run t = sym (add-zero t.runs)

counted_last : (b : Bool) (run : ℕ) (t : TallyState) → t.last ≤ run → (counted b (run + 1) t).last ≤ run + 1
counted_last true run t le = omega arith
counted_last false run t le = omega (arith, le)

module _ (is : TraceStep → Bool) where
  all_after : (run : ℕ) (steps : List TraceStep) (t : StatementTally) → IsUpTo run t
      → (fold (stepped is (run + 1)) t steps).all ≡ counted (list_any is steps) (run + 1) t.all
  all_after run steps t h =
      all_hits is (run + 1) steps t ∙ hits_once is (run + 1) steps t.all (let le = h.all in omega (arith, le))

  yes_after : (run : ℕ) (steps : List TraceStep) (t : StatementTally) → IsUpTo run t
      → (fold (stepped is (run + 1)) t steps).yes ≡ counted (list_any (λ s. is s && is_yes s) steps) (run + 1) t.yes
  yes_after run steps t h =
      yes_hits is (run + 1) steps t ∙ hits_once (λ s. is s && is_yes s) (run + 1) steps t.yes (let le = h.yes in omega (arith, le))

  no_after : (run : ℕ) (steps : List TraceStep) (t : StatementTally) → IsUpTo run t
      → (fold (stepped is (run + 1)) t steps).no ≡ counted (list_any (λ s. is s && is_no s) steps) (run + 1) t.no
  no_after run steps t h =
      no_hits is (run + 1) steps t ∙ hits_once (λ s. is s && is_no s) (run + 1) steps t.no (let le = h.no in omega (arith, le))

  last_of : (b : Bool) (run : ℕ) (t u : TallyState) → u ≡ counted b (run + 1) t → t.last ≤ run → u.last ≤ run + 1
  last_of b run t u e le =
      let l = counted_last b run t le in
      let same = ap (λ (v : TallyState). v.last) e in
      omega (arith, l, same)

  up_to_after : (run : ℕ) (steps : List TraceStep) (t : StatementTally) → IsUpTo run t
      → IsUpTo (run + 1) (fold (stepped is (run + 1)) t steps)
  up_to_after run steps t h = record {
    all = last_of (list_any is steps) run t.all (fold (stepped is (run + 1)) t steps).all (all_after run steps t h) h.all;
    yes = last_of (list_any (λ s. is s && is_yes s) steps) run t.yes (fold (stepped is (run + 1)) t steps).yes
        (yes_after run steps t h) h.yes;
    no = last_of (list_any (λ s. is s && is_no s) steps) run t.no (fold (stepped is (run + 1)) t steps).no
        (no_after run steps t h) h.no;
  }

  -- one run's part of the sum
  sum_next : (p : TraceStep → Bool) (steps : List TraceStep) (traces : List (List TraceStep)) (run last : ℕ) (t u : TallyState)
      → u ≡ counted (list_any p steps) (run + 1) t → last ≡ u.runs + traces_with p traces
      → last ≡ t.runs + traces_with p (steps ∷ traces)
  sum_next p steps traces run last t u e h =
      let one = ap (λ (v : TallyState). v.runs) e ∙ counted_runs (list_any p steps) (run + 1) t in
      let more = count_cons (λ s. list_any p s) steps traces in
      omega (arith, h, one, more)

  all_counts : (f : Flowchart) (cs : List ℕ) (traces : List (List TraceStep)) (run : ℕ) (t : StatementTally) → IsUpTo run t
      → (after_runs f cs is run t traces).all.runs ≡ t.all.runs + traces_with is traces
  all_counts f cs [] run t h = sym (add-zero t.all.runs)
  all_counts f cs (steps ∷ traces) run t h =
      let u = fold (stepped is (run + 1)) t steps in
      sum_next is steps traces run (after_runs f cs is (run + 1) u traces).all.runs t.all u.all (all_after run steps t h)
      (all_counts f cs traces (run + 1) u (up_to_after run steps t h))

  yes_counts : (f : Flowchart) (cs : List ℕ) (traces : List (List TraceStep)) (run : ℕ) (t : StatementTally) → IsUpTo run t
      → (after_runs f cs is run t traces).yes.runs ≡ t.yes.runs + traces_with (λ s. is s && is_yes s) traces
  yes_counts f cs [] run t h = sym (add-zero t.yes.runs)
  yes_counts f cs (steps ∷ traces) run t h =
      let u = fold (stepped is (run + 1)) t steps in
      sum_next (λ s. is s && is_yes s) steps traces run (after_runs f cs is (run + 1) u traces).yes.runs t.yes u.yes
      (yes_after run steps t h) (yes_counts f cs traces (run + 1) u (up_to_after run steps t h))

  no_counts : (f : Flowchart) (cs : List ℕ) (traces : List (List TraceStep)) (run : ℕ) (t : StatementTally) → IsUpTo run t
      → (after_runs f cs is run t traces).no.runs ≡ t.no.runs + traces_with (λ s. is s && is_no s) traces
  no_counts f cs [] run t h = sym (add-zero t.no.runs)
  no_counts f cs (steps ∷ traces) run t h =
      let u = fold (stepped is (run + 1)) t steps in
      sum_next (λ s. is s && is_no s) steps traces run (after_runs f cs is (run + 1) u traces).no.runs t.no u.no
      (no_after run steps t h) (no_counts f cs traces (run + 1) u (up_to_after run steps t h))

-- ---- the result

start_up_to : IsUpTo 0 no_statement
start_up_to = record { all = omega arith; yes = omega arith; no = omega arith }

abbrev runs_of : ℕ → ℕ → ℕ → StatementRuns
runs_of a b c = record { runs = a; yes = b; no = c }

same_runs : (a b c d e g : ℕ) → a ≡ d → b ≡ e → c ≡ g → runs_of a b c ≡ runs_of d e g
same_runs a b c d e g p q r = ap (λ x. runs_of x b c) p ∙ ap (λ y. runs_of d y c) q ∙ ap (λ z. runs_of d e z) r

statement_is : (f : Flowchart) (cs : List ℕ) (traces : List (List TraceStep)) (m n : ℕ)
    → runs_in (after_runs f cs (is_step_of f m n) 0 no_statement traces) ≡ statement_runs f traces m n
statement_is f cs traces m n =
    let is = is_step_of f m n in
    same_runs _ _ _ _ _ _
    (all_counts is f cs traces 0 no_statement start_up_to ∙ zero-add (traces_with is traces))
    (yes_counts is f cs traces 0 no_statement start_up_to ∙ zero-add (traces_with (λ s. is s && is_yes s) traces))
    (no_counts is f cs traces 0 no_statement start_up_to ∙ zero-add (traces_with (λ s. is s && is_no s) traces))

map_row : {A B : Type 0} (h : A → B) (of : ℕ → A) (ns : List ℕ) → map h (map of ns) ≡ map (λ n. h (of n)) ns
map_row h of [] = refl
map_row h of (n ∷ ns) = ap (λ l. h (of n) ∷ l) (map_row h of ns)

map_rows : {A B : Type 0} (h : A → B) (of : ℕ → ℕ → A) (m : ℕ) (counts : List ℕ)
    → map (map h) (by_statement of m counts) ≡ by_statement (λ i n. h (of i n)) m counts
map_rows h of m [] = refl
map_rows h of m (c ∷ counts) =
    ap (λ l. l ∷ map (map h) (by_statement of (m + 1) counts)) (map_row h (of m) (range_with_len 0 c))
    ∙ ap (λ l. map (λ n. h (of m n)) (range_with_len 0 c) ∷ l) (map_rows h of (m + 1) counts)

start_rows : (m : ℕ) (counts : List ℕ) → map no_statements counts ≡ by_statement (λ i n. no_statement) m counts
start_rows m [] = refl
start_rows m (c ∷ counts) = ap (λ l. no_statements c ∷ l) (start_rows (m + 1) counts)

flat_mapped : {X Y A : Type 0} (of : Y → List A) (g : X → Y) (xs : List X) → flat_map of (map g xs) ≡ flat_map (λ x. of (g x)) xs
flat_mapped of g [] = refl
flat_mapped of g (x ∷ xs) = ap (λ l. of (g x) ++ l) (flat_mapped of g xs)

-- the runs of all years are those of the book
pub whole_book : (book : Contents) (years : List Year) → kept_runs years ≡ book.years
    → flat_map (λ y. year_traces book (runs_in_year y)) years ≡ book_traces book
whole_book book years is = sym (flat_mapped (year_traces book) runs_in_year years) ∙ ap (flat_map (year_traces book)) is

pub covered : (f : Flowchart) (counts : List ℕ) (traces : List (List TraceStep)) (start end : BoardState)
    → start ≡ board_state 0 (map no_statements counts) → end ≡ fold (after_trace f) start traces
    → map (map runs_in) end.methods ≡ coverage_of f counts traces
covered f counts traces start end begins ends =
    ap (λ (b : BoardState). map (map runs_in) b.methods) (ends ∙ ap (λ b. fold (after_trace f) b traces) begins)
    ∙ ap (λ l. map (map runs_in) (fold (after_trace f) (board_state 0 l) traces).methods) (start_rows 0 counts)
    ∙ ap (map (map runs_in)) (runs_all f counts traces 0 (λ m n. no_statement))
    ∙ map_rows runs_in (λ m n. after_runs f counts (is_step_of f m n) 0 no_statement traces) 0 counts
    ∙ (λ i. by_statement (λ m n. statement_is f counts traces m n i) 0 counts)
