-- One run more, and one year more.
use Rattle.std.proofs.Common.{◌≡◌, ℕ, ◌+◌, ◌<◌, List, [], ◌∷◌, ◌++◌, length, take, get_or, sym, ap, ◌∙◌, arith}
use Rattle.std.specs.Prelude.{Some, None, option_and_then, option_to_list}
use Rattle.std.specs.List.{fold, flat_map}
use Rattle.std.proofs.lemmas.List.FromFn.{map-range_with_len_more}
use Rattle.std.proofs.lemmas.List.{append-nil, take_more}
use Rattle.std.proofs.lemmas.List.Sums.{fold-append}
use Rattle.std.proofs.lemmas.Grind.{flat_map-append}
use Rattle.pap_tree.specs.Flowchart.{Flowchart}
use Rattle.payroll_records.specs.declared.record.Key.{Key}
use Rattle.book_year.specs.Rows.{Job}
use Rattle.recalc_engine.specs.Contents.{Contents}
use Rattle.recalc_engine.specs.Jobs.{job_of_key}
use Rattle.month_trace.specs.declared.step.TraceStep.{TraceStep}
use Rattle.run_coverage.specs.declared.statement.StatementTally.{StatementTally}
use Rattle.month_trace.specs.BookTraces.{job_trace}
use Rattle.run_coverage.specs.CoveredRuns.{key_traces}
use Rattle.run_coverage.specs.private.Tallies.{BoardState, board_state, no_statement, no_statements, after_step, after_trace}

pub fold_next : {A B X : Type 0} (after : B → A → B) (of : X → List A) (xs : List X) (i : ℕ) (x d : X) (start now next : B)
    → i < length xs → x ≡ get_or xs i d → now ≡ fold after start (flat_map of (take i xs)) → next ≡ fold after now (of x)
    → next ≡ fold after start (flat_map of (take (i + 1) xs))
fold_next after of xs i x d start now next lt is so_far done =
    done ∙ ap (λ b. fold after b (of x)) so_far ∙ ap (λ y. fold after (fold after start (flat_map of (take i xs))) (of y)) is
    ∙ sym (fold-append after start (flat_map of (take i xs)) (of (get_or xs i d)))
    ∙ ap (λ l. fold after start (flat_map of (take i xs) ++ l)) (sym (append-nil (of (get_or xs i d))))
    ∙ ap (fold after start) (sym (flat_map-append of (take i xs) (get_or xs i d ∷ [])))
    ∙ ap (λ l. fold after start (flat_map of l)) (sym (take_more xs i d lt))

-- ---- one run

pub no_run : (f : Flowchart) (book : Contents) (k : Key) (b : BoardState) → None ≡ job_of_key book k
    → b ≡ fold (after_trace f) b (key_traces book k)
no_run f book k b is = ap (λ o. fold (after_trace f) b (option_to_list (option_and_then job_trace o))) is

pub run_counted : (f : Flowchart) (book : Contents) (k : Key) (job : Job) (steps : List TraceStep) (old new : BoardState) (run : ℕ)
    → Some job ≡ job_of_key book k → job_trace job ≡ Some steps → run ≡ old.run + 1
    → new ≡ board_state run (fold (after_step f run) old.methods steps) → new ≡ fold (after_trace f) old (key_traces book k)
run_counted f book k job steps old new run is traced number done =
    done ∙ ap (λ n. board_state n (fold (after_step f n) old.methods steps)) number
    ∙ ap (λ o. fold (after_trace f) old (option_to_list o)) (sym traced)
    ∙ ap (λ o. fold (after_trace f) old (option_to_list (option_and_then job_trace o))) is

-- ---- no runs

pub tallies_more : (n : ℕ) (now next : List StatementTally) (x : StatementTally) → x ≡ no_statement → now ≡ no_statements n
    → next ≡ now ++ (x ∷ []) → next ≡ no_statements (n + 1)
tallies_more n now next x none so_far more =
    more ∙ ap (λ y. now ++ (y ∷ [])) none ∙ ap (λ l. l ++ (no_statement ∷ [])) so_far
    ∙ sym (map-range_with_len_more (λ k. no_statement) 0 n n (omega arith))
