-- Executions that are counted one after the other, and lines that are made of their texts.
use Rattle.std.proofs.Common.{◌≡◌, ℕ, ◌+◌, ◌<◌, List, ◌++◌, length, take, drop, get_or, map, sym, ap, ◌∙◌, arith, append_assoc}
use Rattle.std.specs.Prelude.{Option}
use Rattle.std.specs.List.{fold}
use Rattle.std.specs.Option.{option_map_or}
use Rattle.std.proofs.lemmas.List.{take_all, drop_all, append-nil}
use Rattle.scaled_decimal.specs.Decimals.{Decimal}
use Rattle.pap_tree.specs.Flowchart.{Flowchart}
use Rattle.month_trace.specs.declared.step.TraceStep.{TraceStep}
use Rattle.run_trace.specs.StepLines.{StepPlace, step_place, method_number, values_behind}
use Rattle.run_trace.specs.RunPages.{place_of}
use Rattle.run_trace.specs.RunMarks.{execution, executions_from, middle_point, led_by}
use Rattle.run_trace.specs.private.MarkTallies.{MarkTally}
use Rattle.run_trace.specs.private.MarkViews.{with_execution, changed_at, after_execution}
use Rattle.run_trace.proofs.StepLemmas.{from_item}

-- one execution more of those of a run
pub one_execution : (f : Flowchart) (values values' : List Decimal) (i : ℕ) (steps : List TraceStep) (s : TraceStep)
    (tallies tallies' whole : List (List MarkTally)) → s ≡ get_or steps i s → i < length steps
    → fold (after_execution f) tallies (executions_from f (i + 1) values (drop i steps)) ≡ whole
    → tallies' ≡ after_execution f tallies (execution (i + 1) values s) → values' ≡ values_behind f values s
    → fold (after_execution f) tallies' (executions_from f (i + 1 + 1) values' (drop (i + 1) steps)) ≡ whole
one_execution f values values' i steps s tallies tallies' whole is lt so_far added put =
    let rest = drop (i + 1) steps in
    let now = after_execution f tallies (execution (i + 1) values s) in
    ap (λ t. fold (after_execution f) t (executions_from f (i + 1 + 1) values' rest)) added
    ∙ ap (λ v. fold (after_execution f) now (executions_from f (i + 1 + 1) v rest)) put
    ∙ ap (λ l. fold (after_execution f) tallies (executions_from f (i + 1) values l)) (sym (from_item steps i s is lt))
    ∙ so_far

-- an execution is counted at the place of its step
pub stepped_at : (f : Flowchart) (s : TraceStep) (k : ℕ) (values : List Decimal) (tallies : List (List MarkTally))
    (name : List ℕ) (statement : ℕ) (o : Option ℕ) → step_place name statement ≡ place_of s → o ≡ method_number f name
    → option_map_or (λ m. changed_at m (changed_at statement (with_execution f (execution k values s))) tallies) o tallies
    ≡ after_execution f tallies (execution k values s)
stepped_at f s k values tallies name statement o at is =
    ap (λ x. option_map_or (λ m. changed_at m (changed_at statement (with_execution f (execution k values s))) tallies) x tallies) is
    ∙ ap (λ (p : StepPlace). option_map_or (λ m. changed_at m (changed_at p.statement (with_execution f (execution k values s))) tallies)
    (method_number f p.method) tallies) at

-- one text more in a line
pub one_text : {A : Type 0} (of : A → List ℕ) (lead : List ℕ) (texts : List A) (i : ℕ) (text : A) (line line' whole : List ℕ)
    → text ≡ get_or texts i text → i < length texts → line ++ led_by lead (map of (drop i texts)) ≡ whole
    → line' ≡ (line ++ lead) ++ of text → line' ++ led_by middle_point (map of (drop (i + 1) texts)) ≡ whole
one_text of lead texts i text line line' whole is lt so_far added =
    let rest = led_by middle_point (map of (drop (i + 1) texts)) in
    ap (λ l. l ++ rest) added ∙ append_assoc (line ++ lead) (of text) rest ∙ append_assoc line lead (of text ++ rest)
    ∙ ap (λ l. line ++ led_by lead (map of l)) (sym (from_item texts i text is lt)) ∙ so_far

-- a list that was written in its whole length
pub written_whole : {A : Type 0} (n : ℕ) (out items : List A) → length out ≡ n → length items ≡ n
    → take n (out ++ drop (length out) items) ≡ out
written_whole n out items h k =
    ap (λ t. take n (out ++ t)) (drop_all (length out) items (omega arith)) ∙ ap (take n) (append-nil out)
    ∙ take_all n out (omega arith)
