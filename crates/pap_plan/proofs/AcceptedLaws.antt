-- What holds of accepted texts: no run on admitted inputs fails, the bound is small, and each range bears its output's name.
use Rattle.std.proofs.Common.{◌≡◌, ℕ, List, [], ◌∷◌, ◌++◌, length, take, drop, map, Option, Some, None, Ok, Err, refl, sym, ap, ◌∙◌}
use Rattle.std.specs.Prelude.{not}
use Rattle.std.specs.List.{find, take-map, drop-map}
use Rattle.std.specs.Option.{option_map, option_map_or}
use Rattle.std.proofs.Math.Seq.{take-append_seam, drop-append_seam}
use Rattle.scaled_decimal.specs.Decimals.{Decimal}
use Rattle.pap_tree.specs.Declarations.{Declaration}
use Rattle.limits_file.specs.declared.limits.Limits.{Limits}
use Rattle.pap_types.specs.Limits.{longest_chain}
use Rattle.pap_types.specs.Meaning.{IsSafeFor, outputs_in}
use Rattle.pap_tree.specs.Names.{main_name}
use Rattle.pap_types.specs.Scopes.{names_of, scope_of}
use Rattle.pap_types.proofs.Laws.{cost_at_most}
use Rattle.call_order.proofs.Laws.{bound_small}
use Rattle.interval_walk.specs.Admission.{AreAdmitted}
use Rattle.interval_walk.specs.Analysis.{input_range, first_range, start_ranges, range_calls_in, is_bounded, output_ranges, unless_unbounded}
use Rattle.interval_walk.specs.Failures.{output_fails}
use Rattle.interval_walk.specs.Ranges.{NamedRange, Ranges, names_in}
use Rattle.interval_walk.specs.Walked.{walked}
use Rattle.interval_walk.proofs.Laws.{analysis_sound, reads_all, refused_outright, refusals_rows, stepped, walked_named, calls_named}
use Rattle.pap_plan.specs.Acceptance.{Meaning, IsAccepted}
use Rattle.pap_plan.specs.AcceptanceLaws.{AcceptedPlansNeverFail, BoundsAreSmall, RangesAreNamed, JudgedPlansAreRead, JudgedPlansAreRefusedByRows, OrderedPlansCanBeWalked}
use Rattle.pap_plan.proofs.CountLemmas.{counted}
use Rattle.pap_plan.proofs.HeldLemmas.{plan_held}
use Rattle.pap_plan.proofs.MeaningLemmas.{judged_limits, accepted_limits}

pub never_fail : AcceptedPlansNeverFail
never_fail plan limits m h inputs k =
    let typed = h.bound.suited.named.file.ordered.typed in
    let f = m.flowchart in
    let run = analysis_sound f m.limits m.outputs typed.typed (counted plan f typed.text) (accepted_limits plan limits m h) h.walked inputs k in
    record {
      safe = run.safe;
      outputs = outputs_in f run.safe.ends;
      are = ap (option_map (outputs_in f)) run.safe.defined;
      within = run.outputs;
      cost = cost_at_most f inputs;
    }

-- so every such list of inputs is safe
pub accepted_safe : (plan limits : List ℕ) (m : Meaning) → IsAccepted plan limits m → (inputs : List Decimal) → AreAdmitted m.flowchart m.limits inputs → IsSafeFor m.flowchart inputs
accepted_safe plan limits m h inputs k = (never_fail plan limits m h inputs k).safe

pub small_bounds : BoundsAreSmall
small_bounds plan limits m h =
    let ordered = h.bound.suited.named.file.ordered in
    bound_small m.flowchart ordered.ordered.0 (counted plan m.flowchart ordered.typed.text) ordered.ordered.1

-- the walk that judges a plan's ranges refuses nothing where it is read
pub judged_read : JudgedPlansAreRead
judged_read plan limits f l h =
    let typed = h.suited.named.file.ordered.typed in
    reads_all f l typed.typed (counted plan f typed.text) (plan_held plan f typed.text) (judged_limits plan limits f l h)

-- nor anything outright
pub ordered_walked : OrderedPlansCanBeWalked
ordered_walked plan f h = refused_outright f h.typed.typed h.ordered.1.chains

-- what is refused is refused by a row, or an output is beyond its bound
pub judged_rows : JudgedPlansAreRefusedByRows
judged_rows plan limits f l x h e =
    let ordered = h.suited.named.file.ordered in
    let text = ordered.typed.text in
    let have = judged_limits plan limits f l h in
    refusals_rows f l x ordered.typed.typed (counted plan f text) (plan_held plan f text) ordered.ordered.1.chains have e

-- ---- the names of the ranges

start_named : (limits : Limits) (ds es : List Declaration) → names_in (map (input_range limits) ds ++ map first_range es) ≡ names_of (ds ++ es)
start_named limits [] [] = refl
start_named limits [] (e ∷ es) = ap (λ ns. e.name ∷ ns) (start_named limits [] es)
start_named limits (d ∷ ds) es = ap (λ ns. d.name ∷ ns) (start_named limits ds es)

-- what stands between others of all declarations
between : (ds es fs : List Declaration) → take (length es) (drop (length ds) (ds ++ (es ++ fs))) ≡ es
between ds es fs = ap (take (length es)) (drop-append_seam ds (es ++ fs)) ∙ take-append_seam es fs

part_named : (ds es fs : List Declaration) (rs : Ranges) → names_in rs ≡ names_of (ds ++ (es ++ fs)) → names_in (take (length es) (drop (length ds) rs)) ≡ names_of es
part_named ds es fs rs e =
    let all = ds ++ (es ++ fs) in
    let ranges = sym (take-map (λ (v : NamedRange). v.name) (length es) (drop (length ds) rs)) ∙ ap (take (length es)) (sym (drop-map (λ (v : NamedRange). v.name) (length ds) rs)) in
    let names = ap (take (length es)) (drop-map (λ (d : Declaration). d.name) (length ds) all) ∙ take-map (λ (d : Declaration). d.name) (length es) (drop (length ds) all) in
    ranges ∙ ap (λ ns. take (length es) (drop (length ds) ns)) e ∙ names ∙ ap names_of (between ds es fs)

bounded_same : (rs ranges : Ranges) → unless_unbounded rs ≡ Ok ranges → rs ≡ ranges
bounded_same rs ranges e = by_found (find (λ o. not (is_bounded o.range)) rs) e
  where
    by_found : (o : Option NamedRange) → option_map_or (λ o. Err (output_fails o.name o.range)) o (Ok rs) ≡ Ok ranges → rs ≡ ranges
    by_found (Some r) g = absurd (cc)
    by_found None g = cc

pub ranges_named : RangesAreNamed
ranges_named plan limits m h =
    let f = m.flowchart in
    let scope = scope_of f in
    let start = start_ranges f m.limits in
    let ends = stepped (walked scope (range_calls_in f) main_name 0 f.main start) (λ ends. unless_unbounded (output_ranges f ends)) m.outputs h.walked in
    let named = walked_named scope (range_calls_in f) main_name (calls_named scope f.methods longest_chain) f.main 0 start ends.0 ends.1 in
    ap names_in (sym (bounded_same (output_ranges f ends.0) m.outputs ends.2))
    ∙ part_named f.inputs f.outputs f.internals ends.0 (named ∙ start_named m.limits f.inputs (f.outputs ++ f.internals))
