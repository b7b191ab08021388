-- The answer on a table from what the calls below promise.
use Rattle.std.proofs.Common.{◌≡◌, ℕ, Vec, List, [], ◌∷◌, get_or, length, map, sym, ap, ◌∙◌, subst}
use Rattle.std.specs.Prelude.{Result, Ok, Err, IfOk}
use Rattle.std.specs.declared.alloc.AllocError.{AllocError}
use Rattle.std.specs.declared.alloc.Global.{Global}
use Rattle.std.specs.BTreeSet.{BTreeSet}
use Rattle.pap_tree.specs.Flowchart.{Flowchart, flowchart_of}
use Rattle.limits_file.specs.declared.limits.Limits.{Limits}
use Rattle.interval_walk.specs.Ranges.{Ranges}
use Rattle.interval_walk.specs.Analysis.{analysed}
use Rattle.interval_analysis.specs.Answers.{IsWalkFaultOrMemory}
use Rattle.interval_analysis.specs.declared.fault.RangeFault.{RangeFault}
use Rattle.interval_analysis.specs.declared.fault.RangeFault.TheVariants as ranges
use Rattle.interval_analysis.specs.Surveys.{StatementPlace, AreReached}
use Rattle.pap_plan.specs.declared.refusal.PlanRefusal.{PlanRefusal}
use Rattle.pap_plan.specs.declared.refusal.PlanRefusal.TheVariants as plans
use Rattle.pap_plan.specs.Acceptance.{Meaning, HasBindings, IsRefusedOrMemory}
use Rattle.pap_plan.specs.AcceptanceClauses.{IsAcceptedAs}
use Rattle.pap_plan.specs.declared.bound.BoundPlan.{BoundPlan}
use Rattle.pap_plan.specs.BoundPlans.{IsBoundPlan}
use Rattle.pap_plan.specs.StageRefusals.{range_refusal}
use Rattle.pap_plan.specs.Plans.{Seen, flowchart, meaning}
use Rattle.pap_plan.proofs.Laws.{one}
use Rattle.payroll_records.specs.declared.day.Day.{Day}
use Rattle.plan_calendar.specs.Picking.{Entry}
use Rattle.book_year.specs.Accepted.{Accepted, accepted, plans_in}
use Rattle.payroll_records.specs.declared.record.Record.{Record}
use Rattle.payroll_records.specs.declared.table.TableFault.{TableFault}
use Rattle.payroll_records.specs.declared.table.TableFault.TheVariants as tables
use Rattle.payroll_records.specs.Tables.{IsTable, IsTableFaultOrMemory}
use Rattle.recalc_engine.specs.Contents.{Contents}
use Rattle.statement_list.specs.Statements.{Listed, listed_methods}
use Rattle.plan_notes.specs.declared.notes.Notes.{Notes}
use Rattle.plan_notes.specs.declared.tag.Mark.{Mark}
use Rattle.plan_notes.specs.Notes.{HasNotes}
use Rattle.source_lines.specs.Lines.{FileLines, lines_of_file}
use Rattle.run_coverage.specs.declared.runs.StatementRuns.{StatementRuns}
use Rattle.run_coverage.specs.Coverage.{coverage_of}
use Rattle.run_coverage.specs.CoveredRuns.{book_traces}
use Rattle.coverage_text.specs.declared.item.MethodItems.{MethodItems}
use Rattle.coverage_text.specs.CoverageItems.{CoveredMethod}
use Rattle.coverage_text.specs.FlowchartItems.{KnownPlaces, flowchart_items}
use Rattle.table_coverage.specs.declared.refusal.CoverRefusal.{CoverRefusal}
use Rattle.table_coverage.specs.declared.refusal.CoverRefusal.TheVariants as refusals
use Rattle.table_coverage.specs.Refusals.{refusal_of_plan, refusal_of_table}
use Rattle.table_coverage.specs.TableCoverages.{CoverFiles, IsBookOf, RunsFound, found_with, TellsCoverage, book_items, accepted_plan, IsCovered, IsCoverRefused}
use Rattle.table_coverage.specs.private.Parts.{IsReachable, IsPlanned, IsBookCovered, IsWithoutBook}

if_ok_map : {A E : Type 0} (r : Result A E) (P Q : A → Type 0) → ((a : A) → P a → Q a) → IfOk r P → IfOk r Q
if_ok_map (Ok a) P Q f h = f a h
if_ok_map (Err e) P Q f h = tt

-- ---- refusals

pub plan_refused : (files : CoverFiles) (why : PlanRefusal) (refusal : CoverRefusal)
    → IsRefusedOrMemory files.plan files.limits why → refusal ≡ refusal_of_plan why → IsCoverRefused files refusal
plan_refused files why refusal h is = subst (λ r. IsCoverRefused files r) (sym is) (by why h)
  where
    by : (why : PlanRefusal) → IsRefusedOrMemory files.plan files.limits why → IsCoverRefused files (refusal_of_plan why)
    by (plans.Read fault) h = h
    by (plans.Expr spot fault) h = h
    by (plans.Types fault) h = h
    by (plans.Order fault) h = h
    by (plans.Limits fault) h = h
    by (plans.LimitName name) h = h
    by (plans.LimitKind name) h = h
    by (plans.Bind name) h = h
    by (plans.Range fault) h = h
    by plans.Memory h = tt

pub table_refused : (files : CoverFiles) (p : Seen) (fault : TableFault) (refusal : CoverRefusal)
    → IsAcceptedAs files.plan files.limits p → IsTableFaultOrMemory files.table fault → refusal ≡ refusal_of_table fault
    → IsCoverRefused files refusal
table_refused files p fault refusal a h is = subst (λ r. IsCoverRefused files r) (sym is) (by fault h)
  where
    by : (fault : TableFault) → IsTableFaultOrMemory files.table fault → IsCoverRefused files (refusal_of_table fault)
    by tables.TableLong h = record { meaning = meaning p; accepted = a.accepted; refused = h }
    by tables.Header h = record { meaning = meaning p; accepted = a.accepted; refused = h }
    by (tables.Width row) h = record { meaning = meaning p; accepted = a.accepted; refused = h }
    by (tables.Employee row) h = record { meaning = meaning p; accepted = a.accepted; refused = h }
    by (tables.Month row) h = record { meaning = meaning p; accepted = a.accepted; refused = h }
    by (tables.Day row) h = record { meaning = meaning p; accepted = a.accepted; refused = h }
    by (tables.Value row name) h = record { meaning = meaning p; accepted = a.accepted; refused = h }
    by (tables.Repeat row) h = record { meaning = meaning p; accepted = a.accepted; refused = h }
    by (tables.Memory error) h = tt

pub runs_refused : (files : CoverFiles) (p : Seen) (runs : List Record) (refusal : CoverRefusal)
    → IsAcceptedAs files.plan files.limits p → IsTable files.table runs → IsWithoutBook runs refusal
    → IsCoverRefused files refusal
runs_refused files p runs refusals.Records a t h = record {
  meaning = meaning p;
  runs = runs;
  has = record { accepted = a.accepted; read = t };
  many = h;
}
runs_refused files p runs (refusals.Memory error) a t h = tt
runs_refused files p runs (refusals.Plan why) a t h = absurd h
runs_refused files p runs (refusals.Table fault) a t h = absurd h

-- ---- the answer

-- the plan as a book has it, of these files
accepted_is : (files : CoverFiles) (p : Seen) → IsAcceptedAs files.plan files.limits p
    → accepted p ≡ accepted_plan files (meaning p)
accepted_is files p a =
    ap (λ b. accepted_plan (record { plan = b; limits = p.limits; table = files.table }) (meaning p)) a.plan_bytes
    ∙ ap (λ b. accepted_plan (record { plan = files.plan; limits = b; table = files.table }) (meaning p)) a.limits_bytes

-- where texts pass all stages but the last, and the walk over the ranges too, they are accepted
pub reached_statements : (plan limits : List ℕ) (f : Flowchart) (l : Limits) (outputs : Ranges) (reached : BTreeSet StatementPlace)
    → HasBindings plan limits f l → analysed f l ≡ Ok outputs → AreReached f l reached → IsReachable plan limits reached
reached_statements plan limits f l outputs reached bound walked are m h =
    let own : Meaning = record { flowchart = f; limits = l; outputs = outputs } in
    let same : ◌≡◌ {A = Result Meaning PlanRefusal} (Ok own) (Ok m) =
    one plan limits (Ok own) (Ok m) (record { bound = bound; walked = walked }) h in
    let is : own ≡ m = cc in
    subst (λ (x : Meaning). AreReached x.flowchart x.limits reached) is are

-- a walk that fails refuses the texts
pub range_refused : (plan limits : List ℕ) (b : BoundPlan) (fault : RangeFault) (why : PlanRefusal) → IsBoundPlan plan limits b
    → IsWalkFaultOrMemory (flowchart_of b.typed) b.limits fault → why ≡ range_refusal fault → IsRefusedOrMemory plan limits why
range_refused plan limits b fault why bound h is = subst (λ r. IsRefusedOrMemory plan limits r) (sym is) (by fault h)
  where
    by : (fault : RangeFault) → IsWalkFaultOrMemory (flowchart_of b.typed) b.limits fault
        → IsRefusedOrMemory plan limits (range_refusal fault)
    by (ranges.At place cause) h = (flowchart_of b.typed, (b.limits, bound.passed, h))
    by (ranges.Output name) h = (flowchart_of b.typed, (b.limits, bound.passed, h))
    by (ranges.Memory error) h = tt

pub covered_table : (files : CoverFiles) (reached : BTreeSet StatementPlace) (p : Seen) (runs : List Record) (book : Contents)
    (found : RunsFound) → IsReachable files.plan files.limits reached → IsAcceptedAs files.plan files.limits p
    → IsTable files.table runs → IsBookOf (accepted p) runs book → IsBookCovered files.plan reached book found
    → IsCovered files found
covered_table files reached p runs book found reachable a t held told = record {
  meaning = meaning p;
  runs = runs;
  has = record { accepted = a.accepted; read = t };
  book = book;
  held = subst (λ x. IsBookOf x runs book) (accepted_is files p a) held;
  reached = reached;
  are_reached = reachable (meaning p) a.accepted;
  told = told held.day (accepted p) held.plans;
}

-- ---- the runs of a book

-- the book of a table has a plan
pub has_plan : (p : Accepted) (runs : List Record) (book : Contents) → IsBookOf p runs book → IsPlanned book
has_plan p runs book held none =
    let same : ◌≡◌ {A = List (Entry Accepted)} [] ((held.day, p) ∷ []) = sym none ∙ held.plans in absurd (cc same)

-- what is found of the first plan of a book is found of its only one
pub only_plan : (file : List ℕ) (reached : BTreeSet StatementPlace) (book : Contents) (entries rest : List (Entry Seen)) (day : Day)
    (p : Seen) (found : RunsFound) → plans_in entries ≡ book.plans → entries ≡ (day, p) ∷ rest
    → TellsCoverage file (flowchart p) reached book found → IsBookCovered file reached book found
only_plan file reached book entries rest day p found held is told day' q has =
    let same : ◌≡◌ {A = List (Entry Accepted)} ((day, accepted p) ∷ plans_in rest) ((day', q) ∷ []) =
    sym (ap (λ es. plans_in es) is) ∙ held ∙ has in
    subst (λ (x : Accepted). TellsCoverage file x.meaning.flowchart reached book found)
    (ap (λ (es : List (Entry Accepted)). (get_or es 0 (day, accepted p)).1) same) told

-- statements and exits with the lines of the file
pub told_runs : (file : List ℕ) (f : Flowchart) (reached : BTreeSet StatementPlace) (book : Contents) (notes : Notes) (marks : List Mark)
    (lines : FileLines) (methods : List CoveredMethod) (made : Result RunsFound AllocError) → HasNotes file notes
    → marks ≡ notes.marks.items → lines ≡ lines_of_file file marks
    → methods ≡ book_items f (record { lines = lines; reached = reached }) book
    → IfOk made (λ found. found ≡ found_with methods book) → IfOk made (λ found. TellsCoverage file f reached book found)
told_runs file f reached book notes marks lines methods made noted same are items =
    if_ok_map made (λ found. found ≡ found_with methods book) (λ found. TellsCoverage file f reached book found)
    (λ found is. record {
      notes = notes;
      noted = noted;
      tells =
          is ∙ ap (λ ms. found_with ms book)
          (items ∙ ap (λ l. book_items f (record { lines = l; reached = reached }) book) (are ∙ ap (λ ms. lines_of_file file ms) same));
    })

-- statements and exits of a flowchart, given how many statements its methods have
pub items_covered : (f g : Flowchart) (known : KnownPlaces) (book : Contents) (listed listed' : List (List Listed)) (counts counts' : List ℕ)
    (runs runs' : List (List StatementRuns)) (made : Result (Vec MethodItems Global) AllocError) → g ≡ f → listed ≡ listed_methods g
    → listed' ≡ listed → counts ≡ map length listed' → counts' ≡ counts → runs ≡ coverage_of f counts' (book_traces book)
    → runs' ≡ runs → IfOk made (λ methods. methods.items ≡ flowchart_items g known runs')
    → IfOk made (λ methods. methods.items ≡ book_items f known book)
items_covered f g known book listed listed' counts counts' runs runs' made same l l' n n' r r' =
    if_ok_map made (λ methods. methods.items ≡ flowchart_items g known runs') (λ methods. methods.items ≡ book_items f known book)
    (λ methods e. e ∙ ap (λ h. flowchart_items h known runs') same ∙ ap (λ x. flowchart_items f known x)
    (r' ∙ r ∙ ap (λ c. coverage_of f c (book_traces book))
    (n' ∙ n ∙ ap (λ ms. map (λ m. length m) ms) (l' ∙ l ∙ ap (λ h. listed_methods h) same))))
