-- The outputs of a book's runs: they are within their bound, and those of one run have different names.
use Rattle.std.proofs.Common.{◌≡◌, ◌≢◌, ℕ, suc, ◌<◌, List, [], ◌∷◌, ◌++◌, map, get_or, Option, Some, None, refl, ap, subst, arith}
use Rattle.std.specs.Prelude.{AllPairs}
use Rattle.std.specs.List.{AllByRecursion, flat_map}
use Rattle.std.specs.Option.{option_map_or}
use Rattle.std.proofs.lemmas.List.{get_or_append_left, length-append}
use Rattle.std.proofs.lemmas.List.Elements.{All-from_recursion}
use Rattle.scaled_decimal.specs.Decimals.{Decimal}
use Rattle.pap_tree.specs.Declarations.{Declaration}
use Rattle.payroll_records.specs.declared.day.Day.{Day}
use Rattle.payroll_records.specs.declared.record.Record.{Record}
use Rattle.payroll_records.specs.NamedValues.{name_of}
use Rattle.plan_calendar.specs.Picking.{AreEntries, Entry, IsLatest, pick, plan_of, serves}
use Rattle.plan_calendar.proofs.Laws.{pick_latest}
use Rattle.pap_types.specs.Meaning.{outputs_of}
use Rattle.pap_types.specs.Scopes.{names_of}
use Rattle.pap_types.specs.Typing.{AreDistinct}
use Rattle.pap_types.proofs.Laws.{has_types}
use Rattle.carry_bindings.specs.declared.carried.Earlier.{Earlier}
use Rattle.carry_bindings.specs.declared.filling.Filled.{Filled}
use Rattle.carry_bindings.specs.declared.filling.Filled.TheVariants as filling
use Rattle.pay_run.specs.Runs.{filled, named_values, run_outputs}
use Rattle.book_year.specs.Accepted.{Accepted}
use Rattle.book_year.specs.declared.outcome.Outcome.{Outcome}
use Rattle.book_year.specs.declared.year.Year.{Year}
use Rattle.book_year.specs.declared.year.YearKey.{YearKey}
use Rattle.book_year.specs.Kept.{IsBounded}
use Rattle.book_year.specs.Rows.{Planned, done_outputs, row_filled, row_of, rows}
use Rattle.book_year.specs.Years.{IsYear}
use Rattle.book_edits.specs.Books.{YearRuns}
use Rattle.recalc_engine.specs.BookLaws.{AreAcceptedPlans, IsBook, IsAcceptedPlan}
use Rattle.recalc_engine.specs.private.BookLaws.{HasPlan}
use Rattle.recalc_engine.specs.Contents.{Contents}
use Rattle.recalc_engine.specs.MonthRows.{keyed_row, keyed_rows, month_rows}
use Rattle.recalc_engine.specs.KeptRows.{kept_rows, rows_kept, rows_kept_in}
use Rattle.recalc_engine.specs.RowLaws.{AreNamed, HasBound, HasNames, HaveNames}
use Rattle.recalc_engine.proofs.RowLemmas.{next}

pub all_both : {X : Type 0} (P : X → Type 0) (xs ys : List X) → AllByRecursion P xs → AllByRecursion P ys →
    AllByRecursion P (xs ++ ys)
all_both P [] ys h g = g
all_both P (x ∷ xs) ys h g = (h.0, all_both P xs ys h.1 g)

-- ---- what is kept is bounded

kept_bounded : (rs : List Record) (os : List Outcome) → AllByRecursion IsBounded os →
    AllByRecursion HasBound (kept_rows rs os)
kept_bounded [] os h = tt
kept_bounded (r ∷ rs) [] h = tt
kept_bounded (r ∷ rs) (o ∷ os) h = (h.0, kept_bounded rs os h.1)

pub years_bounded : (plans : List (Entry Accepted)) (ys : List Year) → AllByRecursion (IsYear plans) ys →
    AllByRecursion HasBound (rows_kept ys)
years_bounded plans [] h = tt
years_bounded plans (y ∷ ys) h =
    all_both HasBound (rows_kept_in y) (rows_kept ys) (kept_bounded y.records.items y.outcomes.items h.0.kept.bounded) (years_bounded plans ys h.1)

-- ---- different names

module _ {X : Type 0} (R : X → X → Type 0) where
  pairs_tail : (x : X) (xs : List X) → AllPairs R (x ∷ xs) → AllPairs R xs
  pairs_tail x xs h i j d l m = h (suc i) (suc j) d (omega arith) (omega arith)

  pairs_after : (xs ys : List X) → AllPairs R (xs ++ ys) → AllPairs R ys
  pairs_after [] ys h = h
  pairs_after (x ∷ xs) ys h = pairs_after xs ys (pairs_tail x (xs ++ ys) h)

  pairs_before : (xs ys : List X) → AllPairs R (xs ++ ys) → AllPairs R xs
  pairs_before xs ys h i j d l m =
      let both : R (get_or (xs ++ ys) i d) (get_or (xs ++ ys) j d) = h i j d l (omega (arith, length-append xs ys)) in
      subst (λ a. R a (get_or xs j d)) (get_or_append_left xs ys d i (omega arith))
      (subst (λ b. R (get_or (xs ++ ys) i d) b) (get_or_append_left xs ys d j m) both)

abbrev Differ : List ℕ → List ℕ → Type 0
Differ a b = a ≢ b

-- the names of outputs are the first of their declarations'
record AreFirst (ds : List Declaration) (vs : List Decimal) : Type 0 where
  rest : List (List ℕ)
  parts : names_of ds ≡ map name_of (named_values ds vs) ++ rest

first_names : (ds : List Declaration) (vs : List Decimal) → AreFirst ds vs
first_names [] vs = record { rest = []; parts = refl }
first_names (d ∷ ds) [] = record { rest = names_of (d ∷ ds); parts = refl }
first_names (d ∷ ds) (v ∷ vs) = let more = first_names ds vs in record { rest = more.rest; parts = ap (λ l. d.name ∷ l) more.parts }

values_named : (ds : List Declaration) (vs : List Decimal) → AreDistinct (names_of ds) → HaveNames (named_values ds vs)
values_named ds vs h =
    let first = first_names ds vs in
    pairs_before Differ (map name_of (named_values ds vs)) first.rest (subst AreDistinct first.parts h)

names_append : (front more : List Declaration) → names_of (front ++ more) ≡ names_of front ++ names_of more
names_append [] more = refl
names_append (d ∷ ds) more = ap (λ l. d.name ∷ l) (names_append ds more)

-- the outputs that a plan declares have different names
outputs_differ : (p : Accepted) → IsAcceptedPlan p → AreDistinct (names_of p.meaning.flowchart.outputs)
outputs_differ p h =
    let f = p.meaning.flowchart in
    let all = (has_types f h.bound.suited.named.file.ordered.typed.typed).names in
    let behind = pairs_after Differ (names_of f.inputs) (names_of (f.outputs ++ (f.internals ++ f.constants))) (subst AreDistinct (names_append f.inputs (f.outputs ++ (f.internals ++ f.constants))) all) in
    pairs_before Differ (names_of f.outputs) (names_of (f.internals ++ f.constants)) (subst AreDistinct (names_append f.outputs (f.internals ++ f.constants)) behind)

pub no_names : HaveNames []
no_names i j d l m = absurd (nothing j m)
  where
    nothing : (j : ℕ) → j < 0 → ⊥
    nothing j m = omega arith

run_named : (p : Accepted) (inputs : List Decimal) → IsAcceptedPlan p → HaveNames (run_outputs p inputs)
unfolding run_outputs
run_named p inputs h = by (outputs_of p.meaning.flowchart inputs)
  where
    by : (o : Option (List Decimal)) → HaveNames (option_map_or (named_values p.meaning.flowchart.outputs) o [])
    by None = no_names
    by (Some vs) = values_named p.meaning.flowchart.outputs vs (outputs_differ p h)

-- ---- each row

filled_named : (e : Entry Accepted) (d : Day) (f : Filled) → IsAcceptedPlan (plan_of e) →
    AreNamed (done_outputs (row_filled e d f).state)
filled_named e d (filling.Inputs inputs) h = run_named (plan_of e) inputs h
filled_named e d (filling.State why) h = tt

row_named : (o : Option (Entry Accepted)) (earlier : List Earlier) (r : Record) → HasPlan o →
    AreNamed (done_outputs (row_of o earlier r).state)
row_named None earlier r h = tt
row_named (Some e) earlier r h = filled_named e r.day (filled (plan_of e) r.values earlier) h

pub rows_named : (k : YearKey) (planned : Planned) → ((d : Day) → HasPlan (planned d)) →
    (earlier : List Earlier) (rs : List Record) →
    AllByRecursion HasNames (map (keyed_row k) (rows planned earlier rs))
rows_named k planned h earlier [] = tt
rows_named k planned h earlier (r ∷ rs) = (row_named (planned r.day) earlier r (h r.day), rows_named k planned h (next planned earlier r) rs)

all_named : (planned : Planned) → ((d : Day) → HasPlan (planned d)) → (years : List YearRuns) →
    AllByRecursion HasNames (flat_map (keyed_rows planned) years)
all_named planned h [] = tt
all_named planned h (y ∷ ys) = all_both HasNames (keyed_rows planned y) (flat_map (keyed_rows planned) ys) (rows_named y.key planned h [] y.runs) (all_named planned h ys)

pub picked_plan : (plans : List (Entry Accepted)) (d : Day) → AreEntries plans → AreAcceptedPlans plans → HasPlan (pick plans d)
picked_plan plans d entries all = by (pick plans d) (pick_latest plans d entries.rising)
  where
    by : (o : Option (Entry Accepted)) → IsLatest plans (λ a. serves a d) o → HasPlan o
    by None h = tt
    by (Some e) h =
        let place = h.0 in
        subst (λ x. IsAcceptedPlan (plan_of x)) place.2 (All-from_recursion (λ (x : Entry Accepted). IsAcceptedPlan (plan_of x)) plans all place.0 e place.1)

-- the outputs of each run of a book have different names
pub book_rows_named : (book : Contents) → IsBook book → AllByRecursion HasNames (month_rows book)
book_rows_named book h = all_named (pick book.plans) (λ d. picked_plan book.plans d h.entries h.plans) book.years
