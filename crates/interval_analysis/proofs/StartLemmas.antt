-- The ranges with which the walk begins, one after the other.
use Rattle.std.proofs.Common.{◌≡◌, ℕ, zero, suc, ◌+◌, ◌<◌, ◌≤◌, true, ℤ, ◌≤ℤ◌, List, [], ◌∷◌, ◌++◌, length, take, get_or, map, refl, sym, ap, ◌∙◌, subst, arith, append_assoc}
use Rattle.std.proofs.Common.{to_z, of_z}
use Rattle.std.specs.Prelude.{All, unsigned_abs, nat_le}
use Rattle.std.specs.Int.{w128}
use Rattle.std.proofs.lemmas.List.{length-map, map-append, take_more}
use Rattle.std.proofs.lemmas.List.Elements.{All-head, All-tail}
use Rattle.std.proofs.lemmas.Bool.Decides.{nat_tests}
use Rattle.scaled_decimal.specs.Decimals.{Decimal, scale_of, numerator_of, numerator_at}
use Rattle.scaled_decimal.specs.Limits.{limit, IsWithinLimit}
use Rattle.pap_tree.specs.declared.declaration.Declared.{Declared}
use Rattle.pap_tree.specs.declared.plan.PlanText.{PlanText}
use Rattle.pap_tree.specs.Declarations.{Declaration, declaration_of}
use Rattle.pap_tree.specs.Flowchart.{flowchart_of}
use Rattle.limits_file.specs.declared.limits.InputLimit.{InputLimit}
use Rattle.limits_file.specs.declared.limits.Limits.{Limits}
use Rattle.limits_file.specs.Limits.{HasSoundBounds, IsFactorLimit}
use Rattle.interval_num.specs.Intervals.{Interval}
use Rattle.pap_types.specs.Kinds.{has_few_places}
use Rattle.pap_types.specs.Scopes.{names_of, at_factor_scale}
use Rattle.interval_walk.specs.Analysis.{input_range, first_range}
use Rattle.interval_walk.proofs.Laws.{at_most}
use Rattle.interval_analysis.specs.private.PlanViews.{with_names}
use Rattle.interval_analysis.specs.private.StartViews.{CanSpan, IsStart, declarations, limited, begun}
use Rattle.interval_analysis.proofs.KeptLemmas.{both, held_is}

-- ---- a limit's bounds

pub spans_plain : (l : InputLimit) → HasSoundBounds l → CanSpan l 0 l.places
spans_plain l s = record {
  scales = omega arith;
  places = s.places;
  low_places = s.low_places;
  high_places = s.high_places;
  low = s.low_kept;
  high = s.high_kept;
  order = at_most l.low l.high l.places s.low_places s.high_places s.ordered;
}

few_kept : (d : Decimal) → has_few_places d ≡ true → IsWithinLimit (numerator_at 3 d)
few_kept d e =
    let p = both (nat_le (scale_of d) 3) (nat_le (unsigned_abs (numerator_of (at_factor_scale d))) limit) e in
    grind (arith, nat_tests, p.1)

pub spans_factor : (l : InputLimit) → HasSoundBounds l → IsFactorLimit l → CanSpan l 3 3
spans_factor l s f =
    let low : scale_of l.low ≤ 3 = omega (arith, s.low_places, f.places) in
    let high : scale_of l.high ≤ 3 = omega (arith, s.high_places, f.places) in
    record {
      scales = omega arith;
      places = omega arith;
      low_places = low;
      high_places = high;
      low = few_kept l.low f.low;
      high = few_kept l.high f.high;
      order = at_most l.low l.high 3 low high s.ordered;
    }

held_same : (x m : ℤ) → x ≡ m → IsWithinLimit m → to_z w128 (of_z w128 x) ≡ m
held_same x m e h = ap (λ z. to_z w128 (of_z w128 z)) e ∙ held_is m h

pub held_le : (x y m n : ℤ) → x ≡ m → y ≡ n → IsWithinLimit m → IsWithinLimit n → m ≤ℤ n → to_z w128 (of_z w128 x) ≤ℤ to_z w128 (of_z w128 y)
held_le x y m n e f hm hn l = rw (held_same x m e hm, held_same y n f hn) l

-- ---- declarations one after the other

pub declared_there : (P : Declaration → Type 0) (ds : List Declared) (i : ℕ) (d : Declared) → d ≡ get_or ds i d → i < length ds → All P (declarations ds) → P (declaration_of d)
declared_there P [] i d is l all = absurd (omega arith)
declared_there P (x ∷ ds) zero d is l all = subst (λ y. P (declaration_of y)) (sym is) (All-head P (declaration_of x) (declarations ds) all)
declared_there P (x ∷ ds) (suc i) d is l all = declared_there P ds i d is (omega arith) (All-tail P (declaration_of x) (declarations ds) all)

pub one_more : (g : Declaration → Interval) (old now next : List Interval) (ds : List Declared) (i : ℕ) (d : Declared) → d ≡ get_or ds i d → i < length ds → now ≡ old ++ map g (declarations (take i ds)) → next ≡ now ++ (g (declaration_of d) ∷ []) → next ≡ old ++ map g (declarations (take (i + 1) ds))
one_more g old now next ds i d is l before more =
    let front = map g (declarations (take i ds)) in
    let mine = g (declaration_of d) ∷ [] in
    let h : Declared → Interval = λ x. g (declaration_of x) in
    let taken : declarations (take (i + 1) ds) ≡ declarations (take i ds) ++ (declaration_of d ∷ []) =
    ap declarations (take_more ds i d l)
    ∙ map-append declaration_of (take i ds) (get_or ds i d ∷ [])
    ∙ ap (λ x. declarations (take i ds) ++ (declaration_of x ∷ [])) (sym is) in
    more
    ∙ ap (λ xs. xs ++ mine) before
    ∙ append_assoc old front mine
    ∙ ap (λ xs. old ++ xs) (sym (map-append g (declarations (take i ds)) (declaration_of d ∷ [])) ∙ sym (ap (map g) taken))

-- ---- the whole

begun_named : (es : List Declaration) → with_names (names_of es) (begun es) ≡ map first_range es
begun_named [] = refl
begun_named (d ∷ es) = ap (λ vs. first_range d ∷ vs) (begun_named es)

named : (limits : Limits) (ds es : List Declaration) → with_names (names_of (ds ++ es)) (limited limits ds ++ begun es) ≡ map (input_range limits) ds ++ map first_range es
named limits [] es = begun_named es
named limits (d ∷ ds) es = ap (λ vs. input_range limits d ∷ vs) (named limits ds es)

sized : (limits : Limits) (ds es : List Declaration) → length (limited limits ds ++ begun es) ≡ length (names_of (ds ++ es))
sized limits [] es = length-map es (λ d. (first_range d).range) ∙ sym (length-map es (λ d. d.name))
sized limits (d ∷ ds) es = ap suc (sized limits ds es)

pub is_start : (p : PlanText) (limits : Limits) (rs : List Interval) → rs ≡ [] ++ limited limits (flowchart_of p).inputs ++ begun (flowchart_of p).outputs ++ begun (flowchart_of p).internals → IsStart p limits rs
is_start p limits rs is =
    let f = flowchart_of p in
    let others = f.outputs ++ f.internals in
    let same : rs ≡ limited limits f.inputs ++ begun others =
    is
    ∙ append_assoc (limited limits f.inputs) (begun f.outputs) (begun f.internals)
    ∙ ap (λ xs. limited limits f.inputs ++ xs) (sym (map-append (λ d. (first_range d).range) f.outputs f.internals)) in
    record {
      sized = ap length same ∙ sized limits f.inputs others;
      ranges = ap (with_names (names_of (f.inputs ++ others))) same ∙ named limits f.inputs others;
    }
