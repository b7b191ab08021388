-- No range of a variable gets empty in the walk.
use Rattle.std.proofs.Common.{◌≡◌, ℕ, ◌-◌, ◌^◌, ◌≤◌, List, [], ◌∷◌, ◌++◌, map, Bool, true, false, if◌then◌else◌, Option, Some, None, Ok, refl, sym, subst, arith}
use Rattle.std.specs.Prelude.{All, IfSome}
use Rattle.std.specs.Option.{option_map_or}
use Rattle.std.specs.Str.{bytes_eq}
use Rattle.std.proofs.lemmas.Int.{ints}
use Rattle.std.proofs.lemmas.List.Elements.{All-nil, All-cons, All-head, All-tail}
use Rattle.scaled_decimal.specs.Decimals.{Decimal, decimal, scale_of}
use Rattle.scaled_decimal.proofs.Laws.{le_times}
use Rattle.pap_tree.specs.declared.declaration.Kind.{Kind}
use Rattle.pap_tree.specs.declared.declaration.Kind.TheVariants as declares
use Rattle.pap_tree.specs.Term.{Term}
use Rattle.pap_tree.specs.Scales.{KeepsScales}
use Rattle.pap_tree.specs.Declarations.{Declaration}
use Rattle.pap_tree.specs.Flowchart.{Body, Flowchart}
use Rattle.interval_num.specs.Intervals.{Interval, Contains}
use Rattle.interval_num.specs.Rows.{join_row}
use Rattle.interval_num.proofs.Laws.{join_sound}
use Rattle.limits_file.specs.declared.limits.InputLimit.{InputLimit}
use Rattle.limits_file.specs.declared.limits.Limits.{Limits}
use Rattle.limits_file.specs.Limits.{HasSoundBounds}
use Rattle.pap_types.specs.Scopes.{Scope, scope_of, declared_as, first_value, factor_places}
use Rattle.pap_types.specs.Typing.{IsTypedTerm, IsTypedBody, HasTypes, TargetSuits}
use Rattle.pap_types.specs.Counts.{AreSmallTerms, IsWithinCounts}
use Rattle.pap_types.specs.Limits.{longest_chain}
use Rattle.pap_types.specs.Values.{Env}
use Rattle.pap_types.proofs.Laws.{has_types}
use Rattle.interval_walk.specs.Ranges.{NamedRange, Ranges, names_in, range_named, put_range, single}
use Rattle.interval_walk.specs.Ranged.{ranged}
use Rattle.interval_walk.specs.Walked.{range_kept_as, assigned_range, walked, range_calls_of}
use Rattle.interval_walk.specs.Admission.{SuitsLimit, HasLimit}
use Rattle.interval_walk.specs.Analysis.{limit_range, input_range, first_range}
use Rattle.interval_walk.specs.private.Soundness.{AreVariables}
use Rattle.interval_walk.specs.Soundness.{IsFilled, AreFilled, NoRangeGetsEmpty}
use Rattle.interval_walk.proofs.RowLaws.{low_inside}
use Rattle.interval_walk.proofs.ScopeLemmas.{IsSoundScope}
use Rattle.interval_walk.proofs.PlanLemmas.{sound_scope}
use Rattle.interval_walk.proofs.EnvLemmas.{look_none}
use Rattle.interval_walk.proofs.NameLemmas.{StayNamed, tested_named, no_range, undeclared}
use Rattle.interval_walk.proofs.TermSound.{term_sound}
use Rattle.interval_walk.proofs.StartSound.{at_most}
use Rattle.interval_walk.proofs.KeptWalk.{IsInside, KeptIf, tested_kept, walked_kept, calls_kept}
use Rattle.interval_walk.proofs.ReachedSound.{lows, lows_inside}
use Rattle.interval_walk.proofs.ReadSound.{start_names}

-- ---- ranges

-- what holds a decimal isn't empty
filled_by : (a : Interval) (d : Decimal) → Contains a d → IsFilled a
filled_by a d c =
    let l = c.low in
    let h = c.high in
    let s = c.least_scale in
    let t = c.greatest_scale in
    record { order = omega (arith, ints); scales = omega arith }

-- nor is what is kept of it
kept_filled : (k : Kind) (a : Interval) → IsFilled a → IsFilled (range_kept_as k a)
kept_filled declares.Int a h = h
kept_filled declares.Long a h = h
kept_filled declares.Big a h = h
kept_filled declares.Factor a h = record { order = le_times a.lo a.hi (10 ^ (factor_places - a.s_hi)) h.order; scales = omega arith }
kept_filled declares.Table a h = h

single_filled : (d : Decimal) → IsFilled (single d)
single_filled d = record { order = omega (arith, ints); scales = omega arith }

put_filled : (rs : Ranges) (x : List ℕ) (a : Interval) → All (λ v. IsFilled v.range) rs → IsFilled a → All (λ v. IsFilled v.range) (put_range rs x a)
put_filled [] x a h s = h
put_filled (r ∷ rs) x a h s = by_test (bytes_eq r.name x) (put_filled rs x a (All-tail (λ v. IsFilled v.range) r rs h) s)
  where
    by_test : (t : Bool) → All (λ v. IsFilled v.range) (put_range rs x a) → All (λ v. IsFilled v.range) (if t then record r { range = a } ∷ rs else r ∷ put_range rs x a)
    by_test true later = All-cons (λ v. IsFilled v.range) (record r { range = a }) rs s (All-tail (λ v. IsFilled v.range) r rs h)
    by_test false later = All-cons (λ v. IsFilled v.range) r (put_range rs x a) (All-head (λ v. IsFilled v.range) r rs h) later

abbrev IsOpen : NamedRange → Type 0
IsOpen v = IsFilled v.range

narrows : (v : NamedRange) (a : Interval) → IsInside v.range a → IsOpen v → IsOpen (record v { range = a })
narrows v a i h =
    let s = h.scales in
    record { order = i.order; scales = subst (λ n. n ≤ a.s_hi) (sym i.least_scale) (subst (λ n. v.range.s_lo ≤ n) (sym i.greatest_scale) s) }

joins : (v w : NamedRange) (a : Interval) → v.name ≡ w.name → IsOpen v → IsOpen w → join_row v.range w.range ≡ Ok a → IsOpen (record v { range = a })
joins v w a n hv hw e =
    let d = decimal v.range.lo v.range.s_hi in
    filled_by a d ((join_sound v.range w.range a e).left d (low_inside v.range hv.order hv.scales))

-- ---- the walk

module _ (scope : Scope) (ok : IsSoundScope scope) (names : List (List ℕ)) (only : (rs : Ranges) (x : List ℕ) → names_in rs ≡ names → declared_as scope.variables x ≡ None → range_named rs x ≡ None) where
  -- an expression has a value where each variable is at its low end
  ranged_filled : (t : Term) (at : ℕ) (rs : Ranges) (a : Interval) → IsTypedTerm scope t → KeepsScales t → names_in rs ≡ names → All IsOpen rs → ranged scope t at rs ≡ Ok a → IsFilled a
  ranged_filled t at rs a typed keeps n h e =
      let env : Env = lows rs in
      let within = lows_inside rs h in
      let variables : AreVariables scope env = (λ x none. look_none rs env x within (only rs x n none)) in
      let v = term_sound scope ok env variables t at rs a within typed keeps e in
      filled_by a v.gives v.inside

  assigns : (x : List ℕ) (e : Term) (rs : Ranges) (a : Interval) → IsTypedTerm scope e → TargetSuits scope x e → KeepsScales e → names_in rs ≡ names → All IsOpen rs → ranged scope e 0 rs ≡ Ok a → All IsOpen (assigned_range scope x a rs)
  assigns x e rs a typed target keeps n h given =
      let d = target.declaration in
      let kept = kept_filled d.kind a (ranged_filled e 0 rs a typed keeps n h given) in
      put_filled rs x _ h (subst (λ o. IsFilled (option_map_or (λ d. range_kept_as d.kind a) o a)) (sym target.declared) kept)

-- ---- the start

limit_filled : (k : Kind) (l : InputLimit) → HasSoundBounds l → SuitsLimit k l → IsFilled (limit_range k l)
limit_filled declares.Int l s t = record { order = at_most l.low l.high l.places s.low_places s.high_places s.ordered; scales = omega arith }
limit_filled declares.Long l s t = record { order = at_most l.low l.high l.places s.low_places s.high_places s.ordered; scales = omega arith }
limit_filled declares.Big l s t = record { order = at_most l.low l.high l.places s.low_places s.high_places s.ordered; scales = omega arith }
limit_filled declares.Table l s t = record { order = at_most l.low l.high l.places s.low_places s.high_places s.ordered; scales = omega arith }
limit_filled declares.Factor l s t =
    let few = t.places in
    let low : scale_of l.low ≤ factor_places = omega (arith, s.low_places) in
    let high : scale_of l.high ≤ factor_places = omega (arith, s.high_places) in
    record { order = at_most l.low l.high factor_places low high s.ordered; scales = omega arith }

input_filled : (limits : Limits) (d : Declaration) → HasLimit limits d → IsFilled (input_range limits d).range
input_filled limits d h =
    subst (λ o. IsFilled (option_map_or (limit_range d.kind) o (single (first_value d)))) (sym h.is) (limit_filled d.kind h.limit h.sound h.suits)

firsts_filled : (es : List Declaration) → All IsOpen (map first_range es)
firsts_filled [] = All-nil IsOpen
firsts_filled (e ∷ es) = All-cons IsOpen (first_range e) (map first_range es) (single_filled (first_value e)) (firsts_filled es)

start_filled : (limits : Limits) (ds es : List Declaration) → All (HasLimit limits) ds → All IsOpen (map (input_range limits) ds ++ map first_range es)
start_filled limits [] es h = firsts_filled es
start_filled limits (d ∷ ds) es h =
    All-cons IsOpen (input_range limits d) _ (input_filled limits d (All-head (HasLimit limits) d ds h)) (start_filled limits ds es (All-tail (HasLimit limits) d ds h))

-- ---- the law

-- the walk of statements leaves none empty
pub filled_after : (f : Flowchart) → HasTypes f → IsWithinCounts f → (n : ℕ) (name : List ℕ) (b : Body) (at : ℕ) (rs ends : Ranges) → IsTypedBody (scope_of f) f.methods b → AreSmallTerms b → AreFilled (scope_of f) rs → walked (scope_of f) (range_calls_of (scope_of f) f.methods n) name at b rs ≡ Ok ends → AreFilled (scope_of f) ends
filled_after f types counts n name b at rs ends tb sb h e =
    let scope = scope_of f in
    let only = λ (s : Ranges) (x : List ℕ) (m : names_in s ≡ names_in rs) (u : declared_as scope.variables x ≡ None). no_range s rs x m (h.variables x u) in
    let assigned = assigns scope (sound_scope f types) (names_in rs) only in
    let calls = calls_kept scope IsOpen narrows (names_in rs) joins assigned f.methods types.methods counts.terms n in
    let k = walked_kept scope IsOpen narrows (names_in rs) joins assigned f.methods (range_calls_of scope f.methods n) name calls b at rs ends tb sb (record { named = refl; ranges = h.ranges }) e in
    record { ranges = k.ranges; variables = λ x u. only ends x k.named u }

if_filled : (scope : Scope) (rs : Ranges) (o : Option Ranges) → AreFilled scope rs → StayNamed rs o → KeptIf IsOpen o → IfSome o (AreFilled scope)
if_filled scope rs None h n k = tt
if_filled scope rs (Some s) h n k = record { ranges = k s refl; variables = λ x u. no_range s rs x (n s refl) (h.variables x u) }

pub none_empty : NoRangeGetsEmpty
none_empty f typed counts =
    let types = has_types f typed in
    let scope = scope_of f in
    record {
      start = λ limits have. record {
        ranges = start_filled limits f.inputs (f.outputs ++ f.internals) have;
        variables = λ x u. undeclared _ scope.variables x (start_names limits f.inputs (f.outputs ++ f.internals)) u;
      };
      test = λ t at rs br h e. (
          let n = tested_named scope t at rs br e in
          let k = tested_kept scope IsOpen narrows t at rs br h.ranges e in
          record { holds = if_filled scope rs br.holds h n.holds k.holds; fails = if_filled scope rs br.fails h n.fails k.fails });
      walk = λ b name at rs ends tb sb h e. filled_after f types counts longest_chain name b at rs ends tb sb h e;
    }
