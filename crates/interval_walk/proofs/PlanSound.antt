-- Where the walk of a plan passes, every list of admitted inputs is safe, and each output lies in its range.
use Rattle.std.proofs.Common.{◌≡◌, ℕ, zero, suc, ◌-◌, ◌^◌, ◌≤◌, ℤ, ◌≤ℤ◌, List, [], ◌∷◌, map, length, take, drop, Bool, true, false, not, ◌&&◌, if◌then◌else◌, Option, Some, None, Ok, Err, refl, subst, arith}
use Rattle.std.specs.Prelude.{nat_le, unsigned_abs}
use Rattle.std.specs.List.{find}
use Rattle.std.specs.Option.{option_map_or}
use Rattle.std.proofs.lemmas.Int.{ints}
use Rattle.std.proofs.lemmas.Bool.Decides.{nat_tests}
use Rattle.scaled_decimal.specs.Decimals.{Decimal, numerator_at}
use Rattle.scaled_decimal.proofs.Laws.{le_times}
use Rattle.interval_num.specs.Intervals.{Interval, Contains}
use Rattle.interval_num.specs.Alignment.{at_scale}
use Rattle.pap_types.specs.Scopes.{scope_of}
use Rattle.pap_tree.specs.Names.{main_name}
use Rattle.pap_types.specs.Values.{Env}
use Rattle.pap_types.specs.Limits.{longest_chain}
use Rattle.pap_types.specs.Meaning.{calls_in, start, outputs_in}
use Rattle.pap_types.proofs.Laws.{has_types}
use Rattle.interval_walk.specs.Ranges.{NamedRange, Ranges}
use Rattle.interval_walk.specs.Failures.{output_fails}
use Rattle.interval_walk.specs.Walked.{walked}
use Rattle.limits_file.specs.Limits.{output_places, output_limit, IsWithinBound}
use Rattle.interval_walk.specs.Analysis.{start_ranges, is_small, is_bounded, output_ranges, unless_unbounded, range_calls_in}
use Rattle.interval_walk.specs.Soundness.{AreWithin, AreOutputs, AnalysisIsSound}
use Rattle.interval_walk.proofs.RowShapes.{both_true, not_false}
use Rattle.interval_walk.proofs.NodeShapes.{stepped}
use Rattle.interval_walk.proofs.PlanLemmas.{sound_scope}
use Rattle.interval_walk.proofs.StartSound.{start_inside, start_variables, are_inputs}
use Rattle.interval_walk.proofs.WalkSound.{at_greater, body_sound, calls_hold}

-- ---- values by their place

abbrev AreInside : Ranges → List Decimal → Type 0
AreInside [] [] = Unit {0}
AreInside [] (d ∷ ds) = ⊥
AreInside (r ∷ rs) [] = ⊥
AreInside (r ∷ rs) (d ∷ ds) = Contains r.range d × AreInside rs ds

values_inside : (rs : Ranges) (env : Env) → AreWithin rs env → AreInside rs (map (λ v. v.value) env)
values_inside [] [] w = tt
values_inside [] (v ∷ vs) w = absurd w
values_inside (r ∷ rs) [] w = absurd w
values_inside (r ∷ rs) (v ∷ vs) w = (w.1, values_inside rs vs w.2)

drop_inside : (n : ℕ) (rs : Ranges) (ds : List Decimal) → AreInside rs ds → AreInside (drop n rs) (drop n ds)
drop_inside zero rs ds w = w
drop_inside (suc n) [] [] w = tt
drop_inside (suc n) [] (d ∷ ds) w = absurd w
drop_inside (suc n) (r ∷ rs) [] w = absurd w
drop_inside (suc n) (r ∷ rs) (d ∷ ds) w = drop_inside n rs ds w.1

take_inside : (n : ℕ) (rs : Ranges) (ds : List Decimal) → AreInside rs ds → AreInside (take n rs) (take n ds)
take_inside zero rs ds w = tt
take_inside (suc n) [] [] w = tt
take_inside (suc n) [] (d ∷ ds) w = absurd w
take_inside (suc n) (r ∷ rs) [] w = absurd w
take_inside (suc n) (r ∷ rs) (d ∷ ds) w = (w.0, take_inside n rs ds w.1)

-- ---- the bound of outputs

small_between : (l z h : ℤ) → is_small l ≡ true → is_small h ≡ true → l ≤ℤ z → z ≤ℤ h → unsigned_abs z ≤ output_limit
small_between l z h f g p q =
    let low : unsigned_abs l ≤ output_limit = grind (arith, nat_tests) in
    let high : unsigned_abs h ≤ output_limit = grind (arith, nat_tests) in
    between output_limit low high
  where
    between : (m : ℕ) → unsigned_abs l ≤ m → unsigned_abs h ≤ m → unsigned_abs z ≤ m
    between m a b = omega (arith, ints)

bounded : (a : Interval) (d : Decimal) → is_bounded a ≡ true → Contains a d → IsWithinBound d
bounded a d f h =
    let p = both_true (nat_le a.s_hi output_places) (is_small (at_scale output_places a).lo && is_small (at_scale output_places a).hi) f in
    let q = both_true (is_small (at_scale output_places a).lo) (is_small (at_scale output_places a).hi) p.1 in
    let few : a.s_hi ≤ output_places = (let t = p.0 in grind (arith, nat_tests)) in
    let same = at_greater d a.s_hi output_places h.greatest_scale few in
    let low = le_times a.lo (numerator_at a.s_hi d) (10 ^ (output_places - a.s_hi)) h.low in
    let high = le_times (numerator_at a.s_hi d) a.hi (10 ^ (output_places - a.s_hi)) h.high in
    record {
      places = omega (arith, h.greatest_scale);
      small = small_between (at_scale output_places a).lo (numerator_at output_places d) (at_scale output_places a).hi q.0 q.1
          (subst (λ z. (at_scale output_places a).lo ≤ℤ z) same low)
          (subst (λ z. z ≤ℤ (at_scale output_places a).hi) same high);
    }

-- ranges of which none fails
record AllPass (rs ranges : Ranges) : Type 0 where
  same : rs ≡ ranges
  none : find (λ o. not (is_bounded o.range)) rs ≡ None

all_pass : (rs ranges : Ranges) → unless_unbounded rs ≡ Ok ranges → AllPass rs ranges
all_pass rs ranges e = by_found (find (λ o. not (is_bounded o.range)) rs) refl e
  where
    by_found : (o : Option NamedRange) → find (λ o. not (is_bounded o.range)) rs ≡ o → option_map_or (λ o. Err (output_fails o.name o.range)) o (Ok rs) ≡ Ok ranges → AllPass rs ranges
    by_found (Some r) f g = absurd (cc)
    by_found None f g = let same : rs ≡ ranges = cc in record { same = same; none = f }

outputs_hold : (rs : Ranges) (ds : List Decimal) → find (λ o. not (is_bounded o.range)) rs ≡ None → AreInside rs ds → AreOutputs rs ds
outputs_hold [] [] f w = tt
outputs_hold [] (d ∷ ds) f w = absurd w
outputs_hold (r ∷ rs) [] f w = absurd w
outputs_hold (r ∷ rs) (d ∷ ds) f w = by_test (not (is_bounded r.range)) refl f (outputs_hold rs ds)
  where
    by_test : (t : Bool) → not (is_bounded r.range) ≡ t → (if t then Some r else find (λ o. not (is_bounded o.range)) rs) ≡ None → (find (λ o. not (is_bounded o.range)) rs ≡ None → AreInside rs ds → AreOutputs rs ds) → AreOutputs (r ∷ rs) (d ∷ ds)
    by_test true g h later = absurd (cc)
    by_test false g h later = (record { inside = w.0; bound = bounded r.range d (not_false _ g) w.0 }, later h w.1)

-- ---- the whole

pub analysis_sound : AnalysisIsSound
analysis_sound f limits ranges typed counts have e inputs admitted =
    let types = has_types f typed in
    let scope = scope_of f in
    let ok = sound_scope f types in
    let calls = calls_hold scope ok f.methods types.methods counts.terms longest_chain in
    let ends = stepped (walked scope (range_calls_in f) main_name 0 f.main (start_ranges f limits)) (λ ends. unless_unbounded (output_ranges f ends)) ranges e in
    let h = body_sound scope ok f.methods (calls_in f) (range_calls_in f) calls main_name f.main 0 (start_ranges f limits) ends.0 (start f inputs) (start_inside f limits inputs have admitted) (start_variables f limits inputs admitted) types.main counts.main_terms ends.1 in
    let pass = all_pass (output_ranges f ends.0) ranges ends.2 in
    let inside = take_inside (length f.outputs) _ _ (drop_inside (length f.inputs) ends.0 (map (λ v. v.value) h.ends) (values_inside ends.0 h.ends h.inside)) in
    let outputs = outputs_hold (output_ranges f ends.0) (outputs_in f h.ends) pass.none inside in
    record {
      safe = record { given = are_inputs limits f.inputs inputs have admitted; ends = h.ends; defined = h.is; safe = h.safe };
      outputs = subst (λ rs. AreOutputs rs (outputs_in f h.ends)) pass.same outputs;
    }
