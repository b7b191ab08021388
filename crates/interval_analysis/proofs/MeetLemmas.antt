-- Where two branches meet only what is noted is joined.
use Rattle.std.proofs.Common.{◌≡◌, ℕ, zero, suc, ◌+◌, ◌-◌, ◌<◌, ◌≤◌, ℤ, ◌*ℤ◌, ◌≤ℤ◌, Bool, true, false, List, [], ◌∷◌, length, drop, set, get_or, Some, Result, Ok, Err, refl, sym, ap, ◌∙◌, subst, arith, add-one}
use Rattle.std.proofs.lemmas.Bool.Decides.{nat_tests}
use Rattle.std.proofs.lemmas.Int.{ints, clamps}
use Rattle.std.proofs.lemmas.List.{set_past}
use Rattle.std.specs.Prelude.{slice_get, ◌||◌, ◌&&◌, min, nat_eq, nat_le, int_le}
use Rattle.std.specs.Int.{int_min, int_max}
use Rattle.scaled_decimal.specs.Decimals.{ten_to}
use Rattle.scaled_decimal.specs.Limits.{IsWithinLimit}
use Rattle.interval_num.specs.declared.cause.RangeCause.{RangeCause}
use Rattle.interval_num.specs.declared.cause.RangeCause.TheVariants.{Wide}
use Rattle.interval_num.specs.Intervals.{Interval, HasKeptEnds, IsKeptInterval, interval}
use Rattle.interval_num.specs.Alignment.{unless, is_beyond, ends_beyond, at_scale, greater_scale}
use Rattle.interval_num.specs.Rows.{join_of, join_row}
use Rattle.interval_walk.specs.Failures.{and_then}
use Rattle.interval_walk.specs.Ranges.{Ranges}
use Rattle.interval_walk.specs.Walked.{joined}
use Rattle.interval_walk.proofs.Laws.{join_same}
use Rattle.interval_analysis.specs.private.PlanViews.{with_names}
use Rattle.interval_analysis.specs.declared.branches.Change.{Change}
use Rattle.interval_analysis.specs.private.Changes.{AreKept}
use Rattle.interval_analysis.specs.private.Notes.{AreDistinct, IsOther, taken_back}
use Rattle.interval_analysis.specs.private.Meetings.{is_around}
use Rattle.interval_analysis.specs.private.StatementViews.{joined_lists}
use Rattle.interval_analysis.proofs.ChangeLemmas.{set_there}
use Rattle.interval_analysis.proofs.NoteLemmas.{within_of, length-taken_back}
use Rattle.interval_analysis.proofs.RepeatLemmas.{other_stays}

-- ranges joined by number, and by name
pub joined_by_name : (names : List (List ℕ)) (rs ss : List Interval) → length rs ≡ length names → length ss ≡ length names → joined (with_names names rs) (with_names names ss) ≡ and_then (joined_lists rs ss) (λ ts. Ok (with_names names ts))
joined_by_name [] [] ss e f = refl
joined_by_name [] (r ∷ rs) ss e f = absurd (omega arith)
joined_by_name (n ∷ names) [] ss e f = absurd (omega arith)
joined_by_name (n ∷ names) (r ∷ rs) [] e f = absurd (omega arith)
joined_by_name (n ∷ names) (r ∷ rs) (s ∷ ss) e f = by_first (join_row r s) (joined_lists rs ss) (joined_by_name names rs ss (omega arith) (omega arith))
  where
    by_rest : (a : Interval) (q : Result Ranges RangeCause) (o : Result (List Interval) RangeCause) → q ≡ and_then o (λ ts. Ok (with_names names ts)) → and_then q (λ vs. Ok (record { name = n; range = a } ∷ vs)) ≡ and_then (and_then o (λ ts. Ok (a ∷ ts))) (λ ts. Ok (with_names (n ∷ names) ts))
    by_rest a q (Ok ts) g = ap (λ q. and_then q (λ vs. Ok (record { name = n; range = a } ∷ vs))) g
    by_rest a q (Err c) g = ap (λ q. and_then q (λ vs. Ok (record { name = n; range = a } ∷ vs))) g

    by_first : (j : Result Interval RangeCause) (o : Result (List Interval) RangeCause) → joined (with_names names rs) (with_names names ss) ≡ and_then o (λ ts. Ok (with_names names ts)) → and_then j (λ a. and_then (joined (with_names names rs) (with_names names ss)) (λ vs. Ok (record { name = n; range = a } ∷ vs))) ≡ and_then (and_then j (λ a. and_then o (λ ts. Ok (a ∷ ts)))) (λ ts. Ok (with_names (n ∷ names) ts))
    by_first (Ok a) o g = by_rest a (joined (with_names names rs) (with_names names ss)) o g
    by_first (Err c) o g = refl

-- ranges joined with themselves stay
pub joined_same : (rs : List Interval) → AreKept rs → joined_lists rs rs ≡ Ok rs
joined_same [] h = refl
joined_same (r ∷ rs) h =
    ap (λ j. and_then j (λ a. and_then (joined_lists rs rs) (λ rest. Ok (a ∷ rest)))) (join_same r h.0)
    ∙ ap (λ o. and_then o (λ rest. Ok (r ∷ rest))) (joined_same rs h.1)

-- ---- no join

-- a join fails for one cause alone
wide : (a b : Interval) (c : RangeCause) → join_row a b ≡ Err c → c ≡ Wide
wide a b c h =
    let x = at_scale (greater_scale a b) a in
    let y = at_scale (greater_scale a b) b in
    by (ends_beyond x || ends_beyond y) (interval (int_min x.lo y.lo) (int_max x.hi y.hi) (min x.s_lo y.s_lo) x.s_hi) h
  where
    by : (t : Bool) (i : Interval) → unless t Wide (Ok i) ≡ Err c → c ≡ Wide
    by true i h = cc
    by false i h = absurd (cc)

pub at_place : (rs ss : List Interval) (n : ℕ) (a b : Interval) (c : RangeCause) → slice_get rs n ≡ Some a → slice_get ss n ≡ Some b → join_row a b ≡ Err c → joined_lists rs ss ≡ Err c
at_place [] ss n a b c h k f = absurd (cc)
at_place (r ∷ rs) [] n a b c h k f = absurd (cc)
at_place (r ∷ rs) (s ∷ ss) zero a b c h k f =
    let left : r ≡ a = cc in
    let right : s ≡ b = cc in
    ap (λ x. joined_lists (x ∷ rs) (s ∷ ss)) left
    ∙ ap (λ y. joined_lists (a ∷ rs) (y ∷ ss)) right
    ∙ ap (λ j. and_then j (λ a. and_then (joined_lists rs ss) (λ rest. Ok (a ∷ rest)))) f
at_place (r ∷ rs) (s ∷ ss) (suc n) a b c h k f = by (at_place rs ss n a b c h k f) (join_row r s) refl
  where
    by : joined_lists rs ss ≡ Err c → (j : Result Interval RangeCause) → join_row r s ≡ j → and_then j (λ a. and_then (joined_lists rs ss) (λ rest. Ok (a ∷ rest))) ≡ Err c
    by on (Ok x) e = ap (λ o. and_then o (λ rest. Ok (x ∷ rest))) on
    by on (Err d) e = ap Err (wide r s d e ∙ sym (wide a b c f))

-- ---- turns of the loop that joins

-- a range that is joined with another may stand for both
joined_once : (rs ss : List Interval) (n : ℕ) (r s j : Interval) → slice_get rs n ≡ Some r → join_row r s ≡ Ok j → join_row j j ≡ Ok j → joined_lists rs (set ss n s) ≡ joined_lists (set rs n j) (set ss n j)
joined_once [] ss n r s j h e f = absurd (cc)
joined_once (a ∷ rs) [] zero r s j h e f = refl
joined_once (a ∷ rs) [] (suc n) r s j h e f = refl
joined_once (a ∷ rs) (b ∷ ss) zero r s j h e f =
    let same : a ≡ r = cc in
    ap (λ x. joined_lists (x ∷ rs) (s ∷ ss)) same
    ∙ ap (λ q. and_then q (λ x. and_then (joined_lists rs ss) (λ rest. Ok (x ∷ rest)))) (e ∙ sym f)
joined_once (a ∷ rs) (b ∷ ss) (suc n) r s j h e f =
    ap (λ q. and_then (join_row a b) (λ x. and_then q (λ rest. Ok (x ∷ rest)))) (joined_once rs ss n r s j h e f)

-- the first note of some is joined, and the others are of other variables
pub join_step : (rs : List Interval) (c : Change) (cs : List Change) (r j : Interval) → slice_get rs c.number ≡ Some r → join_row r c.range ≡ Ok j → IsKeptInterval j → IsOther c.number cs
    → joined_lists (set rs c.number j) (taken_back (set rs c.number j) cs) ≡ joined_lists rs (taken_back rs (c ∷ cs))
join_step rs c cs r j h e k other =
    ap (joined_lists (set rs c.number j)) (other_stays rs cs c.number j other)
    ∙ sym (joined_once rs (taken_back rs cs) c.number r c.range j h e (join_same j k))

-- it is of no variable
pub join_past : (rs : List Interval) (c : Change) (cs : List Change) → length rs ≤ c.number → joined_lists rs (taken_back rs cs) ≡ joined_lists rs (taken_back rs (c ∷ cs))
join_past rs c cs past =
    let long = length-taken_back rs cs in
    ap (joined_lists rs) (sym (set_past (taken_back rs cs) c.number c.range (omega (arith, past, long))))

-- it has no join
pub join_fails : (rs : List Interval) (c : Change) (cs : List Change) (r : Interval) (cause : RangeCause) → slice_get rs c.number ≡ Some r → join_row r c.range ≡ Err cause → joined_lists rs (taken_back rs (c ∷ cs)) ≡ Err cause
join_fails rs c cs r cause h e =
    let long = length-taken_back rs cs in
    let within = within_of rs c.number r h in
    at_place rs (taken_back rs (c ∷ cs)) c.number r c.range cause h (set_there (taken_back rs cs) c.number c.range (omega (arith, within, long))) e

-- behind the last note all is joined
pub joined_behind : (rs : List Interval) (cs : List Change) (i : ℕ) → AreKept rs → length cs ≤ i → joined_lists rs (taken_back rs (drop i cs)) ≡ Ok rs
joined_behind rs cs i kept past = ap (λ l. joined_lists rs (taken_back rs l)) (none cs i past) ∙ joined_same rs kept
  where
    none : (cs : List Change) (i : ℕ) → length cs ≤ i → drop i cs ≡ []
    none [] zero h = refl
    none [] (suc i) h = refl
    none (c ∷ cs) zero h = absurd (omega (arith, h))
    none (c ∷ cs) (suc i) h = none cs i (omega (arith, h))

-- the notes behind one of distinct ones are of other variables
pub distinct_rest : (cs : List Change) (i : ℕ) (c : Change) → AreDistinct cs → i < length cs → c ≡ get_or cs i c → IsOther c.number (drop (i + 1) cs)
distinct_rest [] i c h l is = absurd (omega (arith, l))
distinct_rest (d ∷ cs) zero c h l is = subst (λ x. IsOther x.number cs) (sym is) h.0
distinct_rest (d ∷ cs) (suc i) c h l is = rw add-one (subst (IsOther c.number) (ap (λ k. drop k cs) (add-one i)) (distinct_rest cs i c h.1 (omega (arith, l)) is))

-- ---- either list may come first

join_either : (a b : Interval) → join_row a b ≡ join_row b a
join_either a b = either (greater_scale a b) (greater_scale b a) (omega arith)
  where
    met : (x y : Interval) → x.s_hi ≡ y.s_hi → join_of x y ≡ join_of y x
    met x y e =
        let low : int_min x.lo y.lo ≡ int_min y.lo x.lo = omega (arith, ints, clamps) in
        let high : int_max x.hi y.hi ≡ int_max y.hi x.hi = omega (arith, ints, clamps) in
        let scale : min x.s_lo y.s_lo ≡ min y.s_lo x.s_lo = omega arith in
        ap (λ l. Ok (interval l (int_max x.hi y.hi) (min x.s_lo y.s_lo) x.s_hi)) low
        ∙ ap (λ h. Ok (interval (int_min y.lo x.lo) h (min x.s_lo y.s_lo) x.s_hi)) high
        ∙ ap (λ s. Ok (interval (int_min y.lo x.lo) (int_max y.hi x.hi) s x.s_hi)) scale
        ∙ ap (λ s. Ok (interval (int_min y.lo x.lo) (int_max y.hi x.hi) (min y.s_lo x.s_lo) s)) e

    or_either : (s t : Bool) → (s || t) ≡ (t || s)
    or_either true true = refl
    or_either true false = refl
    or_either false true = refl
    or_either false false = refl

    either : (g h : ℕ) → g ≡ h
        → unless (ends_beyond (at_scale g a) || ends_beyond (at_scale g b)) Wide (join_of (at_scale g a) (at_scale g b)) ≡ unless (ends_beyond (at_scale h b) || ends_beyond (at_scale h a)) Wide (join_of (at_scale h b) (at_scale h a))
    either g h same =
        ap (λ t. unless t Wide (join_of (at_scale g a) (at_scale g b))) (or_either (ends_beyond (at_scale g a)) (ends_beyond (at_scale g b)))
        ∙ ap (λ r. unless (ends_beyond (at_scale g b) || ends_beyond (at_scale g a)) Wide r) (met (at_scale g a) (at_scale g b) refl)
        ∙ ap (λ k. unless (ends_beyond (at_scale k b) || ends_beyond (at_scale k a)) Wide (join_of (at_scale k b) (at_scale k a))) same

pub joined_either : (rs ss : List Interval) → length rs ≡ length ss → joined_lists rs ss ≡ joined_lists ss rs
joined_either [] [] e = refl
joined_either [] (s ∷ ss) e = absurd (omega (arith, e))
joined_either (r ∷ rs) [] e = absurd (omega (arith, e))
joined_either (r ∷ rs) (s ∷ ss) e =
    ap (λ q. and_then q (λ a. and_then (joined_lists rs ss) (λ rest. Ok (a ∷ rest)))) (join_either r s)
    ∙ ap (λ q. and_then (join_row s r) (λ a. and_then q (λ rest. Ok (a ∷ rest)))) (joined_either rs ss (omega (arith, e)))

-- ---- a range that contains another

within_in : (n : ℤ) → IsWithinLimit n → is_beyond n ≡ false
within_in n h = grind (arith, nat_tests)

ends_in : (a : Interval) → HasKeptEnds a → ends_beyond a ≡ false
ends_in a h = rw (within_in a.lo h.low, within_in a.hi h.high) refl

own_scale : (q : ℕ) (a : Interval) → q ≡ a.s_hi → at_scale q a ≡ a
own_scale q a same =
    let none : q - a.s_hi ≡ 0 = omega (arith, same) in
    let one = λ (n : ℤ). ap (λ k. n *ℤ ten_to k) none ∙ times_one n in
    ap (λ l. interval l (a.hi *ℤ ten_to (q - a.s_hi)) a.s_lo q) (one a.lo)
    ∙ ap (λ h. interval a.lo h a.s_lo q) (one a.hi)
    ∙ ap (λ s. interval a.lo a.hi a.s_lo s) same
  where
    times_one : (n : ℤ) → n *ℤ ten_to 0 ≡ n
    times_one n = omega (arith, ints)

join_within : (a b : Interval) → IsKeptInterval a → IsKeptInterval b → a.s_hi ≡ b.s_hi → a.s_lo ≤ b.s_lo → a.lo ≤ℤ b.lo → b.hi ≤ℤ a.hi → join_row a b ≡ Ok a
join_within a b h k same places low high =
    let g = greater_scale a b in
    let first : at_scale g a ≡ a = own_scale g a (omega (arith, same)) in
    let second : at_scale g b ≡ b = own_scale g b (omega (arith, same)) in
    let kept : (ends_beyond a || ends_beyond b) ≡ false = rw (ends_in a h.ends, ends_in b k.ends) refl in
    let lo : int_min a.lo b.lo ≡ a.lo = omega (arith, ints, clamps, low) in
    let hi : int_max a.hi b.hi ≡ a.hi = omega (arith, ints, clamps, high) in
    let scale : min a.s_lo b.s_lo ≡ a.s_lo = omega (arith, places) in
    ap (λ x. unless (ends_beyond x || ends_beyond (at_scale g b)) Wide (join_of x (at_scale g b))) first
    ∙ ap (λ y. unless (ends_beyond a || ends_beyond y) Wide (join_of a y)) second
    ∙ ap (λ t. unless t Wide (join_of a b)) kept
    ∙ ap (λ l. Ok (interval l (int_max a.hi b.hi) (min a.s_lo b.s_lo) a.s_hi)) lo
    ∙ ap (λ h. Ok (interval a.lo h (min a.s_lo b.s_lo) a.s_hi)) hi
    ∙ ap (λ s. Ok (interval a.lo a.hi s a.s_hi)) scale

and_then_both : (s t : Bool) → (s && t) ≡ true → (s ≡ true) × (t ≡ true)
and_then_both true t e = (refl, e)
and_then_both false t e = absurd (cc)

-- a range that contains the other is their join, whichever comes first
pub first_around : (a b : Interval) → IsKeptInterval a → IsKeptInterval b → is_around a b ≡ true → join_row a b ≡ Ok a
first_around a b h k around =
    let scales = and_then_both (nat_eq a.s_hi b.s_hi) (nat_le a.s_lo b.s_lo && (int_le a.lo b.lo && int_le b.hi a.hi)) around in
    let places = and_then_both (nat_le a.s_lo b.s_lo) (int_le a.lo b.lo && int_le b.hi a.hi) scales.1 in
    let ends = and_then_both (int_le a.lo b.lo) (int_le b.hi a.hi) places.1 in
    let same : a.s_hi ≡ b.s_hi = grind (arith, nat_tests, scales.0) in
    let least : a.s_lo ≤ b.s_lo = grind (arith, nat_tests, places.0) in
    let low : a.lo ≤ℤ b.lo = grind (arith, ints, ends.0) in
    let high : b.hi ≤ℤ a.hi = grind (arith, ints, ends.1) in
    join_within a b h k same least low high

pub second_around : (a b : Interval) → IsKeptInterval a → IsKeptInterval b → is_around b a ≡ true → join_row a b ≡ Ok b
second_around a b h k around = join_either a b ∙ first_around b a k h around
