-- Least ranges of values.
use Rattle.std.proofs.Common.{◌≡◌, ℕ, ◌-◌, ◌^◌, ◌<◌, ℤ, pos, ◌*ℤ◌, ◌≤ℤ◌, ◌<ℤ◌, min, max, Bool, true, false, if◌then◌else◌, Option, Some, None, ◌⊎◌, inl, inr, refl, sym, ap, ◌∙◌, subst, arith}
use Rattle.std.specs.Prelude.{◌↔◌}
use Rattle.std.specs.Ordering.{int_cmp, is_gt, is_lt, MatchOrdering}
use Rattle.std.specs.declared.cmp.Ordering.{Ordering}
use Rattle.std.specs.declared.cmp.Ordering.TheVariants.{Less, Equal, Greater}
use Rattle.std.specs.Cmp.{int_ranks}
use Rattle.std.proofs.lemmas.Bool.{cases_lt}
use Rattle.std.proofs.lemmas.Int.{ints}
use Rattle.std.proofs.lemmas.Option.{none-some}
use Rattle.scaled_decimal.specs.Decimals.{Decimal, decimal, numerator_of, numerator_at, scale_of, ten_to, value_order, lesser, greater}
use Rattle.scaled_decimal.proofs.Laws.{ten_some, ten_add, times_assoc, times_swap, le_times, lt_times}
use Rattle.limits_file.specs.Limits.{IsNoGreater}
use Rattle.interval_num.specs.Intervals.{Interval, Contains}
use Rattle.interval_analysis.specs.declared.value_range.ValueRange.{ValueRange}
use Rattle.interval_analysis.specs.Surveys.{value_range, LiesWithin, IsLeastRange, IsLeastOf, HasValue}

-- ---- the order of values

-- the numerator of a decimal where it is compared with another
abbrev over : Decimal → Decimal → ℤ
over a b = numerator_of a *ℤ ten_to (scale_of b)

says : (u v : ℤ) (o : Ordering) → MatchOrdering o (u <ℤ v) (u ≡ v) (v <ℤ u) → is_gt o ≡ false → u ≤ℤ v
says u v Less m f = omega (arith, ints)
says u v Equal m f = omega (arith, ints)
says u v Greater m f = absurd (cc)

told : (u v : ℤ) (o : Ordering) → MatchOrdering o (u <ℤ v) (u ≡ v) (v <ℤ u) → u ≤ℤ v → is_gt o ≡ false
told u v Less m f = refl
told u v Equal m f = refl
told u v Greater m f = absurd (omega (arith, ints))

at_most_over : (a b : Decimal) → IsNoGreater a b → over a b ≤ℤ over b a
at_most_over a b h = says (over a b) (over b a) (value_order a b) (int_ranks (over a b) (over b a)) h

over_at_most : (a b : Decimal) → over a b ≤ℤ over b a → IsNoGreater a b
over_at_most a b h = told (over a b) (over b a) (value_order a b) (int_ranks (over a b) (over b a)) h

-- a factor above 0 cancels
le_cancel : (x y : ℤ) (k : ℕ) → 0 < k → (x *ℤ pos k) ≤ℤ (y *ℤ pos k) → x ≤ℤ y
le_cancel x y k some h = by_rank (int_cmp x y) (int_ranks x y)
  where
    by_rank : (o : Ordering) → MatchOrdering o (x <ℤ y) (x ≡ y) (y <ℤ x) → x ≤ℤ y
    by_rank Less m = omega (arith, ints)
    by_rank Equal m = omega (arith, ints)
    by_rank Greater m = (let less = lt_times y x k some m in absurd (omega (arith, ints)))

pub at_most_itself : (a : Decimal) → IsNoGreater a a
at_most_itself a = over_at_most a a (omega (arith, ints))

pub at_most_then : (a b c : Decimal) → IsNoGreater a b → IsNoGreater b c → IsNoGreater a c
at_most_then a b c h g =
    let pa = 10 ^ scale_of a in
    let pb = 10 ^ scale_of b in
    let pc = 10 ^ scale_of c in
    let first = le_times (over a b) (over b a) pc (at_most_over a b h) in
    let second = le_times (over b c) (over c b) pa (at_most_over b c g) in
    let left = times_swap (numerator_of a) (ten_to (scale_of b)) (ten_to (scale_of c)) in
    let middle = times_swap (numerator_of b) (ten_to (scale_of a)) (ten_to (scale_of c)) in
    let right = times_swap (numerator_of c) (ten_to (scale_of b)) (ten_to (scale_of a)) in
    over_at_most a c (le_cancel (over a c) (over c a) pb (ten_some (scale_of b)) (omega (arith, ints, first, second, left, middle, right)))

-- of two decimals one is at most the other
other_at_most : (a b : Decimal) → is_gt (value_order a b) ≡ true → IsNoGreater b a
other_at_most a b e = by_rank (value_order a b) (int_ranks (over a b) (over b a)) e
  where
    by_rank : (o : Ordering) → MatchOrdering o (over a b <ℤ over b a) (over a b ≡ over b a) (over b a <ℤ over a b) → is_gt o ≡ true → IsNoGreater b a
    by_rank Less m f = absurd (cc)
    by_rank Equal m f = absurd (cc)
    by_rank Greater m f = over_at_most b a (omega (arith, ints))

less_at_most : (a b : Decimal) → is_lt (value_order a b) ≡ true → IsNoGreater a b
less_at_most a b e = by_order (value_order a b) refl e
  where
    by_order : (o : Ordering) → value_order a b ≡ o → is_lt o ≡ true → IsNoGreater a b
    by_order Less o f = ap is_gt o
    by_order Equal o f = absurd (cc)
    by_order Greater o f = absurd (cc)

not_less_at_most : (a b : Decimal) → is_lt (value_order a b) ≡ false → IsNoGreater b a
not_less_at_most a b e = by_rank (value_order a b) (int_ranks (over a b) (over b a)) e
  where
    by_rank : (o : Ordering) → MatchOrdering o (over a b <ℤ over b a) (over a b ≡ over b a) (over b a <ℤ over a b) → is_lt o ≡ false → IsNoGreater b a
    by_rank Less m f = absurd (cc)
    by_rank Equal m f = over_at_most b a (omega (arith, ints))
    by_rank Greater m f = over_at_most b a (omega (arith, ints))

-- ---- the lesser and the greater of two

record IsLesser (a b d : Decimal) : Type 0 where
  first : IsNoGreater d a
  second : IsNoGreater d b
  one : (d ≡ a) ⊎ (d ≡ b)

record IsGreater (a b d : Decimal) : Type 0 where
  first : IsNoGreater a d
  second : IsNoGreater b d
  one : (d ≡ a) ⊎ (d ≡ b)

is_lesser : (a b : Decimal) → IsLesser a b (lesser a b)
is_lesser a b = by_test (is_gt (value_order a b)) refl
  where
    by_test : (t : Bool) → is_gt (value_order a b) ≡ t → IsLesser a b (if t then b else a)
    by_test true e = record { first = other_at_most a b e; second = at_most_itself b; one = inr refl }
    by_test false e = record { first = at_most_itself a; second = e; one = inl refl }

is_greater : (a b : Decimal) → IsGreater a b (greater a b)
is_greater a b = by_test (is_lt (value_order a b)) refl
  where
    by_test : (t : Bool) → is_lt (value_order a b) ≡ t → IsGreater a b (if t then b else a)
    by_test true e = record { first = less_at_most a b e; second = at_most_itself b; one = inr refl }
    by_test false e = record { first = at_most_itself a; second = not_less_at_most a b e; one = inl refl }

-- ---- ranges within others

pub within_then : (r s t : ValueRange) → LiesWithin r s → LiesWithin s t → LiesWithin r t
within_then r s t h g = record {
  least = at_most_then t.least s.least r.least g.least h.least;
  greatest = at_most_then r.greatest s.greatest t.greatest h.greatest g.greatest;
  fewest_places = omega (arith, h.fewest_places, g.fewest_places);
  most_places = omega (arith, h.most_places, g.most_places);
}

pub within_itself : (r : ValueRange) → LiesWithin r r
within_itself r = record {
  least = at_most_itself r.least;
  greatest = at_most_itself r.greatest;
  fewest_places = omega arith;
  most_places = omega arith;
}

pub value_within : (r s : ValueRange) (d : Decimal) → HasValue r d → LiesWithin r s → HasValue s d
value_within r s d h g = record {
  least = at_most_then s.least r.least d g.least h.least;
  greatest = at_most_then d r.greatest s.greatest h.greatest g.greatest;
  fewest_places = omega (arith, h.fewest_places, g.fewest_places);
  most_places = omega (arith, h.most_places, g.most_places);
}

-- a value of an interval is one of its range
pub value_inside : (a : Interval) (d : Decimal) → Contains a d → HasValue (value_range a) d
value_inside a d h =
    let s = scale_of d in
    let at : numerator_at a.s_hi d *ℤ ten_to s ≡ numerator_of d *ℤ ten_to a.s_hi =
    times_assoc (numerator_of d) (ten_to (a.s_hi - s)) (ten_to s)
    ∙ ap (λ t. numerator_of d *ℤ t) (ten_add (a.s_hi - s) s a.s_hi (omega (arith, h.greatest_scale))) in
    let low = le_times a.lo (numerator_at a.s_hi d) (10 ^ s) h.low in
    let high = le_times (numerator_at a.s_hi d) a.hi (10 ^ s) h.high in
    record {
      least = over_at_most (decimal a.lo a.s_hi) d (subst (λ n. (a.lo *ℤ ten_to s) ≤ℤ n) at low);
      greatest = over_at_most d (decimal a.hi a.s_hi) (subst (λ n. n ≤ℤ (a.hi *ℤ ten_to s)) at high);
      fewest_places = h.least_scale;
      most_places = h.greatest_scale;
    }

-- ---- least ranges

-- one range alone
pub least_alone : (r : ValueRange) (These : ValueRange → Type 0) → These r → ((s : ValueRange) → These s → r ≡ s) → IsLeastRange These r
least_alone r These this only = record {
  around = λ s h. subst (λ s. LiesWithin s r) (only s h) (within_itself r);
  least = (r, this, refl);
  greatest = (r, this, refl);
  fewest_places = (r, this, refl);
  most_places = (r, this, refl);
}

-- of two
pub least_of_two : (r s : ValueRange) → IsLeastRange (λ q. (r ≡ q) ⊎ (s ≡ q)) (record { least = lesser r.least s.least; greatest = greater r.greatest s.greatest; fewest_places = min r.fewest_places s.fewest_places; most_places = max r.most_places s.most_places })
least_of_two r s = record {
  around = around;
  least = by_one r.least s.least (λ q. q.least) lesser_is.one refl refl;
  greatest = by_one r.greatest s.greatest (λ q. q.greatest) greater_is.one refl refl;
  fewest_places = by_number (λ q. q.fewest_places) fewest min_is;
  most_places = by_number (λ q. q.most_places) most max_is;
}
  where
    lesser_is : IsLesser r.least s.least (lesser r.least s.least)
    lesser_is = is_lesser r.least s.least

    greater_is : IsGreater r.greatest s.greatest (greater r.greatest s.greatest)
    greater_is = is_greater r.greatest s.greatest

    fewest : ℕ
    fewest = min r.fewest_places s.fewest_places

    most : ℕ
    most = max r.most_places s.most_places

    min_is : (fewest ≡ r.fewest_places) ⊎ (fewest ≡ s.fewest_places)
    min_is = elim (cases_lt r.fewest_places s.fewest_places) [
      | inl less ↦ inl (omega arith)
      | inr more ↦ inr (omega arith)
    ]

    max_is : (most ≡ r.most_places) ⊎ (most ≡ s.most_places)
    max_is = elim (cases_lt r.most_places s.most_places) [
      | inl less ↦ inr (omega arith)
      | inr more ↦ inl (omega arith)
    ]

    both : ValueRange
    both = record { least = lesser r.least s.least; greatest = greater r.greatest s.greatest; fewest_places = fewest; most_places = most }

    around : (q : ValueRange) → (r ≡ q) ⊎ (s ≡ q) → LiesWithin q both
    around q (inl e) = subst (λ q. LiesWithin q both) e (record { least = lesser_is.first; greatest = greater_is.first; fewest_places = omega arith; most_places = omega arith })
    around q (inr e) = subst (λ q. LiesWithin q both) e (record { least = lesser_is.second; greatest = greater_is.second; fewest_places = omega arith; most_places = omega arith })

    by_one : {d : Decimal} (a b : Decimal) (f : ValueRange → Decimal) → (d ≡ a) ⊎ (d ≡ b) → f r ≡ a → f s ≡ b → (q : ValueRange) × ((r ≡ q) ⊎ (s ≡ q)) × (f q ≡ d)
    by_one a b f (inl e) x y = (r, inl refl, x ∙ sym e)
    by_one a b f (inr e) x y = (s, inr refl, y ∙ sym e)

    by_number : (f : ValueRange → ℕ) (n : ℕ) → (n ≡ f r) ⊎ (n ≡ f s) → (q : ValueRange) × ((r ≡ q) ⊎ (s ≡ q)) × (f q ≡ n)
    by_number f n (inl e) = (r, inl refl, sym e)
    by_number f n (inr e) = (s, inr refl, sym e)

pub least_by : (r s : ValueRange) (least most : Decimal) (fewest many : ℕ) → least ≡ lesser r.least s.least → most ≡ greater r.greatest s.greatest → fewest ≡ min r.fewest_places s.fewest_places → many ≡ max r.most_places s.most_places
    → IsLeastRange (λ q. (r ≡ q) ⊎ (s ≡ q)) (record { least = least; greatest = most; fewest_places = fewest; most_places = many })
least_by r s least most fewest many a b c d =
    let same : record { least = lesser r.least s.least; greatest = greater r.greatest s.greatest; fewest_places = min r.fewest_places s.fewest_places; most_places = max r.most_places s.most_places } ≡ record { least = least; greatest = most; fewest_places = fewest; most_places = many } =
    λ i. record { least = sym a i; greatest = sym b i; fewest_places = sym c i; most_places = sym d i } in
    subst (IsLeastRange (λ q. (r ≡ q) ⊎ (s ≡ q))) same (least_of_two r s)

-- the same ranges said otherwise
pub least_as : (P Q : ValueRange → Type 0) (o : Option ValueRange) → ((r : ValueRange) → Q r ↔ P r) → IsLeastOf P o → IsLeastOf Q o
least_as P Q None same h = λ s q. h s ((same s).0 q)
least_as P Q (Some r) same h = record {
  around = λ s q. h.around s ((same s).0 q);
  least = to (λ q. q.least ≡ r.least) h.least;
  greatest = to (λ q. q.greatest ≡ r.greatest) h.greatest;
  fewest_places = to (λ q. q.fewest_places ≡ r.fewest_places) h.fewest_places;
  most_places = to (λ q. q.most_places ≡ r.most_places) h.most_places;
}
  where
    to : (F : ValueRange → Type 0) → ((s : ValueRange) × P s × F s) → (s : ValueRange) × Q s × F s
    to F k = (k.0, (same k.0).1 k.1, k.2)

-- of what was known and of another
pub least_known : (k r q : ValueRange) → IsLeastRange (λ s. (k ≡ s) ⊎ (r ≡ s)) q → IsLeastRange (λ s. (Some k ≡ Some s) ⊎ (r ≡ s)) q
least_known k r q h = least_as (λ s. (k ≡ s) ⊎ (r ≡ s)) (λ s. (Some k ≡ Some s) ⊎ (r ≡ s)) (Some q) (λ s. (to s, from s)) h
  where
    to : (s : ValueRange) → (Some k ≡ Some s) ⊎ (r ≡ s) → (k ≡ s) ⊎ (r ≡ s)
    to s (inl e) = inl (cc)
    to s (inr e) = inr e

    from : (s : ValueRange) → (k ≡ s) ⊎ (r ≡ s) → (Some k ≡ Some s) ⊎ (r ≡ s)
    from s (inl e) = inl (ap Some e)
    from s (inr e) = inr e

pub least_unknown : (r : ValueRange) → IsLeastRange (λ s. (None ≡ Some s) ⊎ (r ≡ s)) r
least_unknown r = least_alone r (λ s. (None ≡ Some s) ⊎ (r ≡ s)) (inr refl) only
  where
    only : (s : ValueRange) → (None ≡ Some s) ⊎ (r ≡ s) → r ≡ s
    only s (inl e) = absurd (none-some s e)
    only s (inr e) = e

-- what was known alone
pub least_stays : (o : Option ValueRange) → IsLeastOf (λ r. (o ≡ Some r) ⊎ ⊥) o
least_stays None = never
  where
    never : (s : ValueRange) → (None ≡ Some s) ⊎ ⊥ → ⊥
    never s (inl e) = absurd (none-some s e)
    never s (inr h) = h
least_stays (Some r) = least_alone r (λ s. (Some r ≡ Some s) ⊎ ⊥) (inl refl) only
  where
    only : (s : ValueRange) → (Some r ≡ Some s) ⊎ ⊥ → r ≡ s
    only s (inl e) = cc
    only s (inr h) = absurd h

-- some ranges and what was known, and then others
pub least_then : (P Q : ValueRange → Type 0) (a b c : Option ValueRange) → IsLeastOf (λ r. (a ≡ Some r) ⊎ P r) b → IsLeastOf (λ r. (b ≡ Some r) ⊎ Q r) c → IsLeastOf (λ r. (a ≡ Some r) ⊎ (P r ⊎ Q r)) c
least_then P Q a None None h g = never
  where
    never : (s : ValueRange) → (a ≡ Some s) ⊎ (P s ⊎ Q s) → ⊥
    never s (inl e) = h s (inl e)
    never s (inr (inl p)) = h s (inr p)
    never s (inr (inr q)) = g s (inr q)
least_then P Q a (Some m) None h g = absurd (g m (inl refl))
least_then P Q a None (Some t) h g = least_as (λ r. (None ≡ Some r) ⊎ Q r) (λ r. (a ≡ Some r) ⊎ (P r ⊎ Q r)) (Some t) (λ r. (to r, from r)) g
  where
    to : (r : ValueRange) → (a ≡ Some r) ⊎ (P r ⊎ Q r) → (None ≡ Some r) ⊎ Q r
    to r (inl e) = absurd (h r (inl e))
    to r (inr (inl p)) = absurd (h r (inr p))
    to r (inr (inr q)) = inr q

    from : (r : ValueRange) → (None ≡ Some r) ⊎ Q r → (a ≡ Some r) ⊎ (P r ⊎ Q r)
    from r (inl e) = absurd (none-some r e)
    from r (inr q) = inr (inr q)
least_then P Q a (Some m) (Some t) h g = record {
  around = around;
  least = end (λ q. q.least) h.least g.least;
  greatest = end (λ q. q.greatest) h.greatest g.greatest;
  fewest_places = end (λ q. q.fewest_places) h.fewest_places g.fewest_places;
  most_places = end (λ q. q.most_places) h.most_places g.most_places;
}
  where
    around : (s : ValueRange) → (a ≡ Some s) ⊎ (P s ⊎ Q s) → LiesWithin s t
    around s (inl e) = within_then s m t (h.around s (inl e)) (g.around m (inl refl))
    around s (inr (inl p)) = within_then s m t (h.around s (inr p)) (g.around m (inl refl))
    around s (inr (inr q)) = g.around s (inr q)

    end : {A : Type 0} (f : ValueRange → A) → ((s : ValueRange) × ((a ≡ Some s) ⊎ P s) × (f s ≡ f m)) → ((s : ValueRange) × ((Some m ≡ Some s) ⊎ Q s) × (f s ≡ f t)) → (s : ValueRange) × ((a ≡ Some s) ⊎ (P s ⊎ Q s)) × (f s ≡ f t)
    end f first last = by_last last.1
      where
        by_first : f m ≡ f t → (a ≡ Some first.0) ⊎ P first.0 → (s : ValueRange) × ((a ≡ Some s) ⊎ (P s ⊎ Q s)) × (f s ≡ f t)
        by_first e (inl k) = (first.0, inl k, first.2 ∙ e)
        by_first e (inr k) = (first.0, inr (inl k), first.2 ∙ e)

        by_last : (Some m ≡ Some last.0) ⊎ Q last.0 → (s : ValueRange) × ((a ≡ Some s) ⊎ (P s ⊎ Q s)) × (f s ≡ f t)
        by_last (inl e) = (let same : m ≡ last.0 = cc in by_first (ap f same ∙ last.2) first.1)
        by_last (inr q) = (last.0, inr (inr q), last.2)
