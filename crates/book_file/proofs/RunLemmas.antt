-- Runs whose keys rise, put one after another into a book, are its runs in this order.
use Rattle.std.proofs.Common.{◌≡◌, ◌⊎◌, inl, inr, ◌<◌, List, [], ◌∷◌, ◌++◌, length, refl, sym, ap, subst, ◌∙◌, arith}
use Rattle.std.specs.List.{AllByRecursion, flat_map}
use Rattle.std.specs.declared.cmp.Ordering.{Ordering}
use Rattle.std.specs.declared.cmp.Ordering.TheVariants.{Less, Equal, Greater}
use Rattle.std.specs.Ordering.{nat_cmp, ordering_then}
use Rattle.std.specs.Cmp.Lexicographic.{slice_cmp}
use Rattle.rising_lists.specs.Keyed.{AreAbove, IsRising}
use Rattle.rising_lists.proofs.Laws.{above_more}
use Rattle.payroll_records.specs.declared.record.Key.{Key}
use Rattle.payroll_records.specs.declared.record.Record.{Record}
use Rattle.payroll_records.specs.Orders.{day_cmp, key_cmp}
use Rattle.payroll_records.specs.Tables.{key_of}
use Rattle.payroll_records.proofs.Laws.{day_total}
use Rattle.book_year.specs.declared.year.YearKey.{YearKey}
use Rattle.book_year.specs.Records.{record_day}
use Rattle.book_year.specs.Years.{IsOwn}
use Rattle.book_edits.specs.Books.{YearRuns, loaded, runs_key, year_cmp, year_of}
use Rattle.book_edits.proofs.Laws.{year_same, year_total}
use Rattle.recalc_engine.specs.BookLaws.{HasOwnRuns}
use Rattle.recalc_engine.proofs.Laws.{years_listed}

-- the runs of these years, one after another
abbrev pub listed : List YearRuns → List Record
listed ys = flat_map (λ y. y.runs) ys

-- years in order, whose runs are these
pub record AreGrouped (rs : List Record) (ys : List YearRuns) : Type 0 where
  pub rising : IsRising year_cmp runs_key ys
  pub days : AllByRecursion (λ y. IsRising day_cmp record_day y.runs) ys
  pub some : AllByRecursion (λ y. 0 < length y.runs) ys
  pub own : AllByRecursion HasOwnRuns ys
  pub runs : listed ys ≡ rs

-- ---- a run before another is of an earlier year, or of an earlier day of the same

less_parts : (o p q : Ordering) → ordering_then o (ordering_then p q) ≡ Less →
    (ordering_then o p ≡ Less) ⊎ ((ordering_then o p ≡ Equal) × (ordering_then p q ≡ Less))
less_parts Less p q e = inl refl
less_parts Equal Less q e = inl refl
less_parts Equal Equal q e = inr (refl, e)
less_parts Equal Greater q e = absurd (cc e)
less_parts Greater p q e = absurd (cc e)

key_less : (a k : Key) → key_cmp a k ≡ Less →
    (year_cmp (year_of a) (year_of k) ≡ Less) ⊎ ((year_cmp (year_of a) (year_of k) ≡ Equal) × (day_cmp a.day k.day ≡ Less))
key_less a k e =
    less_parts (slice_cmp nat_cmp a.employee k.employee) (nat_cmp a.day.year k.day.year)
    (ordering_then (nat_cmp a.day.month k.day.month) (nat_cmp a.day.day k.day.day)) e

its_year : (k : YearKey) (r : Record) → IsOwn k r → year_of (key_of r) ≡ k
its_year k r own = λ i. record { employee = own.employee i; year = own.year i }

own_of : (k : YearKey) (r : Record) → year_of (key_of r) ≡ k → IsOwn k r
own_of k r e = record { employee = ap (λ t. t.employee) e; year = ap (λ t. t.year) e }

-- ---- one run more, before all others

abbrev alone : Record → YearRuns
alone r = record { key = year_of (key_of r); runs = r ∷ [] }

first_year : (r : Record) (rs : List Record) → listed [] ≡ rs → AreGrouped (r ∷ rs) (alone r ∷ [])
first_year r rs e = record {
  rising = (tt, tt);
  days = ((tt, tt), tt);
  some = (omega arith, tt);
  own = ((own_of (year_of (key_of r)) r refl, tt), tt);
  runs = ap (λ t. r ∷ t) e;
}

module _ (r : Record) (rs : List Record) (k : YearKey) (s : Record) (more : List Record) (ys : List YearRuns) where
  abbrev head : YearRuns
  head = record { key = k; runs = s ∷ more }

  -- in a year of its own
  new_year : year_cmp (year_of (key_of r)) k ≡ Less → AreGrouped rs (head ∷ ys) → AreGrouped (r ∷ rs) (alone r ∷ head ∷ ys)
  new_year less g = record {
    rising = ((less, above_more year_cmp year_total runs_key (year_of (key_of r)) k ys less g.rising.0), g.rising);
    days = ((tt, tt), g.days);
    some = (omega arith, g.some);
    own = ((own_of (year_of (key_of r)) r refl, tt), g.own);
    runs = ap (λ t. r ∷ t) g.runs;
  }

  -- in the first year
  same_year : year_of (key_of r) ≡ k → day_cmp r.day s.day ≡ Less → AreGrouped rs (head ∷ ys) →
      AreGrouped (r ∷ rs) (record { key = k; runs = r ∷ s ∷ more } ∷ ys)
  same_year e less g = record {
    rising = g.rising;
    days = (((less, above_more day_cmp day_total record_day r.day s.day more less g.days.0.0), g.days.0), g.days.1);
    some = (omega arith, g.some.1);
    own = ((own_of k r e, g.own.0), g.own.1);
    runs = ap (λ t. r ∷ t) g.runs;
  }

  one_more : AreAbove key_cmp key_of (key_of r) rs → AreGrouped rs (head ∷ ys) → (zs : List YearRuns) × AreGrouped (r ∷ rs) zs
  one_more above g = by (key_less (key_of r) (key_of s) first)
    where
      above_all : AreAbove key_cmp key_of (key_of r) (s ∷ more ++ listed ys)
      above_all = subst (AreAbove key_cmp key_of (key_of r)) (sym g.runs) above

      first : key_cmp (key_of r) (key_of s) ≡ Less
      first = above_all.0

      year : year_of (key_of s) ≡ k
      year = its_year k s g.own.0.0

      by : (year_cmp (year_of (key_of r)) (year_of (key_of s)) ≡ Less) ⊎ ((year_cmp (year_of (key_of r)) (year_of (key_of s)) ≡ Equal) × (day_cmp r.day s.day ≡ Less)) →
          (zs : List YearRuns) × AreGrouped (r ∷ rs) zs
      by (inl less) = (alone r ∷ head ∷ ys, new_year (subst (λ t. year_cmp (year_of (key_of r)) t ≡ Less) year less) g)
      by (inr (tie, less)) = (record { key = k; runs = r ∷ s ∷ more } ∷ ys, same_year (year_same (year_of (key_of r)) (year_of (key_of s)) tie ∙ year) less g)

with_first : (r : Record) (rs : List Record) (ys : List YearRuns) → AreAbove key_cmp key_of (key_of r) rs → AreGrouped rs ys →
    (zs : List YearRuns) × AreGrouped (r ∷ rs) zs
with_first r rs [] above g = (alone r ∷ [], first_year r rs g.runs)
with_first r rs (y ∷ ys) above g = by y.key y.runs g
  where
    by : (k : YearKey) (runs : List Record) → AreGrouped rs (record { key = k; runs = runs } ∷ ys) → (zs : List YearRuns) × AreGrouped (r ∷ rs) zs
    by k [] g = absurd (omega (arith, g.some.0))
    by k (s ∷ more) g = one_more r rs k s more ys above g

grouped : (rs : List Record) → IsRising key_cmp key_of rs → (ys : List YearRuns) × AreGrouped rs ys
grouped [] h = ([], record { rising = tt; days = tt; some = tt; own = tt; runs = refl })
grouped (r ∷ rs) h = let g = grouped rs h.1 in with_first r rs g.0 h.0 g.1

-- ---- so these are the years that they make

pub years_made : (rs : List Record) → IsRising key_cmp key_of rs → AreGrouped rs (loaded rs [])
years_made rs h =
    let g = grouped rs h in
    let same : loaded rs [] ≡ g.0 = ap (λ t. loaded t []) (sym g.1.runs) ∙ years_listed [] g.0 g.1.rising g.1.days g.1.some g.1.own in
    subst (AreGrouped rs) (sym same) g.1
