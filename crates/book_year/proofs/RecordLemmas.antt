-- Laws of the records of a year, and of references to them.
use Rattle.std.proofs.Common.{◌≡◌, ℕ, suc, List, [], ◌∷◌, ◌++◌, map, set, take, drop, refl, sym, ap, ◌∙◌, true, false, if◌then◌else◌}
use Rattle.std.specs.List.{AllByRecursion, insert, remove}
use Rattle.std.specs.Borrow.{Bor}
use Rattle.std.specs.Ordering.{is_eq}
use Rattle.std.specs.declared.cmp.Ordering.{Ordering}
use Rattle.std.specs.declared.cmp.Ordering.TheVariants.{Less, Equal, Greater}
use Rattle.std.proofs.lemmas.Cmp.{tied_itself}
use Rattle.std.proofs.lemmas.List.{map-append, take-map, drop-map}
use Rattle.rising_lists.specs.Keyed.{put, put_by, AreAbove, IsRising}
use Rattle.rising_lists.specs.Places.{IsAt, IsGap}
use Rattle.rising_lists.proofs.Laws.{put_here, put_gap, put_rising, without_here, without_gap, without_rising}
use Rattle.payroll_records.specs.declared.day.Day.{Day}
use Rattle.payroll_records.specs.declared.record.Record.{Record}
use Rattle.payroll_records.specs.Orders.{day_cmp}
use Rattle.payroll_records.proofs.Laws.{day_total}
use Rattle.book_year.specs.Records.{record_day, records_of, put_run, without_run}
use Rattle.book_year.specs.private.Records.{reference_day}

pub put_at : (r : Record) (rs : List Record) (i : ℕ) → IsAt day_cmp record_day rs r.day i → put_run r rs ≡ set rs i r
put_at r rs i h = put_here day_cmp day_total record_day rs r.day i r h (tied_itself day_total r.day)

pub put_in : (r : Record) (rs : List Record) (i : ℕ) → IsGap day_cmp record_day rs r.day i → put_run r rs ≡ insert rs i r
put_in r rs i h = put_gap day_cmp day_total record_day rs r.day i r h (tied_itself day_total r.day)

pub without_at : (d : Day) (rs : List Record) (i : ℕ) → IsAt day_cmp record_day rs d i → without_run d rs ≡ remove rs i
without_at d rs i h = without_here day_cmp day_total record_day rs d i h

pub without_in : (d : Day) (rs : List Record) (i : ℕ) → IsGap day_cmp record_day rs d i → without_run d rs ≡ rs
without_in d rs i h = without_gap day_cmp day_total record_day rs d i h

pub rising_put : (r : Record) (rs : List Record) → IsRising day_cmp record_day rs → IsRising day_cmp record_day (put_run r rs)
rising_put r rs h = put_rising day_cmp day_total record_day r rs h

pub rising_without : (d : Day) (rs : List Record) → IsRising day_cmp record_day rs → IsRising day_cmp record_day (without_run d rs)
rising_without d rs h = without_rising day_cmp day_total record_day d rs h

-- what holds of each record
module _ (P : Record → Type 0) where
  pub all_put : (r : Record) (rs : List Record) → P r → AllByRecursion P rs → AllByRecursion P (put_run r rs)
  all_put r [] o h = (o, tt)
  all_put r (x ∷ rs) o h = elim (day_cmp r.day x.day) as (λ c. AllByRecursion P (put_by c r x rs (put_run r rs))) [
    | Less ↦ (o, h)
    | Equal ↦ (o, h.1)
    | Greater ↦ (h.0, all_put r rs o h.1)
  ]

  pub all_without : (d : Day) (rs : List Record) → AllByRecursion P rs → AllByRecursion P (without_run d rs)
  all_without d [] h = tt
  all_without d (r ∷ rs) h = elim (is_eq (day_cmp r.day d)) as (λ b. AllByRecursion P (if b then rs else r ∷ without_run d rs)) [
    | true ↦ h.1
    | false ↦ (h.0, all_without d rs h.1)
  ]

-- ---- references

pub map_insert : {X Y : Type 0} (f : X → Y) (xs : List X) (i : ℕ) (x : X) → map f (insert xs i x) ≡ insert (map f xs) i (f x)
map_insert f xs i x = map-append f (take i xs) (x ∷ drop i xs) ∙ (λ j. sym (take-map f i xs) j ++ f x ∷ sym (drop-map f i xs) j)

pub map_remove : {X Y : Type 0} (f : X → Y) (xs : List X) (i : ℕ) → map f (remove xs i) ≡ remove (map f xs) i
map_remove f xs i = map-append f (take i xs) (drop (suc i) xs) ∙ (λ j. sym (take-map f i xs) j ++ sym (drop-map f (suc i) xs) j)

module _ {K X Y : Type 0} (cmp : K → K → Ordering) (key : Y → K) (f : X → Y) where
  map_put : (y : X) (xs : List X) → map f (put cmp (λ x. key (f x)) y xs) ≡ put cmp key (f y) (map f xs)
  map_put y [] = refl
  map_put y (x ∷ xs) = elim (cmp (key (f y)) (key (f x))) as (λ o. map f (put_by o y x xs (put cmp (λ x. key (f x)) y xs)) ≡ put_by o (f y) (f x) (map f xs) (put cmp key (f y) (map f xs))) [
    | Less ↦ refl
    | Equal ↦ refl
    | Greater ↦ ap (λ t. f x ∷ t) (map_put y xs)
  ]

  above_map : (k : K) (xs : List X) → AreAbove cmp key k (map f xs) → AreAbove cmp (λ x. key (f x)) k xs
  above_map k [] h = tt
  above_map k (x ∷ xs) h = (h.0, above_map k xs h.1)

  pub rising_map : (xs : List X) → IsRising cmp key (map f xs) → IsRising cmp (λ x. key (f x)) xs
  rising_map [] h = tt
  rising_map (x ∷ xs) h = (above_map (key (f x)) xs h.0, rising_map xs h.1)

abbrev pub now_of : Bor Record → Record
now_of r = r.now

pub put_ref_at : (item : Bor Record) (runs : List (Bor Record)) (i : ℕ) → IsAt day_cmp reference_day runs item.now.day i → records_of (set runs i item) ≡ put_run item.now (records_of runs)
put_ref_at item runs i h = ap records_of (sym (put_here day_cmp day_total reference_day runs item.now.day i item h (tied_itself day_total item.now.day))) ∙ map_put day_cmp record_day now_of item runs

pub put_ref_in : (item : Bor Record) (runs : List (Bor Record)) (i : ℕ) → IsGap day_cmp reference_day runs item.now.day i → records_of (insert runs i item) ≡ put_run item.now (records_of runs)
put_ref_in item runs i h = ap records_of (sym (put_gap day_cmp day_total reference_day runs item.now.day i item h (tied_itself day_total item.now.day))) ∙ map_put day_cmp record_day now_of item runs
