-- The years of a table that is taken apart by employee.
use Rattle.std.proofs.Common.{◌≡◌, ℕ, ◌<◌, List, [], ◌∷◌, ◌++◌, length, Option, Some, if◌then◌else◌}
use Rattle.std.proofs.Common.{refl, sym, ap, subst, ◌∙◌, arith}
use Rattle.std.specs.List.{AllByRecursion, flat_map}
use Rattle.std.specs.declared.cmp.Ordering.{Ordering}
use Rattle.std.specs.declared.cmp.Ordering.TheVariants.{Less, Equal, Greater}
use Rattle.std.specs.Ordering.{is_eq, nat_cmp, ordering_reverse, ordering_then}
use Rattle.std.specs.Cmp.{IsTotalOrder}
use Rattle.std.proofs.lemmas.Cmp.{tied_itself}
use Rattle.rising_lists.specs.Keyed.{at_key, put, put_by, AreAbove}
use Rattle.rising_lists.proofs.Laws.{at_key_above}
use Rattle.payroll_records.specs.declared.record.Record.{Record}
use Rattle.payroll_records.specs.Orders.{day_cmp}
use Rattle.payroll_records.specs.Tables.{key_of}
use Rattle.book_year.specs.declared.year.YearKey.{YearKey}
use Rattle.book_year.specs.Records.{put_run, record_day}
use Rattle.book_edits.specs.Books.{YearRuns, added, loaded, runs_key, runs_of, runs_or_none, with_runs}
use Rattle.book_edits.specs.Books.{year_cmp, year_of}
use Rattle.book_edits.proofs.Laws.{all_put, put_some, year_total}
use Rattle.report_csv.specs.TableParts as parts
use Rattle.report_csv.specs.TableParts.{AllComeBefore, AreParts, ComesBefore, IsDivided}

-- ---- two lists, of which one has the place of a key

module _ {K X : Type 0} (cmp : K → K → Ordering) (total : IsTotalOrder cmp) (key : X → K) where
  -- behind elements that are below the key
  at_behind : (xs ys : List X) (k : K) → AllByRecursion (λ x. cmp (key x) k ≡ Less) xs →
      at_key cmp key (xs ++ ys) k ≡ at_key cmp key ys k
  at_behind [] ys k h = refl
  at_behind (x ∷ xs) ys k h =
      ap (λ o. if is_eq o then Some x else at_key cmp key (xs ++ ys) k) h.0 ∙ at_behind xs ys k h.1

  put_behind : (y : X) (xs ys : List X) → AllByRecursion (λ x. cmp (key x) (key y) ≡ Less) xs →
      put cmp key y (xs ++ ys) ≡ xs ++ put cmp key y ys
  put_behind y [] ys h = refl
  put_behind y (x ∷ xs) ys h =
      let back : cmp (key y) (key x) ≡ Greater = total.antisymm (key y) (key x) ∙ ap ordering_reverse h.0 in
      ap (λ o. put_by o y x (xs ++ ys) (put cmp key y (xs ++ ys))) back ∙ ap (λ t. x ∷ t) (put_behind y xs ys h.1)

  -- before elements that are above it
  at_before : (xs ys : List X) (k : K) → AreAbove cmp key k ys → at_key cmp key (xs ++ ys) k ≡ at_key cmp key xs k
  at_before [] ys k h = at_key_above cmp total key k k ys h (tied_itself total k)
  at_before (x ∷ xs) ys k h = ap (λ o. if is_eq (cmp (key x) k) then Some x else o) (at_before xs ys k h)

  put_before : (y : X) (xs ys : List X) → AreAbove cmp key (key y) ys →
      put cmp key y (xs ++ ys) ≡ put cmp key y xs ++ ys
  put_before y [] [] h = refl
  put_before y [] (z ∷ ys) h = ap (λ o. put_by o y z ys (put cmp key y ys)) h.0
  put_before y (x ∷ xs) ys h = elim (cmp (key y) (key x)) as
      (λ o. put_by o y x (xs ++ ys) (put cmp key y (xs ++ ys)) ≡ put_by o y x xs (put cmp key y xs) ++ ys) [
        | Less ↦ refl
        | Equal ↦ refl
        | Greater ↦ ap (λ t. x ∷ t) (put_before y xs ys h)
      ]

-- ---- a run put into the years of one part

abbrev year_at : Record → YearKey
year_at r = year_of (key_of r)

-- the year of a run, once it is put
abbrev year_put : Record → List YearRuns → YearRuns
year_put r ys = record { key = year_at r; runs = put_run r (runs_of ys (year_at r)) }

-- the years once the run is put to those of its year, which may not be there
abbrev put_to : Record → Option YearRuns → List YearRuns → List YearRuns
put_to r o ys = put year_cmp runs_key (record { key = year_at r; runs = put_run r (runs_or_none o) }) ys

with_some : (k : YearKey) (rs : List Record) (ys : List YearRuns) → 0 < length rs →
    with_runs k rs ys ≡ put year_cmp runs_key (record { key = k; runs = rs }) ys
with_some k [] ys h = absurd (omega (arith, h))
with_some k (r ∷ rs) ys h = refl

added_is : (r : Record) (ys : List YearRuns) → added r ys ≡ put year_cmp runs_key (year_put r ys) ys
added_is r ys =
    let runs = runs_of ys (year_at r) in
    with_some (year_at r) (put_run r runs) ys (put_some day_cmp record_day r runs)

-- years of one employee come before those of the other
year_before : (a b : YearKey) → ComesBefore a.employee b.employee → year_cmp a b ≡ Less
year_before a b h = ap (λ o. ordering_then o (nat_cmp a.year b.year)) h

years_below : (ys : List YearRuns) (k : YearKey) → AllByRecursion (λ y. ComesBefore y.key.employee k.employee) ys →
    AllByRecursion (λ y. year_cmp y.key k ≡ Less) ys
years_below [] k h = tt
years_below (y ∷ ys) k h = (year_before y.key k h.0, years_below ys k h.1)

years_above : (ys : List YearRuns) (k : YearKey) → AllByRecursion (λ y. ComesBefore k.employee y.key.employee) ys →
    AreAbove year_cmp runs_key k ys
years_above [] k h = tt
years_above (y ∷ ys) k h = (year_before k y.key h.0, years_above ys k h.1)

added_first : (r : Record) (xs ys : List YearRuns) → AllByRecursion (λ y. ComesBefore r.employee y.key.employee) ys →
    added r (xs ++ ys) ≡ added r xs ++ ys
added_first r xs ys h =
    let k = year_at r in
    let above = years_above ys k h in
    added_is r (xs ++ ys)
    ∙ ap (λ o. put_to r o (xs ++ ys)) (at_before year_cmp year_total runs_key xs ys k above)
    ∙ put_before year_cmp year_total runs_key (year_put r xs) xs ys above
    ∙ ap (λ t. t ++ ys) (sym (added_is r xs))

added_rest : (r : Record) (xs ys : List YearRuns) → AllByRecursion (λ y. ComesBefore y.key.employee r.employee) xs →
    added r (xs ++ ys) ≡ xs ++ added r ys
added_rest r xs ys h =
    let k = year_at r in
    let below = years_below xs k h in
    added_is r (xs ++ ys)
    ∙ ap (λ o. put_to r o (xs ++ ys)) (at_behind year_cmp year_total runs_key xs ys k below)
    ∙ put_behind year_cmp year_total runs_key (year_put r ys) xs ys below
    ∙ ap (λ t. xs ++ t) (sym (added_is r ys))

-- ---- all runs of two parts

-- an employee comes before those of the records, or behind them
abbrev IsAhead : List ℕ → List Record → Type 0
IsAhead e rs = AllByRecursion (λ r. ComesBefore e r.employee) rs

abbrev IsBehind : List ℕ → List Record → Type 0
IsBehind e rs = AllByRecursion (λ r. ComesBefore r.employee e) rs

each_of_both : {A : Type 0} (P Q : A → Type 0) (xs : List A) → AllByRecursion (λ x. P x × Q x) xs →
    AllByRecursion P xs × AllByRecursion Q xs
each_of_both P Q [] h = (tt, tt)
each_of_both P Q (x ∷ xs) h = let more = each_of_both P Q xs h.1 in ((h.0.0, more.0), (h.0.1, more.1))

each_added : (P : List ℕ → Type 0) (r : Record) (ys : List YearRuns) → P r.employee →
    AllByRecursion (λ y. P y.key.employee) ys → AllByRecursion (λ y. P y.key.employee) (added r ys)
each_added P r ys p h =
    subst (AllByRecursion (λ y. P y.key.employee)) (sym (added_is r ys))
    (all_put year_cmp runs_key (λ y. P y.key.employee) (year_put r ys) ys p h)

divided_years : {rs first rest : List Record} → IsDivided rs first rest → AllComeBefore first rest →
    (xs ys : List YearRuns) →
    AllByRecursion (λ y. IsAhead y.key.employee rest) xs → AllByRecursion (λ y. IsBehind y.key.employee first) ys →
    loaded rs (xs ++ ys) ≡ loaded first xs ++ loaded rest ys
divided_years parts.all b xs ys ahead behind = refl
divided_years (parts.in_first {rs} {first} {rest} r d) b xs ys ahead behind =
    let each =
    each_of_both (λ y. ComesBefore r.employee y.key.employee) (λ y. IsBehind y.key.employee first) ys behind
    in
    ap (loaded rs) (added_first r xs ys each.0)
    ∙ divided_years d b.1 (added r xs) ys (each_added (λ e. IsAhead e rest) r xs b.0 ahead) each.1
divided_years (parts.in_rest {rs} {first} {rest} r d) b xs ys ahead behind =
    let each =
    each_of_both (λ y. ComesBefore y.key.employee r.employee) (λ y. IsAhead y.key.employee rest) xs ahead
    in
    let before = each_of_both (λ s. ComesBefore s.employee r.employee) (λ s. IsAhead s.employee rest) first b in
    ap (loaded rs) (added_rest r xs ys each.0)
    ∙ divided_years d before.1 xs (added r ys) each.1 (each_added (λ e. IsBehind e first) r ys before.0 behind)

-- ---- the years of a table are those of its parts, one after another

pub parted_years : {table : List Record} {all : List (List Record)} → AreParts table all →
    loaded table [] ≡ flat_map (λ part. loaded part []) all
parted_years parts.none = refl
parted_years (parts.one_more {first} d b p) =
    divided_years d b [] [] tt tt ∙ ap (λ t. loaded first [] ++ t) (parted_years p)
