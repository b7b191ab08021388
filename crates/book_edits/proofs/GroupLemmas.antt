-- Runs grouped by year, one after another.
use Rattle.std.proofs.Common.{◌≡◌, ℕ, ◌+◌, ◌≤◌, List, [], ◌∷◌, ◌++◌, length, true, false, if◌then◌else◌, Option, Some, None, option_map, refl, sym, ap, subst, ◌∙◌, arith, get_or, set, Result, Ok, Err}
use Rattle.std.specs.Prelude.{OnOk}
use Rattle.std.specs.List.{AllByRecursion, insert}
use Rattle.std.specs.declared.cmp.Ordering.{Ordering}
use Rattle.std.specs.declared.cmp.Ordering.TheVariants.{Less, Equal, Greater}
use Rattle.std.specs.Ordering.{is_eq}
use Rattle.std.proofs.lemmas.Cmp.{tied_itself}
use Rattle.std.proofs.lemmas.List.{length_push}
use Rattle.rising_lists.specs.Keyed.{at_key, put, put_by, IsRising}
use Rattle.rising_lists.specs.Places.{Finds, Misses}
use Rattle.rising_lists.proofs.Laws.{put_rising}
use Rattle.payroll_records.specs.declared.record.Record.{Record}
use Rattle.book_year.specs.declared.year.YearKey.{YearKey}
use Rattle.book_year.specs.Records.{put_run}
use Rattle.book_year.specs.Years.{IsOwn}
use Rattle.book_edits.specs.Books.{YearRuns, added, loaded, runs_key, runs_of, runs_or_none, year_cmp}
use Rattle.book_edits.proofs.ListLemmas.{all_put, at_key_map, at_key_tied, map_put}
use Rattle.book_edits.proofs.YearsLemmas.{year_total, year_same}
use Rattle.book_edits.specs.declared.groups.Group.{Group}
use Rattle.book_edits.specs.private.Groups.{AreGroups, IsGroup, IsPutGroup, group_key, group_year, group_years, items_of, items_or_none, put_runs, put_years}
use Rattle.book_edits.proofs.OrderLemmas.{added_is, put_year, year_at, year_holding}
use Rattle.book_edits.proofs.PutLemmas.{at_key_puts, first_of, puts_put}

pub put_runs_more : (is : List Record) (r : Record) (rs : List Record) → put_runs (is ++ r ∷ []) rs ≡ put_run r (put_runs is rs)
put_runs_more [] r rs = refl
put_runs_more (i ∷ is) r rs = put_runs_more is r (put_run i rs)

loaded_more : (rs : List Record) (r : Record) (ys : List YearRuns) → loaded (rs ++ r ∷ []) ys ≡ added r (loaded rs ys)
loaded_more [] r ys = refl
loaded_more (s ∷ rs) r ys = loaded_more rs r (added s ys)

pub all_more : {X : Type 0} (P : X → Type 0) (xs : List X) (y : X) → AllByRecursion P xs → P y → AllByRecursion P (xs ++ y ∷ [])
all_more P [] y all p = (p, tt)
all_more P (x ∷ xs) y all p = (all.0, all_more P xs y all.1 p)

put_longer : {K X : Type 0} (cmp : K → K → Ordering) (key : X → K) (y : X) (xs : List X) → length (put cmp key y xs) ≤ length xs + 1
put_longer cmp key y [] = omega arith
put_longer cmp key y (x ∷ xs) = elim (cmp (key y) (key x)) as (λ o. length (put_by o y x xs (put cmp key y xs)) ≤ length (x ∷ xs) + 1) [
  | Less ↦ omega arith
  | Equal ↦ omega arith
  | Greater ↦ omega (arith, put_longer cmp key y xs)
]

-- what stands at a year once the groups are put
found_runs : (before : List Group) (old : List YearRuns) (k : YearKey) (o : Option Group) → at_key year_cmp group_key before k ≡ o →
    runs_or_none (first_of (option_map (group_year old) o) (at_key year_cmp runs_key old k)) ≡ put_runs (items_or_none o) (runs_of old k)
found_runs before old k None e = refl
found_runs before old k (Some g) e = ap (λ t. put_runs g.items.items (runs_of old t)) (year_same g.key k (at_key_tied year_cmp group_key before k g e))

group_runs : (before : List Group) (old : List YearRuns) (k : YearKey) → runs_of (put_years (group_years old before) old) k ≡ put_runs (items_of before k) (runs_of old k)
group_runs before old k =
    ap runs_or_none (at_key_puts year_cmp year_total runs_key (group_years old before) old k)
    ∙ ap (λ o. runs_or_none (first_of o (at_key year_cmp runs_key old k))) (at_key_map year_cmp runs_key (group_year old) before k)
    ∙ found_runs before old k (at_key year_cmp group_key before k) refl

found_all : (P : Group → Type 0) (before : List Group) (k : YearKey) (g : Group) → at_key year_cmp group_key before k ≡ Some g → AllByRecursion P before → P g
found_all P [] k g e all = cc
found_all P (b ∷ before) k g e all = elim (is_eq (year_cmp b.key k)) as (λ t. (if t then Some b else at_key year_cmp group_key before k) ≡ Some g → P g) [
  | true ↦ λ h. let same : b ≡ g = cc in subst P same all.0
  | false ↦ λ h. found_all P before k g h all.1
] e

own_found : (before : List Group) (k : YearKey) (o : Option Group) → at_key year_cmp group_key before k ≡ o → AllByRecursion IsGroup before → AllByRecursion (IsOwn k) (items_or_none o)
own_found before k None e each = tt
own_found before k (Some g) e each =
    subst (λ t. AllByRecursion (IsOwn t) g.items.items) (year_same g.key k (at_key_tied year_cmp group_key before k g e)) (found_all IsGroup before k g e each).own

-- to put the group's year is to put the run
groups_put : (done : List Record) (r : Record) (before after : List Group) → AreGroups done before → IsPutGroup r before after → (old : List YearRuns) → put_years (group_years old after) old ≡ loaded (done ++ r ∷ []) old
groups_put done r before after h p old =
    let k = year_at r in
    let all = put_years (group_years old before) old in
    let runs : put_runs p.group.items.items (runs_of old p.group.key) ≡ put_run r (runs_of all k) =
    (λ i. put_runs (p.items i) (runs_of old (p.key i))) ∙ put_runs_more (items_of before k) r (runs_of old k) ∙ ap (put_run r) (sym (group_runs before old k)) in
    ap (λ gs. put_years (group_years old gs) old) p.are
    ∙ ap (λ l. put_years l old) (map_put year_cmp runs_key (group_year old) p.group before)
    ∙ puts_put year_cmp year_total runs_key (group_year old p.group) (group_years old before) old
    ∙ (λ i. put_year (year_holding (p.key i) (runs i)) all)
    ∙ sym (added_is r all)
    ∙ ap (added r) (h.are old)
    ∙ sym (loaded_more done r old)

-- one more run in its group
pub groups_more : (done : List Record) (r : Record) (before after : List Group) → AreGroups done before → IsPutGroup r before after → AreGroups (done ++ r ∷ []) after
groups_more done r before after h p =
    let k = year_at r in
    let items = items_of before k in
    let own : AllByRecursion (IsOwn k) (items ++ r ∷ []) = all_more (IsOwn k) items r (own_found before k (at_key year_cmp group_key before k) refl h.each) (record { employee = refl; year = refl }) in
    let group : IsGroup p.group = record {
      own = subst (λ t. AllByRecursion (IsOwn t) p.group.items.items) (sym p.key) (subst (AllByRecursion (IsOwn k)) (sym p.items) own);
      some = omega (arith, ap length p.items, length_push items r);
    } in
    record {
      rising = subst (IsRising year_cmp group_key) (sym p.are) (put_rising year_cmp year_total group_key p.group before h.rising);
      each = subst (AllByRecursion IsGroup) (sym p.are) (all_put year_cmp group_key IsGroup p.group before group h.each);
      few = omega (arith, ap length p.are, put_longer year_cmp group_key p.group before, length_push done r, h.few);
      are = λ old. groups_put done r before after h p old;
    }

pub no_groups : AreGroups [] []
no_groups = record { rising = tt; each = tt; few = omega arith; are = λ old. refl }

-- a run put into the group that was found, or into a new one
pub put_found : (r : Record) (before : List Group) (i : ℕ) (g : Group) (after : Group) → Finds year_cmp group_key before (year_at r) i → g ≡ get_or before i g → after.key ≡ g.key → after.items.items ≡ g.items.items ++ r ∷ [] → IsPutGroup r before (set before i after)
put_found r before i g after found is key items =
    let at : at_key year_cmp group_key before (year_at r) ≡ Some g = found.at g ∙ ap (λ t. Some t) (sym is) in
    let same : g.key ≡ year_at r = year_same g.key (year_at r) (at_key_tied year_cmp group_key before (year_at r) g at) in
    record {
      group = after;
      key = key ∙ same;
      items = items ∙ ap (λ o. items_or_none o ++ r ∷ []) (sym at);
      are = sym (found.put after (ap (λ t. year_cmp t (year_at r)) (key ∙ same) ∙ tied_itself year_total (year_at r)));
    }

pub put_missed : (r : Record) (before : List Group) (i : ℕ) (after : Group) → Misses year_cmp group_key before (year_at r) i → after.key ≡ year_at r → after.items.items ≡ r ∷ [] → IsPutGroup r before (insert before i after)
put_missed r before i after missed key items = record {
  group = after;
  key = key;
  items = items ∙ ap (λ o. items_or_none o ++ r ∷ []) (sym missed.at);
  are = sym (missed.put after (ap (λ t. year_cmp t (year_at r)) key ∙ tied_itself year_total (year_at r)));
}

pub put_found_if : {T E : Type 0} (q : Result T E) (r : Record) (before : List Group) (i : ℕ) (g : Group) (after : Group) → Finds year_cmp group_key before (year_at r) i → g ≡ get_or before i g → after.key ≡ g.key → OnOk q (after.items.items ≡ g.items.items ++ r ∷ []) → OnOk q (IsPutGroup r before (set before i after))
put_found_if (Ok x) r before i g after found is key items = put_found r before i g after found is key items
put_found_if (Err e) r before i g after found is key items = tt
