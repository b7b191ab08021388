-- New outcomes put into the years.
use Rattle.std.proofs.Common.{◌≡◌, ◌<◌, suc, List, [], ◌∷◌, ◌++◌, length, set, get_or, Some, None, refl, sym, ap, subst, ◌∙◌, arith}
use Rattle.std.specs.List.{AllByRecursion}
use Rattle.rising_lists.specs.Keyed.{AreAbove, IsRising}
use Rattle.plan_calendar.specs.Picking.{Entry, pick}
use Rattle.book_year.specs.Accepted.{Accepted}
use Rattle.book_year.specs.declared.year.Year.{Year}
use Rattle.book_year.specs.declared.year.YearKey.{YearKey}
use Rattle.book_year.specs.Rows.{Planned}
use Rattle.book_year.specs.Years.{IsYear}
use Rattle.book_edits.specs.declared.years.Years.{Years}
use Rattle.book_edits.specs.Books.{year_cmp}
use Rattle.book_edits.specs.Kept.{AreYears, HasRuns, kept_key, runs_in, runs_in_year}
use Rattle.book_edits.specs.declared.redone.Redone.{Redone}
use Rattle.book_edits.specs.Replans.{IsReplan}
use Rattle.book_edits.specs.RedoneClauses.{New, with_new, YearKept}
use Rattle.book_edits.specs.private.RedoneClauses.{merged, AllRedone, AreRedoneFor}

pub redone_more : (q : Planned) (ys : List Year) (news : List New) (y : Year) (new : New) → AllRedone q ys news → YearKept q (with_new y new) → AllRedone q (ys ++ y ∷ []) (news ++ new ∷ [])
redone_more q [] [] y new all kept = (kept, tt)
redone_more q [] (p ∷ news) y new all kept = absurd all
redone_more q (x ∷ ys) [] y new all kept = absurd all
redone_more q (x ∷ ys) (p ∷ news) y new all kept = (all.0, redone_more q ys news y new all.1 kept)

pub redone_length : (q : Planned) (ys : List Year) (news : List New) → AllRedone q ys news → length news ≡ length ys
redone_length q [] [] all = refl
redone_length q [] (p ∷ news) all = absurd all
redone_length q (x ∷ ys) [] all = absurd all
redone_length q (x ∷ ys) (p ∷ news) all = ap suc (redone_length q ys news all.1)

pub merged_none : (ys : List Year) → merged ys [] ≡ ys
merged_none [] = refl
merged_none (y ∷ ys) = refl

-- the last new outcomes put in
pub merged_last : (ys : List Year) (news : List New) (new : New) (y : Year) → length news < length ys → y ≡ get_or ys (length news) y → merged (set ys (length news) (with_new y new)) news ≡ merged ys (news ++ new ∷ [])
merged_last [] news new y l e = absurd (omega (arith, l))
merged_last (x ∷ ys) [] new y l e = (λ i. with_new (e i) new ∷ ys) ∙ sym (ap (λ t. with_new x new ∷ t) (merged_none ys))
merged_last (x ∷ ys) (p ∷ news) new y l e = ap (λ t. with_new x p ∷ t) (merged_last ys news new y (omega (arith, l)) e)

-- ---- the years keep their keys and their runs

same_runs : (y : Year) (new : New) → runs_in_year (with_new y new) ≡ runs_in_year y
same_runs y None = refl
same_runs y (Some v) = refl

merged_runs : (ys : List Year) (news : List New) → runs_in (merged ys news) ≡ runs_in ys
merged_runs [] news = refl
merged_runs (y ∷ ys) [] = refl
merged_runs (y ∷ ys) (new ∷ news) = λ i. same_runs y new i ∷ merged_runs ys news i

same_key : (y : Year) (new : New) → (with_new y new).key ≡ y.key
same_key y None = refl
same_key y (Some v) = refl

merged_above : (k : YearKey) (ys : List Year) (news : List New) → AreAbove year_cmp kept_key k ys → AreAbove year_cmp kept_key k (merged ys news)
merged_above k [] news h = tt
merged_above k (y ∷ ys) [] h = h
merged_above k (y ∷ ys) (new ∷ news) h = (ap (year_cmp k) (same_key y new) ∙ h.0, merged_above k ys news h.1)

merged_rising : (ys : List Year) (news : List New) → IsRising year_cmp kept_key ys → IsRising year_cmp kept_key (merged ys news)
merged_rising [] news h = tt
merged_rising (y ∷ ys) [] h = h
merged_rising (y ∷ ys) (new ∷ news) h = (subst (λ k. AreAbove year_cmp kept_key k (merged ys news)) (sym (same_key y new)) (merged_above y.key ys news h.0), merged_rising ys news h.1)

merged_some : (ys : List Year) (news : List New) → AllByRecursion HasRuns ys → AllByRecursion HasRuns (merged ys news)
merged_some [] news all = tt
merged_some (y ∷ ys) [] all = all
merged_some (y ∷ ys) (None ∷ news) all = (all.0, merged_some ys news all.1)
merged_some (y ∷ ys) (Some v ∷ news) all = (all.0, merged_some ys news all.1)

-- ---- the years with their new outcomes are kept under the new plans

with_kept : (plans plans' : List (Entry Accepted)) (y : Year) (new : New) → IsYear plans y → YearKept (pick plans') (with_new y new) → IsYear plans' (with_new y new)
with_kept plans plans' y None is kept = record { kept = kept; own = is.own }
with_kept plans plans' y (Some v) is kept = record { kept = kept; own = is.own }

merged_each : (plans plans' : List (Entry Accepted)) (ys : List Year) (news : List New) → AllByRecursion (IsYear plans) ys → AllRedone (pick plans') ys news → AllByRecursion (IsYear plans') (merged ys news)
merged_each plans plans' [] [] each all = tt
merged_each plans plans' [] (new ∷ news) each all = absurd all
merged_each plans plans' (y ∷ ys) [] each all = absurd all
merged_each plans plans' (y ∷ ys) (new ∷ news) each all = (with_kept plans plans' y new each.0 all.0, merged_each plans plans' ys news each.1 all.1)

module _ (plans wanted : List (Entry Accepted)) (ys ys' : Years) (redone : Redone) (are : AreYears plans ys) (done : AreRedoneFor plans wanted ys redone) (put : ys'.list.items ≡ merged ys.list.items redone.outcomes.items) (count : ys'.count ≡ ys.count) where
  abbrev news : List New
  news = redone.outcomes.items

  runs_stay : runs_in ys'.list.items ≡ runs_in ys.list.items
  runs_stay = ap runs_in put ∙ merged_runs ys.list.items news

  kept_for : AreYears wanted ys'
  kept_for = record {
    rising = rw put (merged_rising ys.list.items news are.rising);
    each = rw put (merged_each plans wanted ys.list.items news are.each done.all);
    some = rw put (merged_some ys.list.items news are.some);
    count = rw (count, runs_stay) are.count;
    few = rw count are.few;
  }

  -- the calendar became the wanted one
  pub replanned : (plans' : List (Entry Accepted)) → plans' ≡ wanted → IsReplan plans ys plans' ys' wanted redone.work
  replanned plans' is = record {
    plans_are = is;
    years_are = runs_stay;
    kept = rw is kept_for;
    work_is = done.work_is;
  }
