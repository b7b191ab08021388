-- What a load leaves, and its refusals.
use Rattle.std.proofs.Common.{◌≡◌, ℕ, ◌+◌, ◌≤◌, List, [], ◌∷◌, length, Result, Ok, Err, refl, sym, ap, subst, ◌∙◌, arith}
use Rattle.std.specs.Prelude.{IfErr, IfOk, OnErr}
use Rattle.std.specs.List.{AllByRecursion}
use Rattle.std.specs.declared.alloc.AllocError.{AllocError}
use Rattle.rising_lists.specs.Keyed.{IsRising}
use Rattle.payroll_records.specs.declared.record.Record.{Record}
use Rattle.payroll_records.specs.Orders.{day_cmp}
use Rattle.payroll_records.specs.Tables.{HaveOwnKeys}
use Rattle.plan_calendar.specs.Picking.{Entry, pick}
use Rattle.book_year.specs.Accepted.{Accepted}
use Rattle.book_year.specs.declared.outcome.Work.{Work}
use Rattle.book_year.specs.declared.year.Year.{Year}
use Rattle.book_year.specs.Jobs.{Counts, total_cost, work_of}
use Rattle.book_year.specs.Records.{record_day}
use Rattle.book_year.specs.Years.{IsYear}
use Rattle.book_edits.specs.declared.refusal.EditRefusal.{EditRefusal}
use Rattle.book_edits.specs.declared.refusal.EditRefusal.TheVariants as refusal
use Rattle.book_edits.specs.declared.years.Years.{Years}
use Rattle.book_edits.specs.Books.{AreInOrder, loaded, run_count, runs_key, year_cmp}
use Rattle.book_edits.specs.Kept.{AreSameYears, AreYears, HasRuns, IsYearsEdit, edit_jobs, kept_key, runs_in, runs_in_year, years_of}
use Rattle.book_edits.specs.Refusals.{CountsEdit, most_records}
use Rattle.book_edits.specs.private.Views.{AreKeptYears, IsListEdit, list_cost}
use Rattle.book_edits.proofs.YearsLemmas.{kept_in_order, quiet_years, year_total}
use Rattle.book_edits.proofs.ListLemmas.{map_rising, rising_map}
use Rattle.book_edits.specs.Loads.{CanLoad, IsLoadRefused}
use Rattle.book_edits.specs.declared.drafts.Drafted.{Drafted}
use Rattle.book_edits.specs.declared.groups.Group.{Group}
use Rattle.book_edits.specs.private.Groups.{AreGroups, group_year, group_years, put_years}
use Rattle.book_edits.specs.private.Drafts.{AreDrafted, draft_year, groups_cost, groups_jobs}
use Rattle.book_edits.specs.private.Merges.{AreMergeable, CanMerge, IsKeptYear, merged_runs}
use Rattle.book_edits.proofs.DraftLemmas.{jobs_puts}
use Rattle.book_edits.proofs.OrderLemmas.{count_loaded, distinct_apart}
use Rattle.book_edits.proofs.PresentLemmas.{IsFree, free_each}
use Rattle.book_edits.proofs.PutLemmas.{puts_rising}

module _ (plans : List (Entry Accepted)) (list : List Year) (kept : AreKeptYears plans list) (items : List Record) (groups : List Group) (are : AreGroups items groups) where
  old_rise : IsRising year_cmp runs_key (runs_in list)
  old_rise = map_rising year_cmp runs_key runs_in_year list kept.rising

  groups_rise : IsRising year_cmp runs_key (group_years (runs_in list) groups)
  groups_rise = map_rising year_cmp runs_key (group_year (runs_in list)) groups are.rising

  -- the new jobs of a load are those of its groups
  pub load_jobs : edit_jobs plans (runs_in list) (loaded items (runs_in list)) ≡ groups_jobs plans (runs_in list) groups
  load_jobs =
      ap (edit_jobs plans (runs_in list)) (sym (are.are (runs_in list)))
      ∙ jobs_puts (pick plans) (runs_in list) (group_years (runs_in list) groups) (runs_in list) groups_rise (quiet_years plans list kept)

  pub load_cost : groups_cost plans (runs_in list) groups ≡ list_cost plans list (loaded items (runs_in list))
  load_cost = ap total_cost (sym load_jobs)

  days_kept : (ys : List Year) → AllByRecursion (IsYear plans) ys → AllByRecursion (λ y. IsRising day_cmp record_day y.records.items) ys
  days_kept [] each = tt
  days_kept (y ∷ ys) each = (each.0.kept.rising, days_kept ys each.1)

  both_kept : (ys : List Year) → AllByRecursion (IsYear plans) ys → AllByRecursion HasRuns ys → AllByRecursion (IsKeptYear plans) ys
  both_kept [] each some = tt
  both_kept (y ∷ ys) each some = (record { year = each.0; some = some.0 }, both_kept ys each.1 some.1)

  kept_each : (ys : List Year) → AllByRecursion (IsKeptYear plans) ys → AllByRecursion (IsYear plans) ys
  kept_each [] all = tt
  kept_each (y ∷ ys) all = (all.0.year, kept_each ys all.1)

  kept_some : (ys : List Year) → AllByRecursion (IsKeptYear plans) ys → AllByRecursion HasRuns ys
  kept_some [] all = tt
  kept_some (y ∷ ys) all = (all.0.some, kept_some ys all.1)

  module _ (done : Drafted) (drafted : AreDrafted plans (runs_in list) groups done) where
    pub can_merge : CanMerge list done.drafts.items
    can_merge = record {
      olds_rise = kept.rising;
      drafts_rise = rising_map year_cmp runs_key (draft_year (runs_in list)) done.drafts.items (subst (IsRising year_cmp runs_key) (sym drafted.years) groups_rise);
      days = days_kept list kept.each;
      rooms = drafted.rooms;
    }

    pub mergeable : AreMergeable plans list done.drafts.items
    mergeable = record { years = both_kept list kept.each kept.some; new = drafted.each }

    -- the years that are left
    pub load_done : (new : List Year) → runs_in new ≡ merged_runs list done.drafts.items → AllByRecursion (IsKeptYear plans) new → IsListEdit plans list new (loaded items (runs_in list)) done.work
    load_done new runs all =
        let with : runs_in new ≡ put_years (group_years (runs_in list) groups) (runs_in list) = runs ∙ ap (λ t. put_years t (runs_in list)) drafted.years in
        record {
          kept = record {
            rising = rising_map year_cmp runs_key runs_in_year new (subst (IsRising year_cmp runs_key) (sym with) (puts_rising year_cmp year_total runs_key (group_years (runs_in list) groups) (runs_in list) old_rise));
            each = kept_each new all;
            some = kept_some new all;
          };
          years_are = with ∙ are.are (runs_in list);
          work_is = drafted.work ∙ ap work_of (sym load_jobs);
        }

-- ---- the book

-- years with the content that they had
pub same_years : (plans : List (Entry Accepted)) (old new : Years) → AreYears plans old → new.list.items ≡ old.list.items → new.count ≡ old.count → AreSameYears plans old new
same_years plans old new h list count = record {
  kept = record {
    rising = subst (IsRising year_cmp kept_key) (sym list) h.rising;
    each = subst (AllByRecursion (IsYear plans)) (sym list) h.each;
    some = subst (AllByRecursion HasRuns) (sym list) h.some;
    count = count ∙ h.count ∙ ap (λ t. run_count (runs_in t)) (sym list);
    few = omega (arith, count, h.few);
  };
  years_are = ap runs_in list;
}

kept_of : (plans : List (Entry Accepted)) (ys : Years) → AreYears plans ys → AreKeptYears plans ys.list.items
kept_of plans ys h = record { rising = h.rising; each = h.each; some = h.some }

-- what is kept of the years stands in order
pub in_order : (plans : List (Entry Accepted)) (ys : Years) → AreYears plans ys → AreInOrder (years_of ys)
in_order plans ys h = kept_in_order plans ys.list.items (kept_of plans ys h)

pub load_edit : (plans : List (Entry Accepted)) (old new : Years) (items : List Record) (work : Work) → AreYears plans old → HaveOwnKeys items → CanLoad (years_of old) items →
    IsListEdit plans old.list.items new.list.items (loaded items (runs_in old.list.items)) work → new.count ≡ old.count + length items → IsYearsEdit plans old new (loaded items (years_of old)) work
load_edit plans old new items work h distinct can edit count =
    let more = count_loaded items (years_of old) (in_order plans old h) (free_each (years_of old) items can.free) (distinct_apart items distinct) in
    record {
      kept = record {
        rising = edit.kept.rising;
        each = edit.kept.each;
        some = edit.kept.some;
        count = omega (arith, count, more, h.count, ap run_count edit.years_are);
        few = omega (arith, count, h.count, can.room);
      };
      years_are = edit.years_are;
      work_is = edit.work_is;
    }

-- a refusal without a step
pub counts_none : (x : EditRefusal) (at total : ℕ) → CountsEdit {T = Work} (Err x) at at total
counts_none (refusal.Present k) at total = refl
counts_none (refusal.Absent e w) at total = refl
counts_none (refusal.Several e m) at total = refl
counts_none refusal.Records at total = refl
counts_none refusal.Plans at total = refl
counts_none (refusal.NoPlanThere d) at total = refl
counts_none (refusal.Memory e) at total = (omega arith, omega arith)

-- a refusal that stood before anything was written
pub refused_before : (plans : List (Entry Accepted)) (years : Years) (items : List Record) (r : Result Work EditRefusal) (x : EditRefusal) (at total : ℕ) → AreYears plans years → r ≡ Err x → IsLoadRefused (years_of years) items x →
    record { ok : IfOk r (IsYearsEdit plans years years (loaded items (years_of years))); can : IfOk r (λ _. CanLoad (years_of years) items); err : OnErr r (AreSameYears plans years years); refused : IfErr r (IsLoadRefused (years_of years) items); counted : CountsEdit r at at total }
refused_before plans years items (Ok w) x at total h is refused = cc
refused_before plans years items (Err y) x at total h is refused =
    let same : x ≡ y = cc in
    record {
      ok = tt;
      can = tt;
      err = same_years plans years years h refl refl;
      refused = subst (IsLoadRefused (years_of years) items) same refused;
      counted = counts_none y at total;
    }

-- memory ran out
pub refused_memory : (plans : List (Entry Accepted)) (old new : Years) (items : List Record) (r : Result Work EditRefusal) (e : AllocError) (before now total : ℕ) → AreYears plans old → r ≡ Err (refusal.Memory e) → new.list.items ≡ old.list.items → new.count ≡ old.count → CanLoad (years_of old) items → before ≤ now → now ≤ before + total →
    record { ok : IfOk r (IsYearsEdit plans old new (loaded items (years_of old))); can : IfOk r (λ _. CanLoad (years_of old) items); err : OnErr r (AreSameYears plans old new); refused : IfErr r (IsLoadRefused (years_of old) items); counted : CountsEdit r before now total }
refused_memory plans old new items (Ok w) e before now total h is list count can low high = cc
refused_memory plans old new items (Err y) e before now total h is list count can low high =
    let same : refusal.Memory e ≡ y = cc in
    record {
      ok = tt;
      can = tt;
      err = same_years plans old new h list count;
      refused = subst (IsLoadRefused (years_of old) items) same can;
      counted = subst (λ t. CountsEdit {T = Work} (Err t) before now total) same (low, high);
    }

-- ---- runs put where there are none

none_free : (items : List Record) → AllByRecursion (IsFree []) items
none_free [] = tt
none_free (r ∷ rs) = (refl, none_free rs)

-- the years are those of the runs alone, and the work is that of all their jobs
pub record IsRestored (plans : List (Entry Accepted)) (items : List Record) (new : Years) (work : Work) : Type 0 where
  pub kept : AreYears plans new
  pub years : years_of new ≡ loaded items []
  pub work_is : work ≡ work_of (edit_jobs plans [] (loaded items []))

pub none_kept : (plans : List (Entry Accepted)) (list : List Year) → list ≡ [] → AreKeptYears plans list
none_kept plans list none = subst (AreKeptYears plans) (sym none) (record { rising = tt; each = tt; some = tt })

pub restored : (plans : List (Entry Accepted)) (old : List Year) (new : Years) (items : List Record) (work : Work) → old ≡ [] → HaveOwnKeys items → length items ≤ most_records →
    IsListEdit plans old new.list.items (loaded items (runs_in old)) work → new.count ≡ length items →
    IsRestored plans items new work
restored plans old new items work none distinct few h count =
    let edit = subst (λ t. IsListEdit plans t new.list.items (loaded items (runs_in t)) work) none h in
    let more = count_loaded items [] (record { rising = tt; days = tt; some = tt }) (none_free items) (distinct_apart items distinct) in
    record {
      kept = record {
        rising = edit.kept.rising;
        each = edit.kept.each;
        some = edit.kept.some;
        count = omega (arith, count, more, ap run_count edit.years_are);
        few = omega (arith, count, few);
      };
      years = edit.years_are;
      work_is = edit.work_is;
    }

pub restored_counts : {T E : Type 0} (plans : List (Entry Accepted)) (old : List Year) (items : List Record) (r : Result T E) (before now : ℕ) → old ≡ [] →
    Counts r before now (list_cost plans old (loaded items (runs_in old))) → Counts r before now (total_cost (edit_jobs plans [] (loaded items [])))
restored_counts plans old items r before now none h = subst (λ t. Counts r before now (total_cost (edit_jobs plans (runs_in t) (loaded items (runs_in t))))) none h
