use Rattle.std.proofs.Common.{◌≡◌, refl, sym, ap, subst, ◌∙◌, arith, vec_len}
use Rattle.std.specs.List.{AllByRecursion}
use Rattle.rising_lists.specs.Keyed.{IsRising}
use Rattle.book_year.specs.Accepted.{plans_in}
use Rattle.book_year.specs.Years.{IsYear}
use Rattle.book_edits.specs.Books.{loaded, year_cmp}
use Rattle.book_edits.specs.Kept.{kept_key, runs_in}
use Rattle.book_edits.specs.private.Views.{IsListEdit, list_cost}
use Rattle.book_edits.specs.private.Drafts.{AreDrafted, groups_cost}
use Rattle.book_edits.specs.private.Merges.{AreMergeable, CanMerge, merged_runs}
use Rattle.book_edits.proofs.ErrLemmas.{err_counts, err_done, err_on}
use Rattle.book_edits.proofs.LoadLemmas.{can_merge, load_cost, load_done, mergeable}
use Rattle.book_edits.proofs.loads.load_runs.Goals as goal

pub draft_all-requires : goal.draft_all-requires
draft_all-requires g c = record {
  rising = subst (IsRising year_cmp kept_key) (sym c.as_slice.ensures.value) c.requires.kept.rising;
  years = subst (AllByRecursion (IsYear (plans_in c.args.plans.now))) (sym c.as_slice.ensures.value) c.requires.kept.each;
  groups = c.in_ok-groups.ensures.each;
  few = omega (arith, c.in_ok-groups.ensures.few, c.requires.few);
}

pub merged-requires : goal.merged-requires
merged-requires g c =
    let plans = plans_in c.args.plans.now in
    let list = c.args.list.now.items in
    let groups = c.in_ok-groups.groups.items in
    let done = c.in_ok-done.done in
    let drafted = subst (λ t. AreDrafted plans (runs_in t) groups done) c.as_slice.ensures.value c.in_ok-done.ensures.done in
    record {
      can = subst (λ t. CanMerge t.items done.drafts.items) (sym c.replace-olds.ensures.value) (can_merge plans list c.requires.kept c.args.items.items groups c.in_ok-groups.ensures done drafted);
      empty = c.in_ok-room.ensures.items;
      room = omega (arith, c.in_ok-room.ensures.len, c.in_ok-room.ensures.capacity, c.len.ensures, c.len-2.ensures, ap vec_len c.replace-olds.ensures.value);
    }

pub returns-in_err-groups : goal.returns-in_err-groups
returns-in_err-groups g c =
    let plans = plans_in c.args.plans.now in
    let list = c.args.list.now.items in
    let years = loaded c.args.items.items (runs_in list) in
    let r = c.from_residual in
    record {
      ok = err_done (IsListEdit plans list list years) r.result r.ensures.0;
      err = err_on (list ≡ list) r.result refl;
      counted = err_counts r.result r.ensures.0 c.args.steps.now c.args.steps.now (list_cost plans list years) (omega arith) (omega arith);
    }

pub returns-in_err-done : goal.returns-in_err-done
returns-in_err-done g c =
    let plans = plans_in c.args.plans.now in
    let list = c.args.list.now.items in
    let groups = c.in_ok-groups.groups.items in
    let years = loaded c.args.items.items (runs_in list) in
    let cost : groups_cost plans (runs_in c.as_slice.result.now) groups ≡ list_cost plans list years = ap (λ t. groups_cost plans (runs_in t) groups) c.as_slice.ensures.value ∙ load_cost plans list c.requires.kept c.args.items.items groups c.in_ok-groups.ensures in
    let r = c.from_residual-in_err-done in
    let counted = c.in_err-done.ensures.counted in
    record {
      ok = err_done (IsListEdit plans list list years) r.result r.ensures.0;
      err = err_on (list ≡ list) r.result refl;
      counted = err_counts r.result r.ensures.0 c.args.steps.now c.draft_all.new.steps (list_cost plans list years) counted.0 (omega (arith, cost, counted.1));
    }

pub returns-in_err-room : goal.returns-in_err-room
returns-in_err-room g c =
    let plans = plans_in c.args.plans.now in
    let list = c.args.list.now.items in
    let groups = c.in_ok-groups.groups.items in
    let years = loaded c.args.items.items (runs_in list) in
    let cost : groups_cost plans (runs_in c.as_slice.result.now) groups ≡ list_cost plans list years = ap (λ t. groups_cost plans (runs_in t) groups) c.as_slice.ensures.value ∙ load_cost plans list c.requires.kept c.args.items.items groups c.in_ok-groups.ensures in
    let r = c.from_residual-in_err-room in
    record {
      ok = err_done (IsListEdit plans list list years) r.result r.ensures.0;
      err = err_on (list ≡ list) r.result refl;
      counted = err_counts r.result r.ensures.0 c.args.steps.now c.draft_all.new.steps (list_cost plans list years) (omega (arith, c.in_ok-done.ensures.counted)) (omega (arith, cost, c.in_ok-done.ensures.counted));
    }

pub returns : goal.returns
returns g c =
    let plans = plans_in c.args.plans.now in
    let list = c.args.list.now.items in
    let items = c.args.items.items in
    let groups = c.in_ok-groups.groups.items in
    let are = c.in_ok-groups.ensures in
    let done = c.in_ok-done.done in
    let years = loaded items (runs_in list) in
    let drafted = subst (λ t. AreDrafted plans (runs_in t) groups done) c.as_slice.ensures.value c.in_ok-done.ensures.done in
    let cost : groups_cost plans (runs_in c.as_slice.result.now) groups ≡ list_cost plans list years = ap (λ t. groups_cost plans (runs_in t) groups) c.as_slice.ensures.value ∙ load_cost plans list c.requires.kept items groups are in
    let runs : runs_in c.merged.result.items ≡ merged_runs list done.drafts.items = c.merged.ensures.runs ∙ ap (λ t. merged_runs t.items done.drafts.items) c.replace-olds.ensures.value in
    let both = subst (λ t. AreMergeable plans t.items done.drafts.items) (sym c.replace-olds.ensures.value) (mergeable plans list c.requires.kept items groups are done drafted) in
    record {
      ok = load_done plans list c.requires.kept items groups are done drafted c.merged.result.items runs (c.merged.ensures.kept plans both);
      err = tt;
      counted = omega (arith, cost, c.in_ok-done.ensures.counted);
    }
