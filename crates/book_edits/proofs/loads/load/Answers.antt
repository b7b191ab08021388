use Rattle.std.proofs.Common.{◌+◌, length, Err, refl, ap, subst, ◌∙◌, arith}
use Rattle.std.proofs.lemmas.Result.{err_from_is_err_and}
use Rattle.book_year.specs.Accepted.{plans_in}
use Rattle.book_edits.specs.declared.years.Years.{Years}
use Rattle.book_edits.specs.Books.{loaded}
use Rattle.book_edits.specs.Kept.{edit_cost, years_of}
use Rattle.book_edits.specs.Loads.{CanLoad, IsLoadRefused}
use Rattle.book_edits.proofs.LoadLemmas.{in_order, load_edit, refused_before, refused_memory}
use Rattle.book_edits.proofs.loads.load.Goals as goal

pub refused-requires : goal.refused-requires
refused-requires g c = record {
  order = in_order (plans_in c.args.plans.now) c.args.years.now c.requires.years;
  count = c.requires.years.count;
  few = c.requires.years.few;
}

pub load_runs-requires : goal.load_runs-requires
load_runs-requires g c =
    let years = c.requires.years in
    record {
      kept = record { rising = years.rising; each = years.each; some = years.some };
      distinct = c.requires.distinct;
      few = omega (arith, c.in_ok-refused.ensures.ok.room, ap length c.as_slice.ensures.value);
    }

pub returns-in_err-refused : goal.returns-in_err-refused
returns-in_err-refused g c =
    let plans = plans_in c.args.plans.now in
    let years = c.args.years.now in
    let items = c.args.items.items in
    let x = c.in_err-refused.field-0.0 in
    let r = c.from_residual in
    let p = err_from_is_err_and r.result r.ensures.1 in
    let refused = subst (λ t. IsLoadRefused (years_of years) t x) c.as_slice.ensures.value c.in_err-refused.ensures.err in
    refused_before plans years items r.result x c.args.steps.now (edit_cost plans years (loaded items (years_of years))) c.requires.years (p.1 ∙ ap (λ t. Err t) p.2) refused

pub returns-in_err-work : goal.returns-in_err-work
returns-in_err-work g c =
    let plans = plans_in c.args.plans.now in
    let years = c.args.years.now in
    let items = c.args.items.items in
    let new : Years = record { list = c.load_runs.new.list; count = years.count } in
    let r = c.from_residual-in_err-work in
    let p = err_from_is_err_and r.result r.ensures.1 in
    let can = subst (CanLoad (years_of years)) c.as_slice.ensures.value c.in_ok-refused.ensures.ok in
    let counted = c.in_err-work.ensures.counted in
    refused_memory plans years new items r.result c.in_err-work.field-0.0 c.args.steps.now c.load_runs.new.steps (edit_cost plans years (loaded items (years_of years))) c.requires.years (p.1 ∙ ap (λ t. Err t) p.2) c.in_err-work.ensures.err refl can counted.0 counted.1

pub returns : goal.returns
returns g c =
    let plans = plans_in c.args.plans.now in
    let years = c.args.years.now in
    let items = c.args.items.items in
    let new : Years = record { list = c.load_runs.new.list; count = years.count + c.len.result } in
    let can = subst (CanLoad (years_of years)) c.as_slice.ensures.value c.in_ok-refused.ensures.ok in
    record {
      ok = load_edit plans years new items c.in_ok-work.work c.requires.years c.requires.distinct can c.in_ok-work.ensures.ok (omega (arith, c.len.ensures, c.args.items.ok.0));
      can = can;
      err = tt;
      refused = tt;
      counted = c.in_ok-work.ensures.counted;
    }
