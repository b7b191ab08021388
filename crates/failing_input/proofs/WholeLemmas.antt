-- Where the walk passes the whole ranges, they are the only part.
use Rattle.std.proofs.Common.{◌≡◌, List, [], ◌∷◌, refl, sym, subst, arith}
use Rattle.std.proofs.lemmas.List.Elements.{All-nil, All-cons}
use Rattle.scaled_decimal.specs.Decimals.{Decimal}
use Rattle.pap_tree.specs.Flowchart.{Flowchart}
use Rattle.limits_file.specs.declared.limits.Limits.{Limits}
use Rattle.pap_types.specs.Checks.{IsWellTyped}
use Rattle.pap_types.specs.Counts.{IsWithinCounts}
use Rattle.interval_walk.specs.Admission.{HaveLimits}
use Rattle.failing_input.specs.declared.search.Search.{Search}
use Rattle.failing_input.specs.declared.search.Search.TheVariants.{Fails, Safe, NotFound}
use Rattle.failing_input.specs.Searches.{PassesWalk, IsShownSafe, IsSearchAnswer}
use Rattle.failing_input.specs.private.PartViews.{IsOutcome}
use Rattle.failing_input.proofs.PartLemmas.{admitted_same, passed_same, passed_safe}

pub whole_safe : (f : Flowchart) (limits part : Limits) (parts : List Limits) → IsWellTyped f → IsWithinCounts f
    → HaveLimits f limits → PassesWalk f limits → part.inputs ≡ limits.inputs → parts ≡ part ∷ []
    → IsShownSafe f limits parts
whole_safe f limits part parts typed counts h passed e is = subst (IsShownSafe f limits) (sym is) (record {
  are = record {
    cover = λ inputs a. (0, part, omega arith, refl, admitted_same limits part f.inputs inputs (sym e) a);
    passed = All-cons (PassesWalk f) part [] (passed_same f limits part (sym e) passed) (All-nil (PassesWalk f));
    safe = λ inputs a. passed_safe f limits inputs typed counts h passed a;
  };
  whole = λ p. refl;
})

-- what comes of a search in parts of ranges that the walk refuses
pub found_from : (f : Flowchart) (limits : Limits) (s : Search) → ¬ (PassesWalk f limits) → IsOutcome f limits s
    → IsSearchAnswer f limits s
found_from f limits (Fails inputs failure) refused h = h
found_from f limits (Safe parts) refused h = record { are = h; whole = λ p. absurd (refused p) }
found_from f limits (NotFound parts) refused h = record { refused = refused; few = h }
