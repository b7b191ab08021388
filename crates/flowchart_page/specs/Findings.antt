-- What is found of a plan, with a range file or without one.
use Rattle.std.specs.Prelude.{◌≡◌, ℕ, List, [], false, Option, Some, None}
use Rattle.pap_plan.specs.declared.refusal.PlanRefusal.{PlanRefusal}
use Rattle.pap_plan.specs.declared.refusal.PlanRefusal.TheVariants.{LimitName}
use Rattle.pap_plan.specs.Acceptance.{Meaning, IsAccepted, IsRefused}
use Rattle.flowchart_methods.specs.Sites.{NamedStatement, named_statement}
use Rattle.flowchart_page.specs.Verdicts.{lacks_limit}
use Rattle.flowchart_page.specs.Sites.{named_by}

-- what is found of a plan: it is accepted and means this; it is in order as far as can be said without a range file;
-- or it is refused
pub data Finding : Type 0 where
  accepted : Meaning → Finding
  in_order : Finding
  refused : PlanRefusal → Finding

-- this is found of a plan: without a range file it is judged with an empty one, where an input without a limit isn't
-- refused
abbrev pub IsFound : List ℕ → Option (List ℕ) → Finding → Type 0
IsFound plan (Some limits) (accepted m) = IsAccepted plan limits m
IsFound plan (Some limits) in_order = ⊥
IsFound plan (Some limits) (refused r) = IsRefused plan limits r
IsFound plan None (accepted m) = IsAccepted plan [] m
IsFound plan None in_order = (name : List ℕ) × IsRefused plan [] (LimitName name)
IsFound plan None (refused r) = (lacks_limit r ≡ false) × IsRefused plan [] r

-- the statement that is marked: the one that the refusal names, where it names one
abbrev pub marked : Finding → Option NamedStatement
marked (refused r) = named_statement (named_by r)
marked _ = None
