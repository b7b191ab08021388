-- What is written of a search for inputs on which a run of a plan fails.
use Rattle.std.specs.Prelude.{◌≡◌, ◌⊎◌, ℕ, List, ◌++◌, codes, Option, Some, None}
use Rattle.pap_tree.specs.Places.{place_text}
use Rattle.pap_tree.specs.Flowchart.{Flowchart}
use Rattle.limits_file.specs.declared.limits.Limits.{Limits}
use Rattle.checked_run.specs.FailureTexts.{failure_text}
use Rattle.failing_input.specs.declared.failure.Failure.{Failure}
use Rattle.failing_input.specs.declared.failure.Failure.TheVariants.{Node, Output}
use Rattle.failing_input.specs.declared.search.Search.{Search}
use Rattle.failing_input.specs.declared.search.Search.TheVariants.{Fails, Safe, NotFound}
use Rattle.failing_input.specs.Searches.{IsSearchAnswer}
use Rattle.failing_input.specs.SearchTexts.{search_text}
use Rattle.pap_plan.specs.declared.refusal.PlanRefusal.{PlanRefusal}
use Rattle.pap_plan.specs.Acceptance.{HasBindings}
use Rattle.pap_plan.specs.BoundPlans.{IsBeforeRanges}
use Rattle.plain_words.specs.Places.{NamedText}
use Rattle.author_cli.specs.Traced.{IsRefusedAs}

-- what is said of what goes wrong in a run
abbrev pub failure_words : Failure → List ℕ
failure_words (Node p cause) =
    codes "a run on these inputs fails at " ++ (place_text p.method p.stmt p.node ++ (codes ": " ++ failure_text cause))
failure_words (Output name) =
    codes "a run on these inputs ends with an output out of its bound: " ++ name

-- what is said on standard error of what was found; nothing where every input is safe
abbrev pub found_words : Search → Option (List ℕ)
found_words (Fails inputs failure) = Some (failure_words failure)
found_words (Safe parts) = None
found_words (NotFound parts) = Some (codes "no inputs that fail were found, and whether there are any stays open")

-- the text is that of what a search found of a plan with its limits, and these words are said of it
pub record IsFoundText (f : Flowchart) (limits : Limits) (text : List ℕ) (reason : Option (List ℕ)) : Type 0 where
  pub found : Search
  pub is : IsSearchAnswer f limits found
  pub written : text ≡ search_text f limits found
  pub said : reason ≡ found_words found

-- the plan passes all stages of acceptance before the ranges of its values, and the text is that of a search
pub record TellsSearch (plan limits text : List ℕ) (reason : Option (List ℕ)) : Type 0 where
  pub flowchart : Flowchart
  pub ranges : Limits
  pub bound : HasBindings plan limits flowchart ranges
  pub tells : IsFoundText flowchart ranges text reason

-- the plan is refused at one of these stages, and it is told how
pub record IsUnsearched (plan limits : NamedText) (text : List ℕ) (reason : Option (List ℕ)) : Type 0 where
  pub refusal : PlanRefusal
  pub early : IsBeforeRanges refusal
  pub tells : IsRefusedAs refusal plan limits text reason

-- this is the answer of `example` on two files: what a search found, or why there is none
abbrev pub IsExample : (plan limits : NamedText) → List ℕ → Option (List ℕ) → Type 0
IsExample plan limits text reason =
    TellsSearch plan.bytes limits.bytes text reason ⊎ IsUnsearched plan limits text reason
