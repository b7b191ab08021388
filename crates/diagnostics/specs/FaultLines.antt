-- Lines that tell several faults.
use Rattle.std.specs.Prelude.{◌≡◌, ℕ, ◌-◌, nat_lt, if◌then◌else◌, List, [], ◌∷◌, ◌++◌, codes, length, take}
use Rattle.std.specs.List.{flat_map, AllZip}
use Rattle.std.specs.Fmt.{decimal}
use Rattle.pap_plan.specs.declared.refusal.PlanRefusal.{PlanRefusal}
use Rattle.range_faults.specs.declared.fault.EntryFault.{EntryFault}
use Rattle.plain_words.specs.declared.state.RunReason.{RunReason}
use Rattle.plain_words.specs.Lines.{IsOneLine}
use Rattle.plain_words.specs.Places.{PlanFiles}
use Rattle.plain_words.specs.Refusals.{BeginsAtRefusal}
use Rattle.plain_words.specs.EntryTexts.{BeginsAtEntry}
use Rattle.plain_words.specs.States.{SaysState}

-- so many faults are told, each in a line
abbrev pub most_told : ℕ
most_told = 20

-- these words, each as a line
abbrev pub lines_with : List (List ℕ) → List ℕ
lines_with words = flat_map (λ w. w ++ 10 ∷ []) words

-- the line of how many faults aren't told, where there are any: papcalc: and N more
abbrev pub more_line : ℕ → List ℕ
more_line more = if nat_lt 0 more then codes "papcalc: and " ++ (decimal more ++ (codes " more" ++ 10 ∷ [])) else []

-- the text tells these faults in their order: the first 20 each in a line of such words, and then how many more there are
pub record TellsEach {A : Type 0} (Says : A → List ℕ → Type 0) (faults : List A) (text : List ℕ) : Type 0 where
  pub words : List (List ℕ)
  pub says : AllZip Says (take most_told faults) words
  pub is : text ≡ lines_with words ++ more_line (length faults - most_told)

-- the words say in one line why the plan of these files is refused
pub record IsPlanLine (files : PlanFiles) (refusal : PlanRefusal) (words : List ℕ) : Type 0 where
  pub line : IsOneLine words
  pub begins : BeginsAtRefusal files refusal words

-- the words say in one line, which begins with the fault's place in the range file, what is wrong with what the fault names
pub record IsEntryLine (files : PlanFiles) (fault : EntryFault) (words : List ℕ) : Type 0 where
  pub line : IsOneLine words
  pub begins : BeginsAtEntry files fault words

-- the words say in one line why a run of these files' plan has no inputs
pub record IsStateLine (files : PlanFiles) (reason : RunReason) (words : List ℕ) : Type 0 where
  pub line : IsOneLine words
  pub begins : SaysState files reason words
