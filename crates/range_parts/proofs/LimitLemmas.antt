-- The range of a declared input.
use Rattle.std.proofs.Common.{◌≡◌, ℕ, List, [], ◌∷◌, map, Bool, true, false, Some, subst, cond}
use Rattle.std.specs.Prelude.{All}
use Rattle.std.specs.List.{find}
use Rattle.std.specs.Str.{bytes_eq}
use Rattle.std.proofs.lemmas.List.Elements.{All-nil, All-cons, All-head, All-tail}
use Rattle.std.proofs.lemmas.Option.{none-some}
use Rattle.pap_tree.specs.declared.declaration.Declared.{Declared}
use Rattle.pap_tree.specs.Declarations.{Declaration, declaration_of}
use Rattle.limits_file.specs.declared.limits.InputLimit.{InputLimit}
use Rattle.limits_file.specs.declared.limits.Limits.{Limits}
use Rattle.limits_file.specs.Limits.{limit_named, HasSoundBounds}
use Rattle.interval_walk.specs.Admission.{HasLimit, SuitsLimit}

-- what is found among elements has what all have
found_has : (P : InputLimit → Type 0) (test : InputLimit → Bool) (ls : List InputLimit) (l : InputLimit) → All P ls
    → find test ls ≡ Some l → P l
found_has P test [] l all e = absurd (none-some l e)
found_has P test (x ∷ ls) l all e =
    by_test (test x) (found_has P test ls l (All-tail P x ls all)) e
  where
    by_test : (t : Bool) → (find test ls ≡ Some l → P l) → cond t (Some x) (find test ls) ≡ Some l → P l
    by_test true later e = let same : x ≡ l = cc in subst P same (All-head P x ls all)
    by_test false later e = later e

pub limit_is : (limits : Limits) (d : Declaration) (l : InputLimit) → All HasSoundBounds limits.inputs
    → limit_named limits d.name ≡ Some l → SuitsLimit d.kind l → HasLimit limits d
limit_is limits d l sound is suits = record {
  limit = l;
  is = is;
  sound = found_has HasSoundBounds (λ m. bytes_eq m.name d.name) limits.inputs l sound is;
  suits = suits;
}

pub found_sound : (limits : Limits) (n : List ℕ) (l : InputLimit) → All HasSoundBounds limits.inputs
    → limit_named limits n ≡ Some l → HasSoundBounds l
found_sound limits n l sound is = found_has HasSoundBounds (λ m. bytes_eq m.name n) limits.inputs l sound is

-- what holds of each declared input holds of all
pub all_declared : (P : Declaration → Type 0) (ds : List Declared) → All (λ d. P (declaration_of d)) ds
    → All P (map declaration_of ds)
all_declared P [] h = All-nil P
all_declared P (d ∷ ds) h =
    All-cons P (declaration_of d) (map declaration_of ds) (All-head (λ d. P (declaration_of d)) d ds h)
    (all_declared P ds (All-tail (λ d. P (declaration_of d)) d ds h))
