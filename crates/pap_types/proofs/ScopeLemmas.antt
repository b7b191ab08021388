-- Declarations by name and by number.
use Rattle.std.proofs.Common.{◌≡◌, ℕ, suc, ◌+◌, true, false, nat_lt, List, [], ◌∷◌, length, Option, Some, None, refl, sym, ap, ◌∙◌, arith, cond, inl, inr}
use Rattle.std.specs.Prelude.{position, slice_get, not, if◌then◌else◌}
use Rattle.std.specs.List.{position_or_len}
use Rattle.std.specs.Option.{option_and_then}
use Rattle.std.specs.Str.{bytes_eq}
use Rattle.std.proofs.lemmas.Bool.{cases_lt}
use Rattle.std.proofs.lemmas.Bool.Decides.{nat_tests}
use Rattle.std.proofs.lemmas.List.{length-map}
use Rattle.std.proofs.lemmas.Option.{slice_get_past}
use Rattle.pap_tree.specs.Declarations.{Declaration}
use Rattle.pap_types.specs.Scopes.{declared_as, names_of}

-- the declaration of a name stands at its place, which is past the end where there is none
found_at : (ds : List Declaration) (x : List ℕ) → slice_get ds (position_or_len (bytes_eq x) (names_of ds)) ≡ declared_as ds x
found_at [] x = refl
found_at (d ∷ ds) x = elim (bytes_eq x d.name) as (λ same. slice_get (d ∷ ds) (cond (not same) (1 + position_or_len (bytes_eq x) (names_of ds)) 0) ≡ (if same then Some d else declared_as ds x)) [
  | true ↦ refl
  | false ↦ (let at = position_or_len (bytes_eq x) (names_of ds) in
      let more : 1 + at ≡ suc at = omega arith in
      ap (slice_get (d ∷ ds)) more ∙ found_at ds x)
]

-- a place within a list is a number of it
within : (ds : List Declaration) (at : ℕ) → option_and_then (slice_get ds) (cond (nat_lt at (length (names_of ds))) (Some at) None) ≡ slice_get ds at
within ds at =
    rw (length-map ds (λ d. d.name)) (elim (cases_lt at (length ds)) [
      | inl less ↦ (let t : nat_lt at (length ds) ≡ true = grind (arith, nat_tests) in rw t refl)
      | inr past ↦ (let t : nat_lt at (length ds) ≡ false = grind (arith, nat_tests) in rw t (sym (slice_get_past ds at past)))
    ])

-- the declaration of a name stands at its number
pub declared_by : (ds : List Declaration) (x : List ℕ) (names : List (List ℕ)) (number : Option ℕ) → names ≡ names_of ds → number ≡ position (bytes_eq x) names → option_and_then (slice_get ds) number ≡ declared_as ds x
declared_by ds x names number e is =
    let at = position_or_len (bytes_eq x) (names_of ds) in
    ap (option_and_then (slice_get ds)) (is ∙ ap (position (bytes_eq x)) e)
    ∙ within ds at
    ∙ found_at ds x
