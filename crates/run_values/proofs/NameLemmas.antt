-- Names by number: the value and the place of a name.
use Rattle.std.proofs.Common.{◌≡◌, ℕ, suc, ◌+◌, ◌<◌, ◌≤◌, true, false, nat_lt, List, [], ◌∷◌, length, set, Some, None, refl, sym, ap, ◌∙◌, arith, cond, inl, inr}
use Rattle.std.specs.Prelude.{slice_get, not, if◌then◌else◌}
use Rattle.std.specs.List.{position_or_len}
use Rattle.std.specs.Str.{bytes_eq}
use Rattle.std.proofs.lemmas.Bool.{cases_lt}
use Rattle.std.proofs.lemmas.Bool.Decides.{nat_tests}
use Rattle.std.proofs.lemmas.List.{set_past}
use Rattle.std.proofs.lemmas.Option.{slice_get_past, none-some}
use Rattle.std.proofs.lemmas.Slice.Eq.{bytes_eq-Decides}
use Rattle.pap_types.specs.Scopes.{number_of}
use Rattle.scaled_decimal.specs.Decimals.{Decimal}
use Rattle.pap_types.specs.Values.{look, put_value}
use Rattle.run_values.specs.NumberedValues.{variables_named}

pub same_either_way : (x y : List ℕ) → bytes_eq x y ≡ bytes_eq y x
same_either_way x y = grind (arith, bytes_eq-Decides)

-- the place of a name among names, which is past the end where it isn't there
abbrev pub place_of : List (List ℕ) → List ℕ → ℕ
place_of names x = position_or_len (bytes_eq x) names

-- the number of a name is its place, within the names
pub number_in : (names : List (List ℕ)) (x : List ℕ) (i : ℕ) → number_of names x ≡ Some i
    → (place_of names x ≡ i) × (i < length names)
number_in names x i e = elim (cases_lt (place_of names x) (length names)) [
  | inl less ↦ (let t : nat_lt (place_of names x) (length names) ≡ true = grind (arith, nat_tests) in
      let here : Some (place_of names x) ≡ Some i = rw t at e in
      let same : place_of names x ≡ i = cc in
      (same, omega arith))
  | inr past ↦ (let t : nat_lt (place_of names x) (length names) ≡ false = grind (arith, nat_tests) in absurd
      (none-some i (rw t at e)))
]

pub number_past : (names : List (List ℕ)) (x : List ℕ) → number_of names x ≡ None → length names ≤ place_of names x
number_past names x e = elim (cases_lt (place_of names x) (length names)) [
  | inl less ↦ (let t : nat_lt (place_of names x) (length names) ≡ true = grind (arith, nat_tests) in absurd
      (none-some (place_of names x) (sym (rw t at e))))
  | inr past ↦ past
]

-- the value of a name stands at its place
named_at : (names : List (List ℕ)) (rs : List Decimal) (x : List ℕ) → length rs ≡ length names
    → look (variables_named names rs) x ≡ slice_get rs (place_of names x)
named_at [] [] x e = refl
named_at [] (r ∷ rs) x e = absurd (omega arith)
named_at (n ∷ ns) [] x e = absurd (omega arith)
named_at (n ∷ ns) (r ∷ rs) x e =
    rw (same_either_way n x)
    (elim (bytes_eq x n) as (λ same. (if same then Some r else look (variables_named ns rs) x) ≡ slice_get (r ∷ rs)
    (cond (not same) (1 + place_of ns x) 0)) [
      | true ↦ refl
      | false ↦ (let more : suc (place_of ns x) ≡ 1 + place_of ns x = omega arith in
          named_at ns rs x (omega arith) ∙ ap (slice_get (r ∷ rs)) more)
    ])

pub named_by : (names : List (List ℕ)) (rs : List Decimal) (x : List ℕ) (i : ℕ) → length rs ≡ length names
    → number_of names x ≡ Some i → look (variables_named names rs) x ≡ slice_get rs i
named_by names rs x i all e = named_at names rs x all ∙ ap (slice_get rs) (number_in names x i e).0

pub named_none : (names : List (List ℕ)) (rs : List Decimal) (x : List ℕ) → length rs ≡ length names
    → number_of names x ≡ None → look (variables_named names rs) x ≡ None
named_none names rs x all e =
    let past = number_past names x e in
    named_at names rs x all ∙ slice_get_past rs (place_of names x) (omega (arith, past, all))

-- so does a new value
put_at : (names : List (List ℕ)) (rs : List Decimal) (x : List ℕ) (a : Decimal) → length rs ≡ length names
    → put_value (variables_named names rs) x a ≡ variables_named names (set rs (place_of names x) a)
put_at [] [] x a e = refl
put_at [] (r ∷ rs) x a e = absurd (omega arith)
put_at (n ∷ ns) [] x a e = absurd (omega arith)
put_at (n ∷ ns) (r ∷ rs) x a e =
    rw (same_either_way n x)
    (elim (bytes_eq x n) as (λ same. (if same then record { name = n; value = a } ∷ variables_named ns rs else record
    { name = n; value = r } ∷ put_value (variables_named ns rs) x a) ≡ variables_named (n ∷ ns)
    (set (r ∷ rs) (cond (not same) (1 + place_of ns x) 0) a)) [
      | true ↦ refl
      | false ↦ (let more : suc (place_of ns x) ≡ 1 + place_of ns x = omega arith in
          ap (λ vs. record { name = n; value = r } ∷ vs) (put_at ns rs x a (omega arith)) ∙ ap
          (λ k. variables_named (n ∷ ns) (set (r ∷ rs) k a)) more)
    ])

pub put_by : (names : List (List ℕ)) (rs : List Decimal) (x : List ℕ) (a : Decimal) (i : ℕ) → length rs ≡ length names
    → number_of names x ≡ Some i → put_value (variables_named names rs) x a ≡ variables_named names (set rs i a)
put_by names rs x a i all e =
    put_at names rs x a all
    ∙ ap (λ k. variables_named names (set rs k a)) (number_in names x i e).0

pub put_none : (names : List (List ℕ)) (rs : List Decimal) (x : List ℕ) (a : Decimal) → length rs ≡ length names
    → number_of names x ≡ None → put_value (variables_named names rs) x a ≡ variables_named names rs
put_none names rs x a all e =
    let past = number_past names x e in
    put_at names rs x a all ∙ ap (variables_named names) (set_past rs (place_of names x) a (omega (arith, past, all)))
