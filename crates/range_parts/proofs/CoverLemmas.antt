-- Two parts that split the range of an input hold all inputs that the limits admit.
use Rattle.std.proofs.Common.{◌≡◌, ◌≢◌, ℕ, suc, List, [], ◌∷◌, ◌++◌, ◌⊎◌, inl, inr, false, Some, sym, ap, ◌∙◌, subst, arith}
use Rattle.std.specs.Prelude.{All, AllPairs}
use Rattle.std.specs.Str.{bytes_eq}
use Rattle.std.proofs.lemmas.Bool.{cases_Bool}
use Rattle.std.proofs.lemmas.List.Elements.{All-nil, All-cons, All-head, All-tail}
use Rattle.scaled_decimal.specs.Decimals.{Decimal}
use Rattle.pap_tree.specs.Declarations.{Declaration}
use Rattle.limits_file.specs.declared.limits.InputLimit.{InputLimit}
use Rattle.limits_file.specs.declared.limits.Limits.{Limits}
use Rattle.limits_file.specs.Limits.{Fits, limit_named}
use Rattle.pap_types.specs.Scopes.{names_of}
use Rattle.interval_walk.specs.Admission.{FitsAs, AllAdmitted}
use Rattle.range_parts.proofs.NamedLemmas.{AreWith, fits_one, admitted_others, admitted_own, admitted_there, some_limit, eq_true}

differs : (x y : List ℕ) → x ≢ y → bytes_eq x y ≡ false
differs x y apart = elim (cases_Bool (bytes_eq x y)) [
  | inl same ↦ absurd (apart (eq_true x y same))
  | inr other ↦ other
]

-- the first name isn't among the others
not_among : (n : List ℕ) (ds es : List Declaration) → All (λ m. n ≢ m) (names_of (ds ++ es))
    → All (λ d. bytes_eq n d.name ≡ false) ds
not_among n [] es h = All-nil (λ d. bytes_eq n d.name ≡ false)
not_among n (d ∷ ds) es h =
    All-cons (λ d. bytes_eq n d.name ≡ false) d ds
    (differs n d.name (All-head (λ m. n ≢ m) d.name (names_of (ds ++ es)) h))
    (not_among n ds es (All-tail (λ m. n ≢ m) d.name (names_of (ds ++ es)) h))

abbrev pub Distinct : List (List ℕ) → Type 0
Distinct xs = AllPairs (λ x y. x ≢ y) xs

first_apart : (x : List ℕ) (xs : List (List ℕ)) → Distinct (x ∷ xs) → All (λ y. x ≢ y) xs
first_apart x xs h = λ k d lt. h 0 (suc k) d (omega arith) (omega arith)

others_apart : (x : List ℕ) (xs : List (List ℕ)) → Distinct (x ∷ xs) → Distinct xs
others_apart x xs h = λ i j d lt within. h (suc i) (suc j) d (omega arith) (omega arith)

module _ (limits one other : Limits) (x y l : InputLimit) (name : x.name ≡ y.name)
    (is : limit_named limits x.name ≡ Some l) (v_one : AreWith limits one x) (v_other : AreWith limits other y)
    (go : (u : Decimal) → Fits l u → Fits x u ⊎ Fits y u) where
  is_too : limit_named limits y.name ≡ Some l
  is_too = ap (limit_named limits) (sym name) ∙ is

  pub in_parts : (ds es : List Declaration) (vs : List Decimal) → Distinct (names_of (ds ++ es))
      → AllAdmitted limits ds vs → AllAdmitted one ds vs ⊎ AllAdmitted other ds vs
  in_parts [] es [] apart h = inl tt
  in_parts [] es (v ∷ vs) apart h = absurd h
  in_parts (d ∷ ds) es [] apart h = absurd h
  in_parts (d ∷ ds) es (v ∷ vs) apart h = elim (cases_Bool (bytes_eq x.name d.name)) [
    | inl same ↦ (
        let named = eq_true x.name d.name same in
        let rest : All (λ e. bytes_eq d.name e.name ≡ false) ds =
        not_among d.name ds es (first_apart d.name (names_of (ds ++ es)) apart) in
        let mine : h.0.limit ≡ l =
        some_limit h.0.limit l (sym h.0.is ∙ ap (limit_named limits) (sym named) ∙ is) in
        let fits = subst (λ m. FitsAs d.kind m v) mine h.0.admitted.fits in
        elim (fits_one d.kind l x y v go fits) [
          | inl a ↦ inl (
            admitted_own limits one x l v_one is d v named (record { kept = h.0.admitted.kept; fits = a }),
            admitted_others limits one x l v_one is ds vs
                (subst (λ n. All (λ e. bytes_eq n e.name ≡ false) ds) (sym named) rest) h.1,
          )
          | inr b ↦ inr (
            admitted_own limits other y l v_other is_too d v (sym name ∙ named)
                (record { kept = h.0.admitted.kept; fits = b }),
            admitted_others limits other y l v_other is_too ds vs
                (subst (λ n. All (λ e. bytes_eq n e.name ≡ false) ds) (sym named ∙ name) rest) h.1,
          )
        ])
    | inr other_name ↦ elim (in_parts ds es vs (others_apart d.name (names_of (ds ++ es)) apart) h.1) [
      | inl a ↦ inl (admitted_there limits one x l v_one is d v other_name h.0, a)
      | inr b ↦ inr (
        admitted_there limits other y l v_other is_too d v (ap (λ n. bytes_eq n d.name) (sym name) ∙ other_name) h.0,
        b,
      )
    ]
  ]
