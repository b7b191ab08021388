-- An entry of an input says one thing.
use Rattle.std.proofs.Common.{◌≡◌, ℕ, ◌<◌, ◌≤◌, List, Option, Some, None, Result, Ok, Err, codes, option_map, pos, negsuc, unsigned_abs, refl, sym, ap, ◌∙◌, subst, arith, ◌⊎◌, inl, inr}
use Rattle.std.specs.Ordering.{is_gt}
use Rattle.std.proofs.lemmas.Bool.{cases_lt, cases_Bool}
use Rattle.toml.specs.Data.{Data, table, string, integer, float, boolean, datetime, array, Members, get_member}
use Rattle.scaled_decimal.specs.Decimals.{Decimal, decimal, numerator_of, scale_of, numerator_at, value_order}
use Rattle.scaled_decimal.specs.Limits.{IsWithinLimit, IsKept, limit, most_places}
use Rattle.scaled_decimal.specs.NumberTexts.{Spells}
use Rattle.scaled_decimal.proofs.Laws.{number_once, number_or_none}
use Rattle.pap_tree.specs.Limits.{most_inputs}
use Rattle.limits_file.specs.declared.limits.InputLimit.{InputLimit}
use Rattle.limits_file.specs.Labels.{label_of}
use Rattle.limits_file.specs.Limits.{HasSoundBounds}
use Rattle.limits_file.specs.Faults.{Fault, too_long, no_toml, bad_key, bad_bound}
use Rattle.limits_file.specs.Entries.{entry_members, failing_key}
use Rattle.limits_file.specs.Inputs.{input_form, IsBound, IsBoundAt, IsLimitOf, GivesNoLimit, InputSays}
use Rattle.limits_file.proofs.WalkLemmas.{SaysOne, SaysSome}

bound_once : (value : Data) (b b' : Decimal) → IsBound value b → IsBound value b' → b ≡ b'
bound_once (integer z) b b' h h' = h ∙ sym h'
bound_once (string text) b b' h h' = number_once text b b' h.0 h'.0
bound_once (float x) b b' h h' = absurd h
bound_once (boolean x) b b' h h' = absurd h
bound_once (datetime x) b b' h h' = absurd h
bound_once (array x) b b' h h' = absurd h
bound_once (table x) b b' h h' = absurd h

pub bound_at_once : (key : List ℕ) (entry : Members) (b b' : Decimal) → IsBoundAt key entry b → IsBoundAt key entry b' → b ≡ b'
bound_at_once key entry b b' h h' =
    let stands = h.stands in
    let stands' = h'.stands in
    let same : h'.value ≡ h.value = cc in
    bound_once h.value b b' h.is (subst (λ v. IsBound v b') same h'.is)

pub same_limit : (l m : InputLimit) → l.name ≡ m.name → l.low ≡ m.low → l.high ≡ m.high → l.places ≡ m.places → l ≡ m
same_limit l m name low high places = λ i. record { name = name i; low = low i; high = high i; places = places i }

pub same_places : (p q : ℕ) (value : Option Data) → value ≡ Some (integer (pos p)) → value ≡ Some (integer (pos q)) → p ≡ q
same_places p q value h h' = cc

pub limit_once : (name : List ℕ) (entry : Members) (l m : InputLimit) → IsLimitOf name entry l → IsLimitOf name entry m → l ≡ m
limit_once name entry l m h h' =
    same_limit l m (h.named ∙ sym h'.named) (bound_at_once _ entry _ _ h.low h'.low) (bound_at_once _ entry _ _ h.high h'.high) (same_places _ _ _ h.places h'.places)

-- one thing

key_once : (name : List ℕ) (value : Data) (label label' : List ℕ) (found : Option (List ℕ)) → option_map label_of found ≡ Some label → option_map label_of found ≡ Some label' → label ≡ label'
key_once name value label label' found h h' = cc

no_key : (label : List ℕ) (found : Option (List ℕ)) → found ≡ None → option_map label_of found ≡ Some label → ⊥
no_key label None e h = cc h
no_key label (Some k) e h = cc e

no_bound : (n : ℕ) (name : List ℕ) (entry : Members) (l : InputLimit) → n < most_inputs → IsLimitOf name entry l → (most_inputs ≤ n) ⊎ GivesNoLimit name entry → ⊥
no_bound n name entry l few h (inl many) = absurd (omega arith)
no_bound n name entry l few h (inr none) = none l h

pub input_once : SaysOne InputSays
input_once n name value (Ok l) (Ok m) h h' = ap Ok (limit_once name (entry_members value) l m h.2 h'.2)
input_once n name value (Ok l) (Err (bad_key k)) h h' = absurd (no_key k _ h.0 h')
input_once n name value (Ok l) (Err (bad_bound k)) h h' = absurd (no_bound n name (entry_members value) l h.1 h.2 h'.2)
input_once n name value (Ok l) (Err too_long) h h' = absurd h'
input_once n name value (Ok l) (Err no_toml) h h' = absurd h'
input_once n name value (Err (bad_key k)) (Ok m) h h' = absurd (no_key k _ h'.0 h)
input_once n name value (Err (bad_key k)) (Err (bad_key k')) h h' = ap (λ x. Err (bad_key x)) (key_once name value k k' _ h h')
input_once n name value (Err (bad_key k)) (Err (bad_bound k')) h h' = absurd (no_key k _ h'.0 h)
input_once n name value (Err (bad_key k)) (Err too_long) h h' = absurd h'
input_once n name value (Err (bad_key k)) (Err no_toml) h h' = absurd h'
input_once n name value (Err (bad_bound k)) (Ok m) h h' = absurd (no_bound n name (entry_members value) m h'.1 h'.2 h.2)
input_once n name value (Err (bad_bound k)) (Err (bad_key k')) h h' = absurd (no_key k' _ h.0 h')
input_once n name value (Err (bad_bound k)) (Err (bad_bound k')) h h' = ap (λ x. Err (bad_bound x)) (h.1 ∙ sym h'.1)
input_once n name value (Err (bad_bound k)) (Err too_long) h h' = absurd h'
input_once n name value (Err (bad_bound k)) (Err no_toml) h h' = absurd h'
input_once n name value (Err too_long) b h h' = absurd h
input_once n name value (Err no_toml) b h h' = absurd h

-- something: it is decided whether an entry gives a limit

Decided : Type 0 → Type 0
Decided P = P ⊎ (P → ⊥)

number_decided : (text : List ℕ) → Decided ((b : Decimal) × (Spells text b × IsKept b))
unfolding Decided
number_decided text = elim (number_or_none text) [
  | inl found ↦ kept found.0 found.1
  | inr none ↦ inr (λ h. none h.0 h.1.0)
] where
  kept : (b : Decimal) → Spells text b → Decided ((b : Decimal) × (Spells text b × IsKept b))
  kept b s = elim (cases_lt limit (unsigned_abs (numerator_of b))) [
    | inl wide ↦ inr (λ h. (let same : h.0 ≡ b = number_once text h.0 b h.1.0 s in let within = subst (λ d. IsWithinLimit (numerator_of d)) same h.1.1.numerator in omega arith))
    | inr within ↦ elim (cases_lt most_places (scale_of b)) [
      | inl many ↦ inr (λ h. (let same : h.0 ≡ b = number_once text h.0 b h.1.0 s in let few = subst (λ d. scale_of d ≤ most_places) same h.1.1.scale in omega arith))
      | inr few ↦ inl (b, (s, record { numerator = within; scale = few }))
    ]
  ]

bound_decided : (value : Data) → Decided ((b : Decimal) × IsBound value b)
unfolding Decided
bound_decided (integer z) = inl (decimal z 0, refl)
bound_decided (string text) = number_decided text
bound_decided (float x) = inr (λ h. h.1)
bound_decided (boolean x) = inr (λ h. h.1)
bound_decided (datetime x) = inr (λ h. h.1)
bound_decided (array x) = inr (λ h. h.1)
bound_decided (table x) = inr (λ h. h.1)

bound_at_decided : (key : List ℕ) (entry : Members) → Decided ((b : Decimal) × IsBoundAt key entry b)
unfolding Decided
bound_at_decided key entry = at (get_member key entry) refl where
  at : (found : Option Data) → get_member key entry ≡ found → Decided ((b : Decimal) × IsBoundAt key entry b)
  at None e = inr (λ h. (let stands = h.1.stands in cc))
  at (Some value) e = elim (bound_decided value) [
    | inl b ↦ inl (b.0, record { value = value; stands = e; is = b.1 })
    | inr none ↦ inr (λ h. (let stands = h.1.stands in let same : h.1.value ≡ value = cc in none (h.0, subst (λ v. IsBound v h.0) same h.1.is)))
  ]

whole_decided : (value : Option Data) → Decided ((p : ℕ) × (value ≡ Some (integer (pos p))))
unfolding Decided
whole_decided (Some (integer (pos p))) = inl (p, refl)
whole_decided (Some (integer (negsuc p))) = inr (λ h. (let e = h.1 in cc))
whole_decided (Some (string x)) = inr (λ h. (let e = h.1 in cc))
whole_decided (Some (float x)) = inr (λ h. (let e = h.1 in cc))
whole_decided (Some (boolean x)) = inr (λ h. (let e = h.1 in cc))
whole_decided (Some (datetime x)) = inr (λ h. (let e = h.1 in cc))
whole_decided (Some (array x)) = inr (λ h. (let e = h.1 in cc))
whole_decided (Some (table x)) = inr (λ h. (let e = h.1 in cc))
whole_decided None = inr (λ h. (let e = h.1 in cc))

le_decided : (a b : ℕ) → Decided (a ≤ b)
unfolding Decided
le_decided a b = elim (cases_lt b a) [ inl more ↦ inr (λ h. omega arith) | inr le ↦ inl le ]

sound_decided : (l : InputLimit) → Decided (HasSoundBounds l)
unfolding Decided
sound_decided l =
    elim (le_decided l.places 30) [
      | inr not ↦ inr (λ h. not h.places)
      | inl places ↦ elim (le_decided (scale_of l.low) l.places) [
        | inr not ↦ inr (λ h. not h.low_places)
        | inl low_places ↦ elim (le_decided (scale_of l.high) l.places) [
          | inr not ↦ inr (λ h. not h.high_places)
          | inl high_places ↦ elim (cases_Bool (is_gt (value_order l.low l.high))) [
            | inl above ↦ inr (λ h. (let ordered = h.ordered in cc))
            | inr ordered ↦ elim (le_decided (unsigned_abs (numerator_at l.places l.low)) limit) [
              | inr not ↦ inr (λ h. not h.low_kept)
              | inl low_kept ↦ elim (le_decided (unsigned_abs (numerator_at l.places l.high)) limit) [
                | inr not ↦ inr (λ h. not h.high_kept)
                | inl high_kept ↦ inl (record { places = places; low_places = low_places; high_places = high_places; ordered = ordered; low_kept = low_kept; high_kept = high_kept })
              ]
            ]
          ]
        ]
      ]
    ]

limit_decided : (name : List ℕ) (entry : Members) → Decided ((l : InputLimit) × IsLimitOf name entry l)
unfolding Decided
limit_decided name entry =
    elim (bound_at_decided (codes "low") entry) [
      | inr none ↦ inr (λ h. none (h.0.low, h.1.low))
      | inl low ↦ elim (bound_at_decided (codes "high") entry) [
        | inr none ↦ inr (λ h. none (h.0.high, h.1.high))
        | inl high ↦ elim (whole_decided (get_member (codes "places") entry)) [
          | inr none ↦ inr (λ h. none (h.0.places, h.1.places))
          | inl places ↦ (let l : InputLimit = record { name = name; low = low.0; high = high.0; places = places.0 } in elim (sound_decided l) [
            | inl sound ↦ inl (l, record { named = refl; low = low.1; high = high.1; places = places.1; sound = sound })
            | inr not ↦ inr (λ h. not (subst HasSoundBounds (same_limit h.0 l h.1.named (bound_at_once _ entry _ _ h.1.low low.1) (bound_at_once _ entry _ _ h.1.high high.1) (same_places _ _ _ h.1.places places.1)) h.1.sound))
          ])
        ]
      ]
    ]

pub input_some : SaysSome InputSays
unfolding Decided
input_some n name value = at (failing_key input_form name value) refl where
  at : (found : Option (List ℕ)) → failing_key input_form name value ≡ found → (a : Result InputLimit Fault) × InputSays n name value a
  at (Some key) e = (Err (bad_key (label_of key)), ap (option_map label_of) e)
  at None e = elim (cases_lt n most_inputs) [
    | inr many ↦ (Err (bad_bound (label_of name)), (e, refl, inl many))
    | inl few ↦ elim (limit_decided name (entry_members value)) [
      | inl found ↦ (Ok found.0, (e, few, found.1))
      | inr none ↦ (Err (bad_bound (label_of name)), (e, refl, inr (λ l h. none (l, h))))
    ]
  ]
