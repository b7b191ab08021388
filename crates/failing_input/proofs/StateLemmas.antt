-- What a search knows: the parts that are passed and those that are left hold all inputs.
use Rattle.std.proofs.Common.{◌≡◌, ℕ, zero, suc, ◌<◌, List, [], ◌∷◌, ◌++◌, length, ◌⊎◌, inl, inr, Some, None, refl, sym, ap, ◌∙◌, subst, arith}
use Rattle.std.specs.Prelude.{All, Any}
use Rattle.std.proofs.lemmas.List.Elements.{All-nil, All-cons, All-head, All-tail, All-push, All-append}
use Rattle.scaled_decimal.specs.Decimals.{Decimal}
use Rattle.pap_tree.specs.Flowchart.{Flowchart}
use Rattle.limits_file.specs.declared.limits.Limits.{Limits}
use Rattle.limits_file.specs.Limits.{HasSoundBounds}
use Rattle.pap_types.specs.Checks.{IsWellTyped}
use Rattle.pap_types.specs.Counts.{IsWithinCounts}
use Rattle.interval_walk.specs.Admission.{HaveLimits, AreAdmitted}
use Rattle.range_parts.specs.declared.parts.Parts.{Parts}
use Rattle.range_parts.specs.Parts.{IsRangePart, AreRangeParts}
use Rattle.failing_input.specs.Searches.{PassesWalk, IsWhollySafe, AreSafeParts}
use Rattle.failing_input.specs.private.PartViews.{IsHeldIn, IsSearched, BeginsWith}
use Rattle.failing_input.specs.declared.search.Known.{Known}
use Rattle.failing_input.proofs.PartLemmas.{admitted_same, limits_same, passed_safe}

module _ (f : Flowchart) (inputs : List Decimal) where
  held_left : (xs ys : List Limits) → IsHeldIn f inputs xs → IsHeldIn f inputs (xs ++ ys)
  held_left [] ys h = absurd h
  held_left (x ∷ xs) ys h = elim h [ inl here ↦ inl here | inr more ↦ inr (held_left xs ys more) ]

  held_right : (xs ys : List Limits) → IsHeldIn f inputs ys → IsHeldIn f inputs (xs ++ ys)
  held_right [] ys h = h
  held_right (x ∷ xs) ys h = inr (held_right xs ys h)

  held_cases : (xs : List Limits) (p : Limits) → IsHeldIn f inputs (xs ++ p ∷ [])
      → IsHeldIn f inputs xs ⊎ AreAdmitted f p inputs
  held_cases [] p h = elim h [ inl here ↦ inr here | inr none ↦ absurd none ]
  held_cases (x ∷ xs) p h = elim h [
    | inl here ↦ inl (inl here)
    | inr more ↦ elim (held_cases xs p more) [ inl a ↦ inl (inr a) | inr b ↦ inr b ]
  ]

  held_any : (xs : List Limits) → IsHeldIn f inputs xs → Any (λ p. AreAdmitted f p inputs) xs
  held_any [] h = absurd h
  held_any (x ∷ xs) h = elim h [
    | inl here ↦ (0, x, omega arith, refl, here)
    | inr more ↦ (let rest = held_any xs more in (suc rest.0, rest.1, omega (arith, rest.2), rest.3, rest.4))
  ]

  held_safe : (limits : Limits) (xs : List Limits) → IsWellTyped f → IsWithinCounts f → All (PassesWalk f) xs
      → All (IsRangePart f limits) xs → IsHeldIn f inputs xs → IsWhollySafe f inputs
  held_safe limits [] typed counts passed parts h = absurd h
  held_safe limits (x ∷ xs) typed counts passed parts h = elim h [
    | inl here ↦ passed_safe f x inputs typed counts (All-head (IsRangePart f limits) x xs parts).ranged
        (All-head (PassesWalk f) x xs passed) here
    | inr more ↦ held_safe limits xs typed counts (All-tail (PassesWalk f) x xs passed)
        (All-tail (IsRangePart f limits) x xs parts) more
  ]

-- ---- the search

pub begun : (f : Flowchart) (limits part : Limits) → HaveLimits f limits → All HasSoundBounds limits.inputs
    → part.inputs ≡ limits.inputs → IsSearched f limits [] (part ∷ [])
begun f limits part h sound e = record {
  cover = λ inputs a. inr (inl (admitted_same limits part f.inputs inputs (sym e) a));
  passed = All-nil (PassesWalk f);
  finished = All-nil (IsRangePart f limits);
  parts = All-cons (IsRangePart f limits) part [] (record {
    ranged = limits_same f limits part (sym e) h;
    sound = subst (All HasSoundBounds) (sym e) sound;
    within = λ inputs a. admitted_same part limits f.inputs inputs e a;
  }) (All-nil (IsRangePart f limits));
}

last_of : (f : Flowchart) (limits : Limits) (xs : List Limits) (p : Limits) → All (IsRangePart f limits) (xs ++ p ∷ [])
    → All (IsRangePart f limits) xs × IsRangePart f limits p
last_of f limits [] p h = (All-nil (IsRangePart f limits), All-head (IsRangePart f limits) p [] h)
last_of f limits (x ∷ xs) p h =
    let rest = last_of f limits xs p (All-tail (IsRangePart f limits) x (xs ++ p ∷ []) h) in
    (All-cons (IsRangePart f limits) x xs (All-head (IsRangePart f limits) x (xs ++ p ∷ []) h) rest.0, rest.1)

module _ (f : Flowchart) (limits : Limits) (done others : List Limits) (p : Limits)
    (h : IsSearched f limits done (others ++ p ∷ [])) where
  pub part_of : IsRangePart f limits p
  part_of = (last_of f limits others p h.parts).1

  -- the part is passed
  pub passed_on : PassesWalk f p → IsSearched f limits (done ++ p ∷ []) others
  passed_on passed = record {
    cover = λ inputs a.
        elim (h.cover inputs a) [
          | inl there ↦ inl (held_left f inputs done (p ∷ []) there)
          | inr left ↦ elim (held_cases f inputs others p left) [
            | inl kept ↦ inr kept
            | inr here ↦ inl (held_right f inputs done (p ∷ []) (inl here))
          ]
        ];
    passed = All-push (PassesWalk f) done p h.passed passed;
    finished = All-push (IsRangePart f limits) done p h.finished part_of;
    parts = (last_of f limits others p h.parts).0;
  }

  -- a part of the part is a part
  inner : (q : Limits) → IsRangePart f p q → IsRangePart f limits q
  inner q i = record {
    ranged = i.ranged;
    sound = i.sound;
    within = λ inputs a. part_of.within inputs (i.within inputs a);
  }

  -- the part is split
  pub split_on : (ps : Parts) → AreRangeParts f p ps
      → IsSearched f limits done ((others ++ ps.first ∷ []) ++ ps.second ∷ [])
  split_on ps are = record {
    cover = λ inputs a.
        elim (h.cover inputs a) [
          | inl there ↦ inl there
          | inr left ↦ elim (held_cases f inputs others p left) [
            | inl kept ↦ inr (held_left f inputs (others ++ ps.first ∷ []) (ps.second ∷ [])
                (held_left f inputs others (ps.first ∷ []) kept))
            | inr here ↦ elim (are.cover inputs here) [
              | inl one ↦ inr (held_left f inputs (others ++ ps.first ∷ []) (ps.second ∷ [])
                  (held_right f inputs others (ps.first ∷ []) (inl one)))
              | inr other ↦ inr (held_right f inputs (others ++ ps.first ∷ []) (ps.second ∷ []) (inl other))
            ]
          ]
        ];
    passed = h.passed;
    finished = h.finished;
    parts =
        All-push (IsRangePart f limits) (others ++ ps.first ∷ []) ps.second
        (All-push (IsRangePart f limits) others ps.first (last_of f limits others p h.parts).0 (inner ps.first are.first))
        (inner ps.second are.second);
  }

-- nothing is left: the parts are passed
pub all_safe : (f : Flowchart) (limits : Limits) (done : List Limits) → IsWellTyped f → IsWithinCounts f
    → IsSearched f limits done [] → AreSafeParts f limits done
all_safe f limits done typed counts h =
    let held = λ (inputs : List Decimal) (a : AreAdmitted f limits inputs).
    let within : IsHeldIn f inputs done = elim (h.cover inputs a) [ inl there ↦ there | inr none ↦ absurd none ] in
    within in
    record {
      cover = λ inputs a. held_any f inputs done (held inputs a);
      passed = h.passed;
      safe = λ inputs a. held_safe f inputs limits done typed counts h.passed h.finished (held inputs a);
    }

-- a search begins with the whole ranges
pub started : (f : Flowchart) (limits : Limits) (k : Known) → HaveLimits f limits → All HasSoundBounds limits.inputs
    → BeginsWith limits k → IsSearched f limits k.done.items k.left.items
started f limits k h sound b =
    subst (λ done. IsSearched f limits done k.left.items) (sym b.passed)
    (subst (λ left. IsSearched f limits [] left) (sym b.left) (begun f limits b.part h sound b.same))

-- nothing is left of a list without elements
nothing : (xs : List Limits) → length xs ≡ 0 → xs ≡ []
nothing [] e = refl
nothing (x ∷ xs) e = absurd (omega arith)

pub all_searched : (f : Flowchart) (limits : Limits) (done left : List Limits) → IsWellTyped f → IsWithinCounts f
    → length left ≡ 0 → IsSearched f limits done left → AreSafeParts f limits done
all_searched f limits done left typed counts none h =
    all_safe f limits done typed counts (subst (IsSearched f limits done) (nothing left none) h)

-- the part is put where it belongs
pub put_done : (f : Flowchart) (limits : Limits) (done others : List Limits) (p : Limits)
    → IsSearched f limits done (others ++ p ∷ []) → PassesWalk f p → (done' left' : List Limits)
    → done' ≡ done ++ p ∷ [] → left' ≡ others → IsSearched f limits done' left'
put_done f limits done others p h passed done' left' e g =
    subst (λ d. IsSearched f limits d left') (sym e)
    (subst (λ l. IsSearched f limits (done ++ p ∷ []) l) (sym g) (passed_on f limits done others p h passed))

pub put_split : (f : Flowchart) (limits : Limits) (done others : List Limits) (p : Limits)
    → IsSearched f limits done (others ++ p ∷ []) → (ps : Parts) → AreRangeParts f p ps → (done' left' : List Limits)
    → done' ≡ done → left' ≡ (others ++ ps.first ∷ []) ++ ps.second ∷ [] → IsSearched f limits done' left'
put_split f limits done others p h ps are done' left' e g =
    subst (λ d. IsSearched f limits d left') (sym e)
    (subst (λ l. IsSearched f limits done l) (sym g) (split_on f limits done others p h ps are))
