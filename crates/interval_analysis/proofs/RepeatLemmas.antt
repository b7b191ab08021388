-- Notes that repeat variables.
use Rattle.std.proofs.Common.{◌≡◌, ◌≢◌, ℕ, zero, suc, ◌+◌, ◌-◌, ◌<◌, ◌≤◌, List, [], ◌∷◌, ◌++◌, length, take, drop, set, get_or, Some, ◌⊎◌, inl, inr, refl, sym, ap, ◌∙◌, subst, arith, append_assoc}
use Rattle.std.specs.Prelude.{slice_get}
use Rattle.std.proofs.lemmas.Bool.{cases_eq}
use Rattle.std.proofs.Math.Seq.{drop-append_seam, take-append_seam, take-append-add, take-length}
use Rattle.std.proofs.lemmas.List.{length-take-le, set-set, take-append-drop, take-append-le, length-append, length-drop, take_more, take_more_set, drop-set-lt, get_or_append_left}
use Rattle.interval_num.specs.Intervals.{Interval}
use Rattle.interval_analysis.specs.declared.branches.Change.{Change}
use Rattle.interval_analysis.specs.declared.variables.Variables.{Variables}
use Rattle.interval_analysis.specs.private.Notes.{AreDistinct, ArePlaced, IsFirst, IsNoted, IsOther, IsRepeated, TakesBackAs, taken_back}
use Rattle.interval_analysis.proofs.ChangeLemmas.{set_there, set_elsewhere}
use Rattle.interval_analysis.proofs.NoteLemmas.{drop_there, length-taken_back, notes_before, set_both, since, taken_back-append, taken_last}

-- ---- what a range is taken back to

-- a note counts whatever range the variable had
noted_over : (rs : List Interval) (cs : List Change) (n : ℕ) (r s : Interval) → set (taken_back (set rs n r) cs) n s ≡ set (taken_back rs cs) n s
noted_over rs [] n r s = set-set rs n r s
noted_over rs (c ∷ cs) n r s = by (noted_over rs cs n r s) (cases_eq c.number n)
  where
    with_r : List Interval
    with_r = taken_back (set rs n r) cs

    without : List Interval
    without = taken_back rs cs

    by : set with_r n s ≡ set without n s → (c.number ≡ n) ⊎ (c.number ≢ n) → set (set with_r c.number c.range) n s ≡ set (set without c.number c.range) n s
    by on (inl same) =
        ap (λ m. set (set with_r m c.range) n s) same
        ∙ set-set with_r n c.range s
        ∙ on
        ∙ sym (set-set without n c.range s)
        ∙ ap (λ m. set (set without m c.range) n s) (sym same)
    by on (inr other) =
        set_both with_r c.number n c.range s (λ same. absurd (other same))
        ∙ ap (λ ys. set ys c.number c.range) on
        ∙ sym (set_both without c.number n c.range s (λ same. absurd (other same)))

pub seen_over : (rs : List Interval) (cs : List Change) (n i : ℕ) (r : Interval) (c : Change) → slice_get cs i ≡ Some c → c.number ≡ n → taken_back (set rs n r) cs ≡ taken_back rs cs
seen_over rs [] n i r c h e = absurd (cc)
seen_over rs (d ∷ cs) n zero r c h e =
    let same : d ≡ c = cc in
    let here : d.number ≡ n = ap (λ x. x.number) same ∙ e in
    ap (λ m. set (taken_back (set rs n r) cs) m d.range) here
    ∙ noted_over rs cs n r d.range
    ∙ ap (λ m. set (taken_back rs cs) m d.range) (sym here)
seen_over rs (d ∷ cs) n (suc i) r c h e = ap (λ ys. set ys d.number d.range) (seen_over rs cs n i r c h e)

-- the range of a variable without a note stays
pub other_stays : (rs : List Interval) (cs : List Change) (n : ℕ) (r : Interval) → IsOther n cs → taken_back (set rs n r) cs ≡ set (taken_back rs cs) n r
other_stays rs [] n r h = refl
other_stays rs (c ∷ cs) n r h =
    ap (λ ys. set ys c.number c.range) (other_stays rs cs n r h.1)
    ∙ set_both (taken_back rs cs) n c.number r c.range (λ same. absurd (h.0 same))

-- ---- places

pub placed_other : (at : ℕ) (places : List ℕ) (cs : List Change) (n p : ℕ) → ArePlaced at places cs → slice_get places n ≡ Some p → ((i : ℕ) (c : Change) → slice_get cs i ≡ Some c → p ≡ at + i → c.number ≢ n) → IsOther n cs
placed_other at places [] n p h is none = tt
placed_other at places (c ∷ cs) n p h is none =
    let first : n ≢ c.number = λ same.
    let there : Some p ≡ Some at = sym is ∙ ap (slice_get places) same ∙ h.0 in
    let equal : p ≡ at = cc in
    none 0 c refl (omega (arith, equal)) (sym same) in
    (first, placed_other (suc at) places cs n p h.1 is (λ i d e q. none (suc i) d e (omega (arith, q))))

pub placed_distinct : (at : ℕ) (places : List ℕ) (cs : List Change) → ArePlaced at places cs → AreDistinct cs
placed_distinct at places [] h = tt
placed_distinct at places (c ∷ cs) h =
    (placed_other (suc at) places cs c.number at h.1 h.0 (λ i d e q. absurd (omega (arith, q))), placed_distinct (suc at) places cs h.1)

-- one more note, of a variable that has none
pub placed_more : (at : ℕ) (places : List ℕ) (cs : List Change) (c : Change) → ArePlaced at places cs → IsOther c.number cs → c.number < length places → ArePlaced at (set places c.number (at + length cs)) (cs ++ (c ∷ []))
placed_more at places [] c h o l = (set_there places c.number (at + 0) l ∙ ap Some (omega arith), tt)
placed_more at places (d ∷ cs) c h o l =
    let same : suc at + length cs ≡ at + suc (length cs) = omega arith in
    let rest : ArePlaced (suc at) (set places c.number (suc at + length cs)) (cs ++ (c ∷ [])) = placed_more (suc at) places cs c h.1 o.1 l in
    (set_elsewhere places c.number d.number (at + suc (length cs)) (λ equal. o.0 (sym equal)) ∙ h.0, subst (λ k. ArePlaced (suc at) (set places c.number k) (cs ++ (c ∷ []))) same rest)

-- ---- turns of the loop that brings first notes to the front

module _ (notes : List Change) (count at : ℕ) (c : Change) (less : at < length notes) (few : count ≤ at) (is : c ≡ get_or notes at c) where
  abbrev pub front : List Change
  front = take count notes

  abbrev pub rest : List Change
  rest = drop (at + 1) notes

  there : drop at notes ≡ c ∷ rest
  there = drop_there notes at c less is

  kept_front : take (count + 1) (set notes count c) ≡ front ++ (c ∷ [])
  kept_front = take_more_set notes count c (omega (arith, less, few))

  pub kept_back : (rs : List Interval) → taken_back rs (take (count + 1) (set notes count c) ++ drop (at + 1) (set notes count c)) ≡ taken_back rs (front ++ drop at notes)
  kept_back rs =
      ap (λ l. taken_back rs (l ++ drop (at + 1) (set notes count c))) kept_front
      ∙ ap (λ l. taken_back rs ((front ++ (c ∷ [])) ++ l)) (drop-set-lt (at + 1) notes count c (omega (arith, few)))
      ∙ ap (taken_back rs) (append_assoc front (c ∷ []) rest)
      ∙ ap (λ l. taken_back rs (front ++ l)) (sym there)

  pub kept_placed : (places : List ℕ) → ArePlaced 0 places front → IsFirst places front c.number → ArePlaced 0 (set places c.number count) (take (count + 1) (set notes count c))
  kept_placed places h k =
      let size = length-take-le count notes (omega (arith, less, few)) in
      let long : 0 + length front ≡ count = omega (arith, size) in
      subst (λ l. ArePlaced 0 (set places c.number count) l) (sym kept_front)
      (subst (λ n. ArePlaced 0 (set places c.number n) (front ++ (c ∷ []))) long (placed_more 0 places front c h k.other k.within))

  pub skipped_back : (places : List ℕ) (rs : List Interval) → length rs ≤ length places → IsRepeated places front c.number → taken_back rs (front ++ rest) ≡ taken_back rs (front ++ drop at notes)
  skipped_back places rs few h =
      let long = length-taken_back rs rest in
      taken_back-append rs front rest
      ∙ sym (h (taken_back rs rest) c.range (omega (arith, few, long)))
      ∙ sym (taken_back-append rs front (c ∷ rest))
      ∙ ap (λ l. taken_back rs (front ++ l)) (sym there)

-- ---- notes of which those behind a mark are replaced by first ones

take_less : (n m : ℕ) (cs : List Change) → n ≤ m → take n (take m cs) ≡ take n cs
take_less zero m cs h = refl
take_less (suc n) zero cs h = absurd (omega (arith, h))
take_less (suc n) (suc m) [] h = refl
take_less (suc n) (suc m) (c ∷ cs) h = ap (λ l. c ∷ l) (take_less n m cs (omega (arith, h)))

-- all that is behind
pub all_behind : (mark : ℕ) (notes : List Change) → take (length notes - mark) (drop mark notes) ≡ drop mark notes
all_behind mark notes = ap (λ n. take n (drop mark notes)) (sym (length-drop mark notes)) ∙ take-length (drop mark notes)

module _ (mark : ℕ) (notes firsts : List Change) (within : mark ≤ length notes) where
  front_long : length (take mark notes) ≡ mark
  front_long = length-take-le mark notes within

  pub first_kept : (count long : ℕ) (after past : List Change) → count ≤ length firsts → mark + count ≤ long → take (mark + count) (take long ((take mark notes ++ (firsts ++ after)) ++ past)) ≡ take mark notes ++ take count firsts
  first_kept count long after past few fits =
      take_less (mark + count) long ((take mark notes ++ (firsts ++ after)) ++ past) fits
      ∙ ap (take (mark + count)) (append_assoc (take mark notes) (firsts ++ after) past ∙ ap (λ l. take mark notes ++ l) (append_assoc firsts after past))
      ∙ ap (λ n. take (n + count) (take mark notes ++ (firsts ++ (after ++ past)))) (sym front_long)
      ∙ take-append-add (take mark notes) (firsts ++ (after ++ past)) count
      ∙ ap (λ l. take mark notes ++ l) (take-append-le count firsts (after ++ past) few)

  pub first_before : (rest : List Change) → take mark (take mark notes ++ rest) ≡ take mark notes
  first_before rest = ap (λ n. take n (take mark notes ++ rest)) (sym front_long) ∙ take-append_seam (take mark notes) rest

  pub first_behind : (rest : List Change) → drop mark (take mark notes ++ rest) ≡ rest
  first_behind rest = ap (λ n. drop n (take mark notes ++ rest)) (sym front_long) ∙ drop-append_seam (take mark notes) rest

  pub first_room : (rest : List Change) → mark ≤ length (take mark notes ++ rest)
  first_room rest = let sum = length-append (take mark notes) rest in let long = front_long in omega (arith, sum, long)

-- ---- since a time

pub noted_longer : (was now : Variables) → IsNoted was now → length was.notes.items ≤ length now.notes.items
noted_longer was now h = longer was.notes.items h.more now.notes.items h.grown
  where
    longer : (xs ys zs : List Change) → zs ≡ xs ++ ys → length xs ≤ length zs
    longer xs ys zs e = subst (λ l. length xs ≤ length l) (sym e) (at_least xs ys)
      where
        at_least : (xs ys : List Change) → length xs ≤ length (xs ++ ys)
        at_least [] ys = omega arith
        at_least (x ∷ xs) ys = let on = at_least xs ys in omega (arith, on)

pub noted_again : (was mid now : Variables) (mark : ℕ) → mark ≡ length was.notes.items → IsNoted was mid → TakesBackAs mark mid now → IsNoted was now
noted_again was mid now mark e h k = record {
  more = drop mark now.notes.items;
  grown = sym (take-append-drop mark now.notes.items) ∙ ap (λ l. l ++ drop mark now.notes.items) (k.before ∙ notes_before was mid mark e h);
  back = k.back ∙ since was mid mark e h;
}

-- a note of before
pub note_before : (was now : Variables) (i : ℕ) (c : Change) → IsNoted was now → i < length was.notes.items → c ≡ get_or now.notes.items i c → c ≡ get_or was.notes.items i c
note_before was now i c h less is = is ∙ ap (λ l. get_or l i c) h.grown ∙ get_or_append_left was.notes.items h.more c i less

-- the last one of some is taken back
pub returned : (rs : List Interval) (mark left : ℕ) (ns : List Change) (c : Change) → left < length ns → mark ≤ left → c ≡ get_or ns left c → taken_back (set rs c.number c.range) (drop mark (take left ns)) ≡ taken_back rs (drop mark (take (left + 1) ns))
returned rs mark left ns c less above is =
    let long : length (take left ns) ≡ left = length-take-le left ns (omega (arith, less)) in
    taken_last rs mark (take (left + 1) ns) (take left ns) c (take_more ns left c less ∙ ap (λ x. take left ns ++ (x ∷ [])) (sym is)) (omega (arith, above, long))
