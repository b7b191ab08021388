-- The places of names, and what is proposed by them.
use Rattle.std.proofs.Common.{◌≡◌, ℕ, ◌+◌, ◌<◌, ◌⊎◌, inl, inr, Bool, true, false, cond, eqb, List, [], ◌∷◌, ◌++◌, length, get_or, refl, sym, ap, subst, ◌∙◌, arith, map}
use Rattle.std.specs.Prelude.{Option, Some, None, IsSome}
use Rattle.std.specs.Option.{option_or}
use Rattle.std.specs.Str.{bytes_eq}
use Rattle.std.specs.Borrow.{Bor}
use Rattle.std.specs.BTreeMap.{BTreeMap, IsEmpty, is_at}
use Rattle.std.specs.Cmp.Lexicographic.{slice_cmp}
use Rattle.std.specs.Ordering.{nat_cmp}
use Rattle.std.specs.Map.{lookup, update}
use Rattle.std.proofs.lemmas.Bool.Decides.{eqb_tells}
use Rattle.std.proofs.lemmas.List.{get_or-map, get_or_append_left, length-map, length_push}
use Rattle.std.proofs.Math.Seq.{get_or-append_seam}
use Rattle.std.proofs.lemmas.Slice.Eq.{bytes_eq-Decides}
use Rattle.flowchart_comparison.specs.Entries.{compared_text, ArePartners}
use Rattle.flowchart_comparison.specs.Outlines.{TextItem}
use Rattle.flowchart_comparison.specs.Comparisons.{item_names}
use Rattle.flowchart_comparison.specs.private.NameViews.{place_in, ArePlaces, AreGone, ProposesNames, ProposesPartners}

pub item_name : (xs : List TextItem) (i : ℕ) (x : TextItem) → i < length xs → x ≡ get_or xs i x
    → compared_text (item_names xs) i ≡ x.name
item_name xs i x lt is = get_or-map (λ (l : TextItem). l.name) xs i x [] lt ∙ ap (λ (l : TextItem). l.name) (sym is)

true_false : true ≡ false → ⊥
true_false e = cc

some_none : {A : Type 0} (x : A) → Some x ≡ None → ⊥
some_none x e = cc

some_same : (a b : ℕ) → Some a ≡ Some b → a ≡ b
some_same a b e = cc

pub name_count : (items : List TextItem) → length (item_names items) ≡ length items
name_count items = length-map items (λ (x : TextItem). x.name)

pub place_none : (places : BTreeMap (Bor (List ℕ)) ℕ) → IsEmpty places → (text : List ℕ) → place_in places text ≡ None
place_none places empty text = ap (λ es. lookup (is_at (λ (key : Bor (List ℕ)). slice_cmp nat_cmp text key.now)) es) empty

-- ---- the places of names

pub places_none : (names : List (List ℕ)) (places : List ℕ → Option ℕ) → ((name : List ℕ) → places name ≡ None)
    → ArePlaces names 0 places
places_none names places none = record {
  sound = λ name i is. absurd (some_none i (sym is ∙ none name));
  complete = λ i lt. absurd (omega arith);
}

module _ (names : List (List ℕ)) (count : ℕ) (name : List ℕ) (places places' : List ℕ → Option ℕ)
    (at : compared_text names count ≡ name)
    (updated : (q : List ℕ) → places' q ≡ update bytes_eq places name (Some count) q) where
  here : (q : List ℕ) → bytes_eq name q ≡ true → places' q ≡ Some count
  here q is = updated q ∙ ap (λ b. cond b (Some count) (places q)) is

  elsewhere : (q : List ℕ) → bytes_eq name q ≡ false → places' q ≡ places q
  elsewhere q is = updated q ∙ ap (λ b. cond b (Some count) (places q)) is

  more_sound : ArePlaces names count places → (q : List ℕ) (i : ℕ) (b : Bool) → bytes_eq name q ≡ b → places' q ≡ Some i
      → (i < count + 1) × (compared_text names i ≡ q)
  more_sound h q i true is found =
      let same : count ≡ i = some_same count i (sym (here q is) ∙ found) in
      (omega arith, ap (compared_text names) (sym same) ∙ at ∙ (bytes_eq-Decides name q).0 is)
  more_sound h q i false is found =
      let old = h.sound q i (sym (elsewhere q is) ∙ found) in
      let lt = old.0 in
      (omega (arith, lt), old.1)

  more_complete : ArePlaces names count places → (i : ℕ) (b : Bool) → i < count + 1 → bytes_eq name (compared_text names i) ≡ b
      → IsSome (places' (compared_text names i))
  more_complete h i true lt is = subst IsSome (sym (here (compared_text names i) is)) refl
  more_complete h i false lt is =
      subst IsSome (sym (elsewhere (compared_text names i) is)) (h.complete i (earlier (eqb_tells i count)))
    where
      earlier : ((eqb i count ≡ true) × (i ≡ count)) ⊎ ((eqb i count ≡ false) × (i ≡ count → ⊥)) → i < count
      earlier (inl (t, same)) =
          absurd (true_false (sym ((bytes_eq-Decides name (compared_text names i)).1 (sym at ∙ ap (compared_text names) (sym same))) ∙ is))
      earlier (inr (t, other)) = omega (arith, other)

  pub places_more : ArePlaces names count places → ArePlaces names (count + 1) places'
  places_more h = record {
    sound = λ q i found. more_sound h q i (bytes_eq name q) refl found;
    complete = λ i lt. more_complete h i (bytes_eq name (compared_text names i)) lt refl;
  }

-- ---- the places of what is gone

pub gone_none : (old : List (List ℕ)) (names gone : List ℕ → Option ℕ) → ((text : List ℕ) → gone text ≡ None)
    → AreGone old names gone
gone_none old names gone none = λ text i is. absurd (some_none i (sym is ∙ none text))

pub gone_more : (old : List (List ℕ)) (place : ℕ) (text : List ℕ) (names gone gone' : List ℕ → Option ℕ)
    → names (compared_text old place) ≡ None → ((q : List ℕ) → gone' q ≡ update bytes_eq gone text (Some place) q)
    → AreGone old names gone → AreGone old names gone'
gone_more old place text names gone gone' absent updated h = λ q i found. by q i (bytes_eq text q) refl found
  where
    by : (q : List ℕ) (i : ℕ) (b : Bool) → bytes_eq text q ≡ b → gone' q ≡ Some i → names (compared_text old i) ≡ None
    by q i true is found =
        let same : place ≡ i =
        some_same place i (sym (updated q ∙ ap (λ b. cond b (Some place) (gone q)) is) ∙ found) in
        ap (λ k. names (compared_text old k)) (sym same) ∙ absent
    by q i false is found = h q i (sym (updated q ∙ ap (λ b. cond b (Some place) (gone q)) is) ∙ found)

-- ---- what is proposed

some_value : {A : Type 0} (o : Option A) → IsSome o → (x : A) × (o ≡ Some x)
some_value (Some x) is = (x, refl)
some_value None is = absurd cc

module _ (old new : List (List ℕ)) (places : List ℕ → Option ℕ) (are : ArePlaces old (length old) places) where
  found_partner : (i j : ℕ) → ArePartners old new i j → places (compared_text new j) ≡ Some i
  found_partner i j p =
      let some : IsSome (places (compared_text new j)) = subst (λ q. IsSome (places q)) p.same (are.complete i p.old_within) in
      let found = some_value (places (compared_text new j)) some in
      let so = are.sound (compared_text new j) found.0 found.1 in
      found.1 ∙ ap (λ k. Some k) (p.old_once found.0 so.0 so.1)

  found_alone : (i j k : ℕ) → ArePartners old new i j → k < length new → places (compared_text new k) ≡ Some i → k ≡ j
  found_alone i j k p lt is = p.new_once k lt (sym (are.sound (compared_text new k) i is).1 ∙ p.same)

proposed_is : (new : List (List ℕ)) (places : List ℕ → Option ℕ) (proposed : List (Option ℕ)) (k : ℕ) → k < length new
    → proposed ≡ map places new → get_or proposed k None ≡ places (compared_text new k)
proposed_is new places proposed k lt is = ap (λ l. get_or l k None) is ∙ get_or-map places new k [] None lt

pub partners_by_name : (old new : List (List ℕ)) (proposed : List (Option ℕ)) → ProposesNames old new proposed
    → ProposesPartners old new proposed
partners_by_name old new proposed h = record {
  partner = λ i j p. proposed_is new h.places proposed j p.new_within h.each ∙ found_partner old new h.places h.are i j p;
  alone = λ i j k p lt is.
      found_alone old new h.places h.are i j k p lt (sym (proposed_is new h.places proposed k lt h.each) ∙ is);
}

module _ (old new : List (List ℕ)) (names gone : List ℕ → Option ℕ) (named proposed : List (Option ℕ))
    (known : ArePlaces new (length new) names) (are_gone : AreGone old names gone) (by_name : ProposesNames old new named)
    (text : ℕ → List ℕ)
    (each : (k : ℕ) → k < length new → get_or proposed k None ≡ option_or (get_or named k None) (gone (text k))) where
  by : (i j k : ℕ) (o : Option ℕ) → ArePartners old new i j → k < length new → get_or named k None ≡ o
      → get_or proposed k None ≡ Some i → k ≡ j
  by i j k (Some m) p lt is found =
      let first : get_or named k None ≡ Some i =
      is ∙ sym (each k lt ∙ ap (λ o. option_or o (gone (text k))) is) ∙ found in
      (partners_by_name old new named by_name).alone i j k p lt first
  by i j k None p lt is found =
      let from_gone : gone (text k) ≡ Some i = sym (each k lt ∙ ap (λ o. option_or o (gone (text k))) is) ∙ found in
      let absent : names (compared_text new j) ≡ None = ap names (sym p.same) ∙ are_gone (text k) i from_gone in
      let there = some_value (names (compared_text new j)) (known.complete j p.new_within) in
      absurd (some_none there.0 (sym there.1 ∙ absent))

  pub partners_or_gone : ProposesPartners old new proposed
  partners_or_gone = record {
    partner = λ i j p.
        each j p.new_within
        ∙ ap (λ o. option_or o (gone (text j))) ((partners_by_name old new named by_name).partner i j p);
    alone = λ i j k p lt is. by i j k (get_or named k None) p lt refl is;
  }

-- ---- the code's steps

mapped_names : (places : List ℕ → Option ℕ) (items : List TextItem) → map places (item_names items) ≡ map (λ (x : TextItem). places x.name) items
mapped_names places [] = refl
mapped_names places (x ∷ items) = ap (λ l. places x.name ∷ l) (mapped_names places items)

pub places_all : (items : List TextItem) (places : List ℕ → Option ℕ) → ArePlaces (item_names items) (length items) places
    → ArePlaces (item_names items) (length (item_names items)) places
places_all items places h = subst (λ n. ArePlaces (item_names items) n places) (sym (name_count items)) h

pub proposed_names : (old new : List TextItem) (places : List ℕ → Option ℕ) (proposed : List (Option ℕ))
    → ArePlaces (item_names old) (length old) places → proposed ≡ map (λ (x : TextItem). places x.name) new
    → ProposesNames (item_names old) (item_names new) proposed
proposed_names old new places proposed h is = record {
  places = places;
  are = places_all old places h;
  each = is ∙ sym (mapped_names places new);
}

pub each_more : (named proposed proposed' : List (Option ℕ)) (gone : List ℕ → Option ℕ) (text : ℕ → List ℕ) (place : ℕ) (p : Option ℕ)
    → length proposed ≡ place
    → ((k : ℕ) → k < place → get_or proposed k None ≡ option_or (get_or named k None) (gone (text k)))
    → p ≡ option_or (get_or named place None) (gone (text place)) → proposed' ≡ proposed ++ (p ∷ [])
    → (k : ℕ) → k < place + 1 → get_or proposed' k None ≡ option_or (get_or named k None) (gone (text k))
each_more named proposed proposed' gone text place p many each is more k lt = by (eqb_tells k place)
  where
    by : ((eqb k place ≡ true) × (k ≡ place)) ⊎ ((eqb k place ≡ false) × (k ≡ place → ⊥))
        → get_or proposed' k None ≡ option_or (get_or named k None) (gone (text k))
    by (inl (t, same)) =
        subst (λ n. get_or proposed' n None ≡ option_or (get_or named n None) (gone (text n))) (sym same)
        (ap (λ l. get_or l place None) more
        ∙ subst (λ n. get_or (proposed ++ (p ∷ [])) n None ≡ p) many (get_or-append_seam proposed p [] None)
        ∙ is)
    by (inr (t, other)) =
        ap (λ l. get_or l k None) more ∙ get_or_append_left proposed (p ∷ []) None k (omega (arith, other, many))
        ∙ each k (omega (arith, other))

pub many_more : (proposed proposed' : List (Option ℕ)) (place : ℕ) (p : Option ℕ) → length proposed ≡ place
    → proposed' ≡ proposed ++ (p ∷ []) → length proposed' ≡ place + 1
many_more proposed proposed' place p many more =
    let one = length_push proposed p in
    let same = ap (λ (l : List (Option ℕ)). length l) more in
    omega (arith, many, one, same)
