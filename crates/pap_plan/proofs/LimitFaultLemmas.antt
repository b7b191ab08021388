-- The faults of limits and bindings, one after the other, and the first of all.
use Rattle.std.proofs.Common.{◌≡◌, ℕ, suc, ◌+◌, ◌<◌, ◌≤◌, ◌⊎◌, inl, inr, ◌-◌, ◌^◌, ℤ, pos, neg_ℤ, int_le, int_lt, Bool, true, false, not, cond, ◌||◌, ◌&&◌, List, [], ◌∷◌, ◌++◌, length, map, take, get_or, Option, Some, None, refl, sym, ap, ap₂, subst, ◌∙◌, append_assoc, arith}
use Rattle.std.specs.Prelude.{◌↔◌, ◌==◌, IsTrue, IfSome, MatchOption, filter, slice_get, is_some, nat_le, if◌then◌else◌}
use Rattle.std.specs.List.{All, find}
use Rattle.std.specs.Option.{option_map, option_or, option_map_or}
use Rattle.std.specs.Str.{bytes_eq}
use Rattle.std.proofs.lemmas.Bool.{and_parts, and_from, eqb-true, eq-eqb, leb-true, le-leb, not-true, not-false, false≢true, true≢false}
use Rattle.std.proofs.lemmas.Int.{ints}
use Rattle.std.proofs.lemmas.List.{map-append, map_more, take_more}
use Rattle.std.proofs.lemmas.List.Elements.{All-nil, All-cons, filter-append}
use Rattle.std.proofs.lemmas.Option.{none-some}
use Rattle.std.proofs.lemmas.Slice.Eq.{bytes_eq-Decides}
use Rattle.scaled_decimal.specs.Decimals.{numerator_of}
use Rattle.scaled_decimal.specs.WholeNumbers.{int_bits, long_bits, IsOfBits, is_of_bits}
use Rattle.pap_tree.specs.declared.declaration.Declared.{Declared}
use Rattle.pap_tree.specs.declared.declaration.Kind.{Kind}
use Rattle.pap_tree.specs.declared.declaration.Kind.TheVariants as declares
use Rattle.pap_tree.specs.Declarations.{Declaration, declaration_of}
use Rattle.pap_tree.specs.Flowchart.{Flowchart}
use Rattle.limits_file.specs.declared.limits.InputLimit.{InputLimit}
use Rattle.limits_file.specs.declared.limits.Limits.{Limits}
use Rattle.limits_file.specs.declared.limits.Binding.{Binding}
use Rattle.limits_file.specs.Limits.{IsFactorLimit, limit_named}
use Rattle.pap_types.specs.Scopes.{factor_places, names_of}
use Rattle.pap_types.specs.Kinds.{has_few_places}
use Rattle.pap_types.specs.Checks.{has_name}
use Rattle.interval_walk.specs.Admission.{IsWholeLimit, SuitsLimit}
use Rattle.pap_plan.specs.declared.refusal.PlanRefusal.{PlanRefusal}
use Rattle.pap_plan.specs.declared.refusal.PlanRefusal.TheVariants as refusals
use Rattle.pap_plan.specs.Bindings.{has_limit, is_input, carries_output, is_bound, limit_without_input, unmatched_name, unbound_input, HasSuitedLimit, IsFirstUnsuited, AreMatched, IsUnmatched}
use Rattle.pap_plan.specs.LimitFaults.{is_whole_limit, is_factor_limit, suits_limit, is_unsuited, is_stray, unlimited_faults, nameless_faults, unsuited_faults, stray_faults, limit_faults, TellsSuitedLimits, FaultlessIsMatched, FirstIsUnmatched}
use Rattle.pap_plan.proofs.SuitedLemmas.{IsFirstOf, found_first, never_suited}

-- ---- what is made of the elements that pass a test

module _ {X Y : Type 0} (f : X → Y) (p : X → Bool) where
  abbrev picked : List X → List Y
  picked xs = map f (filter p xs)

  picked_one : (x : X) → picked (x ∷ []) ≡ cond (p x) (f x ∷ []) []
  picked_one x = elim (p x) as (λ b. map f (cond b (x ∷ []) []) ≡ cond b (f x ∷ []) []) [ true ↦ refl | false ↦ refl ]

  -- one element more
  pub told_more : (xs more : List X) (x : X) (passes : Bool) (before now new : List Y) → now ≡ before ++ picked xs
      → new ≡ now ++ cond passes (f x ∷ []) [] → passes ≡ p x → more ≡ xs ++ (x ∷ []) → new ≡ before ++ picked more
  told_more xs more x passes before now new told put test is =
      let own = cond (p x) (f x ∷ []) [] in
      put
      ∙ ap₂ (λ l b. l ++ cond b (f x ∷ []) []) told test
      ∙ append_assoc before (picked xs) own
      ∙ ap (λ l. before ++ l)
      (sym (ap picked is ∙ ap (map f) (filter-append p xs (x ∷ [])) ∙ map-append f (filter p xs) (filter p (x ∷ [])) ∙ ap (λ l. picked xs ++ l) (picked_one x)))

  -- the first that passes
  first_picked : (xs : List X) → slice_get (picked xs) 0 ≡ option_map f (find p xs)
  first_picked [] = refl
  first_picked (x ∷ xs) = elim (p x) as (λ b. slice_get (map f (cond b (x ∷ filter p xs) (filter p xs))) 0 ≡ option_map f (cond b (Some x) (find p xs))) [ true ↦ refl | false ↦ first_picked xs ]

-- the elements before a number, and the one there
pub one_taken : {X : Type 0} (xs : List X) (i : ℕ) (x : X) → i < length xs → x ≡ get_or xs i x → take (i + 1) xs ≡ take i xs ++ (x ∷ [])
one_taken xs i x less is = take_more xs i x less ∙ ap (λ y. take i xs ++ (y ∷ [])) (sym is)

pub one_declared : (ds : List Declared) (i : ℕ) (d : Declared) → i < length ds → d ≡ get_or ds i d
    → map declaration_of (take (i + 1) ds) ≡ map declaration_of (take i ds) ++ (declaration_of d ∷ [])
one_declared ds i d less is = map_more declaration_of ds i d less ∙ ap (λ y. map declaration_of (take i ds) ++ (declaration_of y ∷ [])) (sym is)

-- ---- the test of a limit

of_bits_out : (bits : ℕ) (n : ℤ) → is_of_bits bits n ≡ true → IsOfBits bits n
of_bits_out bits n e =
    let both = and_parts (int_le (neg_ℤ (pos (2 ^ (bits - 1)))) n) (int_lt n (pos (2 ^ (bits - 1)))) e in
    let low = both.0 in
    let high = both.1 in
    record { low = omega (arith, ints); high = omega (arith, ints) }

of_bits_in : (bits : ℕ) (n : ℤ) → IsOfBits bits n → is_of_bits bits n ≡ true
of_bits_in bits n h =
    let low : int_le (neg_ℤ (pos (2 ^ (bits - 1)))) n ≡ true = (let l = h.low in grind (arith, ints)) in
    let high : int_lt n (pos (2 ^ (bits - 1))) ≡ true = (let l = h.high in grind (arith, ints)) in
    rw (low, high) refl

tells_whole : (bits : ℕ) (l : InputLimit) → IsTrue (is_whole_limit bits l) ↔ IsWholeLimit bits l
tells_whole bits l = (
  λ t.
      (let both = and_parts (l.places == 0) (is_of_bits bits (numerator_of l.low) && is_of_bits bits (numerator_of l.high)) t in
      let ends = and_parts (is_of_bits bits (numerator_of l.low)) (is_of_bits bits (numerator_of l.high)) both.1 in
      record {
        places = eqb-true l.places 0 both.0;
        low = of_bits_out bits (numerator_of l.low) ends.0;
        high = of_bits_out bits (numerator_of l.high) ends.1;
      }),
  λ h.
      and_from (l.places == 0) (is_of_bits bits (numerator_of l.low) && is_of_bits bits (numerator_of l.high)) (eq-eqb l.places 0 h.places)
      (and_from (is_of_bits bits (numerator_of l.low)) (is_of_bits bits (numerator_of l.high)) (of_bits_in bits (numerator_of l.low) h.low)
      (of_bits_in bits (numerator_of l.high) h.high)),
)

tells_factor : (l : InputLimit) → IsTrue (is_factor_limit l) ↔ IsFactorLimit l
tells_factor l = (
  λ t.
      (let both = and_parts (nat_le l.places factor_places) (has_few_places l.low && has_few_places l.high) t in
      let ends = and_parts (has_few_places l.low) (has_few_places l.high) both.1 in
      record { places = leb-true l.places factor_places both.0; low = ends.0; high = ends.1 }),
  λ h.
      and_from (nat_le l.places factor_places) (has_few_places l.low && has_few_places l.high) (le-leb l.places factor_places h.places)
      (and_from (has_few_places l.low) (has_few_places l.high) h.low h.high),
)

pub tells_suited : TellsSuitedLimits
tells_suited declares.Int l = tells_whole int_bits l
tells_suited declares.Long l = tells_whole long_bits l
tells_suited declares.Factor l = tells_factor l
tells_suited declares.Big l = (λ t. tt, λ h. refl)
tells_suited declares.Table l = (λ t. tt, λ h. refl)

-- two tests of one fact
same_tests : {P : Type 0} (a b : Bool) → IsTrue a ↔ P → IsTrue b ↔ P → a ≡ b
same_tests true true h k = refl
same_tests false false h k = refl
same_tests true false h k = sym (k.1 (h.0 refl))
same_tests false true h k = h.1 (k.0 refl)

-- the limit of a name was tested
pub unsuited_some : (l : Limits) (d : Declaration) (limit : InputLimit) (suits : Bool) → Some limit ≡ limit_named l d.name → IsTrue suits ↔ SuitsLimit d.kind limit
    → not suits ≡ is_unsuited l d
unsuited_some l d limit suits e h =
    ap not (same_tests suits (suits_limit d.kind limit) h (tells_suited d.kind limit))
    ∙ ap (λ o. option_map_or (λ (i : InputLimit). not (suits_limit d.kind i)) o false) e

pub unsuited_none : (l : Limits) (d : Declaration) → None ≡ limit_named l d.name → false ≡ is_unsuited l d
unsuited_none l d e = ap (λ o. option_map_or (λ (i : InputLimit). not (suits_limit d.kind i)) o false) e

-- ---- an input with a limit has one that suits, or is at fault

suited_from : (l : Limits) (d : Declaration) → has_limit l d.name ≡ true → is_unsuited l d ≡ false → HasSuitedLimit l d
suited_from l d there fits = by_limit (limit_named l d.name) refl there fits
  where
    by_limit : (o : Option InputLimit) → limit_named l d.name ≡ o → is_some o ≡ true → option_map_or (λ (i : InputLimit). not (suits_limit d.kind i)) o false ≡ false
        → HasSuitedLimit l d
    by_limit (Some limit) e t k = record { limit = limit; is = e; suits = (tells_suited d.kind limit).0 (not-false (suits_limit d.kind limit) k) }
    by_limit None e t k = absurd (false≢true t)

never_fits : (l : Limits) (d : Declaration) → is_unsuited l d ≡ true → HasSuitedLimit l d → ⊥
never_fits l d misfits h =
    let same : is_unsuited l d ≡ not (suits_limit d.kind h.limit) = ap (λ o. option_map_or (λ (i : InputLimit). not (suits_limit d.kind i)) o false) h.is in
    let suits : suits_limit d.kind h.limit ≡ true = (tells_suited d.kind h.limit).1 h.suits in
    true≢false (sym misfits ∙ same ∙ ap not suits)

-- ---- the first of a list

found_none : {X : Type 0} (p : X → Bool) (x : X) (xs : List X) → find p (x ∷ xs) ≡ None → (p x ≡ false) × (find p xs ≡ None)
found_none p x xs e = by_test (p x) refl e
  where
    by_test : (t : Bool) → p x ≡ t → cond t (Some x) (find p xs) ≡ None → (p x ≡ false) × (find p xs ≡ None)
    by_test true q k = absurd (none-some x (sym k))
    by_test false q k = (q, k)

some_same : {X : Type 0} (x y : X) → Some x ≡ Some y → x ≡ y
some_same x y e = cc

abbrev lacks_limit : Limits → Declaration → Bool
lacks_limit l d = not (has_limit l d.name)

first_misfit : (l : Limits) (ds : List Declaration) (d : Declaration) → find (lacks_limit l) ds ≡ None → find (is_unsuited l) ds ≡ Some d → IsFirstOf l ds d.name
first_misfit l [] d all found = absurd (none-some d found)
first_misfit l (x ∷ ds) d all found =
    let limited = found_none (lacks_limit l) x ds all in
    by_test (is_unsuited l x) refl (not-false (has_limit l x.name) limited.0) (first_misfit l ds d limited.1) found
  where
    by_test : (t : Bool) → is_unsuited l x ≡ t → has_limit l x.name ≡ true → (find (is_unsuited l) ds ≡ Some d → IsFirstOf l ds d.name)
        → cond t (Some x) (find (is_unsuited l) ds) ≡ Some d → IsFirstOf l (x ∷ ds) d.name
    by_test true e there later k = record {
      before = [];
      input = x;
      after = ds;
      whole = refl;
      suited = All-nil (HasSuitedLimit l);
      unsuited = never_fits l x e;
      named = ap (λ (y : Declaration). y.name) (some_same x d k);
    }
    by_test false e there later k = found_first l x ds d.name (suited_from l x there e) (later k)

all_fit : (l : Limits) (ds : List Declaration) → find (lacks_limit l) ds ≡ None → find (is_unsuited l) ds ≡ None → All (HasSuitedLimit l) ds
all_fit l [] all none = All-nil (HasSuitedLimit l)
all_fit l (d ∷ ds) all none =
    let limited = found_none (lacks_limit l) d ds all in
    let fits = found_none (is_unsuited l) d ds none in
    All-cons (HasSuitedLimit l) d ds (suited_from l d (not-false (has_limit l d.name) limited.0) fits.0) (all_fit l ds limited.1 fits.1)

-- ---- bindings

-- where each input has a limit, a name without a limit isn't an input's
no_input : (l : Limits) (x : List ℕ) (ds : List Declaration) → find (lacks_limit l) ds ≡ None → has_limit l x ≡ false → has_name (names_of ds) x ≡ false
no_input l x [] all none = refl
no_input l x (d ∷ ds) all none =
    let limited = found_none (lacks_limit l) d ds all in
    by_test (bytes_eq x d.name) refl (not-false (has_limit l d.name) limited.0) (no_input l x ds limited.1 none)
  where
    by_test : (t : Bool) → bytes_eq x d.name ≡ t → has_limit l d.name ≡ true → has_name (names_of ds) x ≡ false → (t || has_name (names_of ds) x) ≡ false
    by_test true e there rest = absurd (true≢false (sym there ∙ ap (has_limit l) (sym ((bytes_eq-Decides x d.name).0 e)) ∙ none))
    by_test false e there rest = rest

same_stray : (f : Flowchart) (l : Limits) → find (lacks_limit l) f.inputs ≡ None → (b : Binding) → is_stray f l b ≡ not (is_bound f l b)
same_stray f l all b = by_test (has_limit l b.input) refl
  where
    by_test : (t : Bool) → has_limit l b.input ≡ t
        → (if t then not (carries_output f b.carry) else not (is_input f b.input)) ≡ not (t && carries_output f b.carry)
    by_test true e = refl
    by_test false e = ap not (no_input l b.input f.inputs all e)

same_first : (p q : Binding → Bool) → ((b : Binding) → p b ≡ q b) → (bs : List Binding) → find p bs ≡ find q bs
same_first p q h [] = refl
same_first p q h (b ∷ bs) = ap₂ (λ t o. cond t (Some b) o) (h b) (same_first p q h bs)

-- ---- the first of all

first_append : {X : Type 0} (xs ys : List X) → slice_get (xs ++ ys) 0 ≡ option_or (slice_get xs 0) (slice_get ys 0)
first_append [] ys = refl
first_append (x ∷ xs) ys = refl

module _ (f : Flowchart) (l : Limits) where
  abbrev first_of : Option Declaration → Option InputLimit → Option Declaration → Option Binding → Option PlanRefusal
  first_of unlimited nameless unsuited stray =
      option_or (option_map (λ (d : Declaration). refusals.LimitName d.name) unlimited)
      (option_or (option_map (λ (i : InputLimit). refusals.LimitName i.name) nameless)
      (option_or (option_map (λ (d : Declaration). refusals.LimitKind d.name) unsuited) (option_map (λ (b : Binding). refusals.Bind b.input) stray)))

  abbrev strange : InputLimit → Bool
  strange i = not (is_input f i.name)

  first_is : slice_get (limit_faults f l) 0
      ≡ first_of (find (lacks_limit l) f.inputs) (find strange l.inputs) (find (is_unsuited l) f.inputs) (find (is_stray f l) l.bindings)
  first_is =
      first_append (unlimited_faults l f.inputs) (nameless_faults f l.inputs ++ (unsuited_faults l f.inputs ++ stray_faults f l l.bindings))
      ∙ ap₂ option_or (first_picked (λ (d : Declaration). refusals.LimitName d.name) (lacks_limit l) f.inputs)
      (first_append (nameless_faults f l.inputs) (unsuited_faults l f.inputs ++ stray_faults f l l.bindings)
      ∙ ap₂ option_or (first_picked (λ (i : InputLimit). refusals.LimitName i.name) strange l.inputs)
      (first_append (unsuited_faults l f.inputs) (stray_faults f l l.bindings)
      ∙ ap₂ option_or (first_picked (λ (d : Declaration). refusals.LimitKind d.name) (is_unsuited l) f.inputs)
      (first_picked (λ (b : Binding). refusals.Bind b.input) (is_stray f l) l.bindings)))

  -- the name of the first input without a limit, or of the first limit of no input
  named_by : (u : Option Declaration) (s : Option InputLimit) → find (lacks_limit l) f.inputs ≡ u → find strange l.inputs ≡ s
      → unmatched_name f l ≡ option_or (option_map (λ (d : Declaration). d.name) u) (option_map (λ (i : InputLimit). i.name) s)
  named_by u s e k = ap₂ (λ x y. option_or (option_map (λ (d : Declaration). d.name) x) (option_map (λ (i : InputLimit). i.name) y)) e k

  unbound_by : (b : Option Binding) → find (lacks_limit l) f.inputs ≡ None → find (is_stray f l) l.bindings ≡ b
      → unbound_input f l ≡ option_map (λ (b : Binding). b.input) b
  unbound_by b all e =
      ap (option_map (λ (b : Binding). b.input)) (sym (same_first (is_stray f l) (λ b. not (is_bound f l b)) (same_stray f l all) l.bindings) ∙ e)

  first_unsuited : (name : List ℕ) → IsFirstOf l f.inputs name → IsFirstUnsuited f l name
  first_unsuited name k = record { before = k.before; input = k.input; after = k.after; whole = k.whole; suited = k.suited; unsuited = k.unsuited; named = k.named }

  -- nothing is found, or what is found first is why the limits and bindings are refused
  by_first : (u : Option Declaration) (s : Option InputLimit) (k : Option Declaration) (b : Option Binding)
      → find (lacks_limit l) f.inputs ≡ u → find strange l.inputs ≡ s → find (is_unsuited l) f.inputs ≡ k → find (is_stray f l) l.bindings ≡ b
      → MatchOption (first_of u s k b) (AreMatched f l) (IsUnmatched f l)
  by_first (Some d) s k b eu es ek eb = named_by (Some d) s eu es
  by_first None (Some i) k b eu es ek eb = named_by None (Some i) eu es
  by_first None None (Some d) b eu es ek eb = (named_by None None eu es, first_unsuited d.name (first_misfit l f.inputs d eu ek))
  by_first None None None (Some b) eu es ek eb = (named_by None None eu es, all_fit l f.inputs eu ek, unbound_by (Some b) eu eb)
  by_first None None None None eu es ek eb = record { names = named_by None None eu es; suited = all_fit l f.inputs eu ek; bound = unbound_by None eu eb }

  matched_or_first : MatchOption (slice_get (limit_faults f l) 0) (AreMatched f l) (IsUnmatched f l)
  matched_or_first =
      subst (λ o. MatchOption o (AreMatched f l) (IsUnmatched f l)) (sym first_is)
      (by_first (find (lacks_limit l) f.inputs) (find strange l.inputs) (find (is_unsuited l) f.inputs) (find (is_stray f l) l.bindings) refl refl refl refl)

  never_both : (r : PlanRefusal) → AreMatched f l → IsUnmatched f l r → ⊥
  never_both (refusals.LimitName name) m h = none-some name (sym m.names ∙ h)
  never_both (refusals.LimitKind name) m h = never_suited f l name m.suited h.1
  never_both (refusals.Bind name) m h = none-some name (sym m.bound ∙ h.2)
  never_both (refusals.Read fault) m h = absurd h
  never_both (refusals.Expr spot fault) m h = absurd h
  never_both (refusals.Types fault) m h = absurd h
  never_both (refusals.Order fault) m h = absurd h
  never_both (refusals.Limits fault) m h = absurd h
  never_both (refusals.Range fault) m h = absurd h
  never_both refusals.Memory m h = absurd h

  by_faults : (faults : List PlanRefusal) → MatchOption (slice_get faults 0) (AreMatched f l) (IsUnmatched f l) → AreMatched f l ↔ (faults ≡ [])
  by_faults [] h = (λ m. refl, λ e. h)
  by_faults (r ∷ faults) h = (λ m. absurd (never_both r m h), λ e. absurd (some_none r (ap (λ k. slice_get k 0) e)))
    where
      some_none : (x : PlanRefusal) → Some x ≡ None → ⊥
      some_none x e = none-some x (sym e)

  pub faultless_is_matched : FaultlessIsMatched f l
  faultless_is_matched = by_faults (limit_faults f l) matched_or_first

  first_by : (o : Option PlanRefusal) → MatchOption o (AreMatched f l) (IsUnmatched f l) → IfSome o (IsUnmatched f l)
  first_by None h = tt
  first_by (Some r) h = h

  pub first_is_unmatched : FirstIsUnmatched f l
  first_is_unmatched = first_by (slice_get (limit_faults f l) 0) matched_or_first

-- what four calls append to an empty list
pub four_told : {X : Type 0} (a b c d e p q r s : List X) → a ≡ [] → b ≡ a ++ p → c ≡ b ++ q → d ≡ c ++ r → e ≡ d ++ s → e ≡ p ++ (q ++ (r ++ s))
four_told a b c d e p q r s none one two three last =
    last
    ∙ ap (λ l. l ++ s) (three ∙ ap (λ l. l ++ r) (two ∙ ap (λ l. l ++ q) (one ∙ ap (λ l. l ++ p) none)))
    ∙ append_assoc (p ++ q) r s
    ∙ append_assoc p q (r ++ s)
