-- An output stands at the place of its name, and runs with the same names have it at the same place.
use Rattle.std.proofs.Common.{inl, inr, ◌≡◌, ℕ, zero, suc, ◌+◌, ◌<◌, Bool, true, false, not, cond, List, [], ◌∷◌, ◌++◌, length, map, get_or, take, add-one, ◌⊎◌, refl, sym, ap, subst, ◌∙◌, arith}
use Rattle.std.specs.Prelude.{Option, Some, None, option_map, option_and_then, position, find, slice_get, nat_lt}
use Rattle.std.specs.List.{position_or_len}
use Rattle.std.specs.Bool.{OnTrue}
use Rattle.std.specs.Borrow.{Bor}
use Rattle.std.specs.Option.{option_copied}
use Rattle.std.specs.Str.{bytes_eq}
use Rattle.std.proofs.lemmas.Bool.{false≢true}
use Rattle.std.proofs.lemmas.Bool.Decides.{nat_tests}
use Rattle.std.proofs.lemmas.Slice.Eq.{bytes_eq-Decides}
use Rattle.std.proofs.lemmas.List.{length-map, map-append, take_more}
use Rattle.std.proofs.lemmas.List.Folds.{find_at}
use Rattle.std.proofs.lemmas.Option.{slice_get_past, slice_get-get_or}
use Rattle.scaled_decimal.specs.Decimals.{Decimal}
use Rattle.payroll_records.specs.declared.values.NamedValue.{NamedValue}
use Rattle.payroll_records.specs.NamedValues.{name_of}
use Rattle.carry_bindings.specs.declared.carried.Earlier.{Earlier}
use Rattle.carry_bindings.specs.Carrying.{amount_of, named}
use Rattle.carry_bindings.specs.private.OutputViews.{AreAlike, lent_names, names_before, names_in, place_in}

-- ---- the place of a name

module _ {X Y : Type 0} (f : X → Y) (p : Y → Bool) where
  places_or_ends : (xs : List X) → position_or_len p (map f xs) ≡ position_or_len (λ x. p (f x)) xs
  places_or_ends [] = refl
  places_or_ends (x ∷ xs) = ap (λ n. cond (not (p (f x))) (1 + n) 0) (places_or_ends xs)

  position-map : (xs : List X) → position p (map f xs) ≡ position (λ x. p (f x)) xs
  position-map xs =
      ap (λ n. cond (nat_lt n (length (map f xs))) (Some n) None) (places_or_ends xs)
      ∙ ap (λ n. cond (nat_lt (position_or_len (λ x. p (f x)) xs) n) (Some (position_or_len (λ x. p (f x)) xs)) None) (length-map xs f)

-- what stands at the first place is what is found
at_position : {X : Type 0} (p : X → Bool) (xs : List X) → option_and_then (slice_get xs) (position p xs) ≡ find p xs
at_position p xs = by (nat_lt (position_or_len p xs) (length xs)) refl ∙ sym (find_at p xs)
  where
    by : (b : Bool) → nat_lt (position_or_len p xs) (length xs) ≡ b →
        option_and_then (slice_get xs) (cond b (Some (position_or_len p xs)) None) ≡ slice_get xs (position_or_len p xs)
    by true e = refl
    by false e = sym (slice_get_past xs (position_or_len p xs) (grind (arith, nat_tests)))

abbrev value : NamedValue → Decimal
value v = v.value

-- the place of a name among the outputs
pub place_found : (name : List ℕ) (outputs : List NamedValue) → position (λ v. bytes_eq v.name name) outputs ≡ place_in name (Some (map name_of outputs))
place_found name outputs = sym (position-map name_of (λ n. bytes_eq n name) outputs)

pub named_at : (name : List ℕ) (outputs : List NamedValue) (place : Option ℕ) → place ≡ place_in name (Some (map name_of outputs)) →
    option_map value (option_and_then (slice_get outputs) place) ≡ named name outputs
named_at name outputs place e =
    ap (λ p. option_map value (option_and_then (slice_get outputs) p)) (e ∙ sym (place_found name outputs))
    ∙ ap (option_map value) (at_position (λ v. bytes_eq v.name name) outputs)

-- what stands at a place of a run's outputs, where it has some
pub amount_is : (name : List ℕ) (e : Earlier) (outputs : List NamedValue) (place : Option ℕ) (found : Option NamedValue) → Some outputs ≡ e.outputs → place ≡ place_in name (names_in e) →
    option_and_then (slice_get outputs) place ≡ found → option_map value found ≡ amount_of name e
amount_is name e outputs place found are at is =
    ap (option_map value) (sym is) ∙ named_at name outputs place (at ∙ ap (λ o. place_in name (option_map (map name_of) o)) (sym are))
    ∙ ap (λ o. option_and_then (named name) o) are

-- what `get` says
pub beyond : (outputs : List NamedValue) (i : ℕ) → false ≡ nat_lt i (length outputs) → slice_get outputs i ≡ None
beyond outputs i e = slice_get_past outputs i (grind (arith, nat_tests))

pub there : (outputs : List NamedValue) (i : ℕ) (v : NamedValue) → true ≡ nat_lt i (length outputs) → v ≡ get_or outputs i v → slice_get outputs i ≡ Some v
there outputs i v e is = slice_get-get_or outputs i v (grind (arith, nat_tests)) ∙ ap Some (sym is)

-- ---- marks

pub same_by : (b : Bool) (A : Type 0) → OnTrue b A → b ≡ true → A
same_by true A h e = h
same_by false A h e = absurd (false≢true e)

pub no_marks : (earlier : List Earlier) → AreAlike [] earlier
no_marks earlier i e = absurd (cc e)

pushed : (marks : List Bool) (b : Bool) (i : ℕ) → slice_get (marks ++ (b ∷ [])) i ≡ Some true → (slice_get marks i ≡ Some true) ⊎ ((i ≡ length marks) × (b ≡ true))
pushed [] b zero e = inr (refl, cc e)
pushed [] b (suc i) e = absurd (cc e)
pushed (m ∷ marks) b zero e = inl e
pushed (m ∷ marks) b (suc i) e = by (pushed marks b i e)
  where
    by : (slice_get marks i ≡ Some true) ⊎ ((i ≡ length marks) × (b ≡ true)) → (slice_get marks i ≡ Some true) ⊎ ((suc i ≡ suc (length marks)) × (b ≡ true))
    by (inl h) = inl h
    by (inr h) = inr (ap suc h.0, h.1)

pub one_mark_more : (earlier : List Earlier) (marks : List Bool) (b : Bool) (n : ℕ) → length marks ≡ n → AreAlike marks earlier →
    OnTrue b (names_before earlier n ≡ names_before earlier (suc n)) → AreAlike (marks ++ (b ∷ [])) earlier
one_mark_more earlier marks b n count h same i e = by (pushed marks b i e)
  where
    by : (slice_get marks i ≡ Some true) ⊎ ((i ≡ length marks) × (b ≡ true)) → names_before earlier i ≡ names_before earlier (suc i)
    by (inl k) = h i k
    by (inr k) = subst (λ (j : ℕ). names_before earlier j ≡ names_before earlier (suc j)) (sym (k.0 ∙ count)) (same_by b _ same k.1)

-- ---- one run more

module _ (earlier : List Earlier) (i : ℕ) (e : Earlier) (within : i < length earlier) (is : e ≡ get_or earlier i e) where
  names_now : names_before earlier (suc i) ≡ names_in e
  names_now = ap (option_and_then names_in) (slice_get-get_or earlier i e within ∙ ap Some (sym is))

  pub marked_alike : (marks : List Bool) (b : Bool) → AreAlike marks earlier → OnTrue b (slice_get marks i ≡ Some true) →
      OnTrue b (names_before earlier i ≡ names_in e)
  marked_alike marks true h m = h i m ∙ names_now
  marked_alike marks false h m = tt

  -- the names of this run, and where one of them stands, are what the next one follows
  pub names_next : names_in e ≡ names_before earlier (i + 1)
  names_next = rw add-one (sym names_now)

  pub place_next : (name : List ℕ) (place : Option ℕ) → place ≡ place_in name (names_in e) → place ≡ place_in name (names_before earlier (i + 1))
  place_next name place h = h ∙ ap (place_in name) names_next

-- ---- names side by side

pub same_name : (m n : List ℕ) → false ≡ not (bytes_eq m n) → m ≡ n
same_name m n e = (bytes_eq-Decides m n).0 (by (bytes_eq m n) e)
  where
    by : (b : Bool) → false ≡ not b → b ≡ true
    by true e = refl
    by false e = absurd (false≢true e)

pub one_name_more : (vs ws : List NamedValue) (i : ℕ) (v w : NamedValue) → i < length vs → i < length ws → v ≡ get_or vs i v → w ≡ get_or ws i w → v.name ≡ w.name →
    map name_of (take i vs) ≡ map name_of (take i ws) → map name_of (take (i + 1) vs) ≡ map name_of (take (i + 1) ws)
one_name_more vs ws i v w below within is at same h =
    next vs v below is ∙ ap (λ l. l ++ (v.name ∷ [])) h ∙ ap (λ n. map name_of (take i ws) ++ (n ∷ [])) same ∙ sym (next ws w within at)
  where
    next : (us : List NamedValue) (u : NamedValue) → i < length us → u ≡ get_or us i u → map name_of (take (i + 1) us) ≡ map name_of (take i us) ++ (u.name ∷ [])
    next us u up is =
        ap (map name_of) (take_more us i u up) ∙ map-append name_of (take i us) (get_or us i u ∷ [])
        ∙ ap (λ (x : NamedValue). map name_of (take i us) ++ (x.name ∷ [])) (sym is)

-- the names of a run's outputs that are lent
pub lent_is : (e : Earlier) (outputs : Option (Bor (List NamedValue))) → option_copied outputs ≡ e.outputs → lent_names outputs ≡ names_in e
lent_is e outputs h = by outputs ∙ ap (option_map (map name_of)) h
  where
    by : (o : Option (Bor (List NamedValue))) → lent_names o ≡ option_map (map name_of) (option_copied o)
    by None = refl
    by (Some l) = refl
