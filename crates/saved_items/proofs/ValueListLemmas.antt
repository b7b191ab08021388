-- Values that are read one by one, and lists with one more element behind the others.
use Rattle.std.proofs.Common.{◌≡◌, ℕ, zero, suc, ◌+◌, ◌<◌, Bool, List, [], ◌∷◌, ◌++◌, length, take, get_or, map, refl, sym, ap, ◌∙◌, subst, arith}
use Rattle.std.specs.Prelude.{Some, None, IsTrue, MatchBool, if◌then◌else◌}
use Rattle.std.specs.List.{AllByRecursion, slice_get}
use Rattle.std.specs.Cmp.{IsTotalOrder}
use Rattle.std.specs.Ordering.{is_eq, is_lt, ordering_reverse}
use Rattle.std.specs.declared.cmp.Ordering.{Ordering}
use Rattle.std.specs.declared.cmp.Ordering.TheVariants.{Less, Equal, Greater}
use Rattle.std.proofs.lemmas.Cmp.{nat_list_cmp_total}
use Rattle.std.proofs.lemmas.List.{take_more, get_or-map, length-take-le}
use Rattle.std.proofs.Math.ListN.{length-map}
use denote.Ref.{Bor}
use Rattle.scaled_decimal.specs.Decimals.{Decimal}
use Rattle.scaled_decimal.specs.Limits.{IsKept}
use Rattle.pap_tree.specs.Names.{is_name}
use Rattle.rising_lists.specs.Keyed.{IsRising, put_by}
use Rattle.rising_lists.proofs.Laws.{above_all}
use Rattle.payroll_records.specs.NamedValues.{AreValues, name_cmp, name_of, value_at, with_value}
use Rattle.payroll_records.specs.Tables.{Text}
use Rattle.payroll_records.specs.ValueWords.{IsValueWord}
use Rattle.payroll_records.specs.declared.values.NamedValue.{NamedValue}
use Rattle.payroll_records.proofs.Laws.{value_once}
use Rattle.saved_items.specs.private.LineViews.{texts}
use Rattle.saved_items.specs.SavedBooks.{IsValue, value_word}
use Rattle.saved_items.proofs.FrontLemmas.{all_push}
use Rattle.saved_items.proofs.WordLemmas.{value_given}

-- ---- the last key

pub last_above : {K X : Type 0} (cmp : K → K → Ordering) (total : IsTotalOrder cmp) (key : X → K) (xs : List X)
    (n : ℕ) (last : X) (k : K) →
    IsRising cmp key xs → length xs ≡ n + 1 → slice_get xs n ≡ Some last → cmp (key last) k ≡ Less →
    AllByRecursion (λ x. cmp (key x) k ≡ Less) xs
last_above cmp total key [] n last k h l e less = absurd (omega (arith, l))
last_above cmp total key (x ∷ []) zero last k h l e less = (let s : x ≡ last = cc in
    (ap (λ z. cmp (key z) k) s ∙ less, tt))
last_above cmp total key (x ∷ []) (suc n) last k h l e less = absurd (omega (arith, l))
last_above cmp total key (x ∷ y ∷ ys) zero last k h l e less = absurd (omega (arith, l))
last_above cmp total key (x ∷ y ∷ ys) (suc n) last k h l e less =
    let more = last_above cmp total key (y ∷ ys) n last k h.1 (omega (arith, l)) e less in
    (total.trans (key x) (key y) k h.0.0 more.0, more)

pub all_get : {X : Type 0} (P : X → Type 0) (xs : List X) (n : ℕ) (x : X) → AllByRecursion P xs →
    slice_get xs n ≡ Some x → P x
all_get P [] n x h e = cc
all_get P (y ∷ ys) zero x h e = (let s : y ≡ x = cc in subst P s h.0)
all_get P (y ∷ ys) (suc n) x h e = all_get P ys n x h.1 e

pub by_less : (o : Ordering) (b : Bool) (A : Type 0) → b ≡ is_lt o → (o ≡ Less → A) → (A → o ≡ Less) →
    MatchBool b A (A → ⊥)
by_less Less b A e to from = rw e (to refl)
by_less Equal b A e to from = rw e (λ a. let s = from a in cc)
by_less Greater b A e to from = rw e (λ a. let s = from a in cc)

-- ---- values in order

put_last : (xs : List NamedValue) (v : NamedValue) → AllByRecursion (λ x. name_cmp x.name v.name ≡ Less) xs →
    with_value v xs ≡ xs ++ (v ∷ [])
put_last [] v h = refl
put_last (x ∷ xs) v h =
    let back : name_cmp v.name x.name ≡ Greater = nat_list_cmp_total.antisymm v.name x.name ∙ ap ordering_reverse h.0 in
    ap (λ o. put_by o v x xs (with_value v xs)) back ∙ ap (λ t. x ∷ t) (put_last xs v h.1)

absent_last : (xs : List NamedValue) (v : NamedValue) → AllByRecursion (λ x. name_cmp x.name v.name ≡ Less) xs →
    value_at xs v.name ≡ None
absent_last [] v h = refl
absent_last (x ∷ xs) v h = ap (λ o. if is_eq o then Some x else value_at xs v.name) h.0 ∙ absent_last xs v h.1

below_at : (vs : List NamedValue) (i : ℕ) (d : NamedValue) → IsRising name_cmp name_of vs → i < length vs →
    AllByRecursion (λ x. name_cmp x.name (get_or vs i d).name ≡ Less) (take i vs)
below_at vs zero d h lt = tt
below_at [] (suc i) d h lt = absurd (omega (arith, lt))
below_at (x ∷ xs) (suc i) d h lt = (
  above_all name_cmp nat_list_cmp_total name_of x.name xs i d h.0
      (omega (arith, lt)),
  below_at xs i d h.1 (omega (arith, lt)),
)

pub all_at : {X : Type 0} (P : X → Type 0) (xs : List X) (i : ℕ) (d : X) → AllByRecursion P xs → i < length xs →
    P (get_or xs i d)
all_at P [] i d h lt = absurd (omega (arith, lt))
all_at P (x ∷ xs) zero d h lt = h.0
all_at P (x ∷ xs) (suc i) d h lt = all_at P xs i d h.1 (omega (arith, lt))

module _ (words : List (Bor Text)) (i : ℕ) (d : Bor Text) (within : i < length words) (vs : List NamedValue)
    (are : AreValues vs) (each : AllByRecursion IsValue vs) (same : texts words ≡ map value_word vs) where
  within_values : i < length vs
  within_values = (let l = ap length same in omega (
    arith,
    l,
    within,
    length-map words (λ (x : Bor Text). x.now),
    length-map vs value_word,
  ))

  word_of : (u : NamedValue) → (get_or words i d).now ≡ value_word (get_or vs i u)
  word_of u =
      sym (get_or-map (λ (x : Bor Text). x.now) words i d [] within)
      ∙ ap (λ ts. get_or ts i []) same
      ∙ get_or-map value_word vs i u [] within_values

  given_here : (u : NamedValue) → IsValueWord (get_or words i d).now (get_or vs i u)
  given_here u = subst (λ t. IsValueWord t (get_or vs i u)) (sym (word_of u))
      (value_given (get_or vs i u) (all_at IsValue vs i u each within_values))

  -- the word gives a value
  pub some_value : ((v : NamedValue) → ¬ (IsValueWord (get_or words i d).now v)) → ⊥
  some_value none = by vs refl
    where
      by : (us : List NamedValue) → us ≡ vs → ⊥
      by [] e = (let l = ap length e in omega (arith, l, within_values))
      by (u ∷ us) e = none (get_or vs i u) (given_here u)

  module _ (v : NamedValue) (is : IsValueWord (get_or words i d).now v) where
    is_here : v ≡ get_or vs i v
    is_here = value_once (get_or words i d).now v (get_or vs i v) is (given_here v)

    all_below : AllByRecursion (λ x. name_cmp x.name v.name ≡ Less) (take i vs)
    all_below = subst (λ (u : NamedValue). AllByRecursion (λ x. name_cmp x.name u.name ≡ Less) (take i vs))
        (sym is_here) (below_at vs i v are.rising within_values)

    pub is_new : value_at (take i vs) v.name ≡ None
    is_new = absent_last (take i vs) v all_below

    pub put_here : with_value v (take i vs) ≡ take (i + 1) vs
    put_here = put_last (take i vs) v all_below ∙ ap (λ (u : NamedValue). take i vs ++ (u ∷ [])) is_here
        ∙ sym (take_more vs i v within_values)

    pub has_room : length (take i vs) ≡ 256 → ⊥
    has_room e = (let few = are.few in let taken = length-take-le i vs (omega (arith, within_values)) in omega
        (arith, e, few, within_values, taken))

-- ---- the values of a record

pub value_kept : (vs : List NamedValue) (at : ℕ) (name : Text) (number : Decimal) → at < length vs →
    name ≡ get_or (map name_of vs) at name → number ≡ get_or (map (λ v. v.value) vs) at number →
    IsTrue (is_name name) → IsKept number → AllByRecursion IsValue (take at vs) →
    AllByRecursion IsValue (take (at + 1) vs)
value_kept [] at name number lt n x named kept h = absurd (omega (arith, lt))
value_kept (w ∷ ws) at name number lt n x named kept h =
    let vs = w ∷ ws in
    let v = get_or vs at w in
    let called : name ≡ v.name = n ∙ get_or-map name_of vs at w name lt in
    let valued : number ≡ v.value = x ∙ get_or-map (λ (u : NamedValue). u.value) vs at w number lt in
    subst (AllByRecursion IsValue) (sym (take_more vs at w lt))
    (all_push IsValue (take at vs) v h (record {
      named = subst (λ t. IsTrue (is_name t)) called named;
      kept = subst IsKept valued kept;
    }))

pub last_of_map : {X Y : Type 0} (f : X → Y) (xs : List X) (n : ℕ) (x : X) → slice_get xs n ≡ Some x →
    slice_get (map f xs) n ≡ Some (f x)
last_of_map f [] n x e = cc
last_of_map f (y ∷ ys) zero x e = (let s : y ≡ x = cc in ap (λ z. Some (f z)) s)
last_of_map f (y ∷ ys) (suc n) x e = last_of_map f ys n x e
