-- The outputs of one run, sorted by their names.
use Rattle.std.proofs.Common.{◌≡◌, inl, inr, ℕ, List, [], ◌∷◌, map, length, if◌then◌else◌, Option, Some, None, option_map, refl, sym, ap, subst, ◌∙◌, arith}
use Rattle.std.specs.List.{AllByRecursion, IsDistinct, find}
use Rattle.std.specs.List.Sorted.{IsPermutation, IsSortedByKey}
use Rattle.std.specs.Str.{bytes_eq}
use Rattle.std.proofs.lemmas.List.Sorted.{Contains-permutation, IsPermutation-sym, length_permutation}
use Rattle.std.proofs.lemmas.Map.Made.{IsDistinct-from_AllPairs}
use Rattle.std.proofs.lemmas.Map.Text.{is_eq-slice_cmp}
use Rattle.std.proofs.lemmas.Slice.Eq.{bytes_eq-Decides}
use Rattle.limits_file.specs.Limits.{IsWithinBound}
use Rattle.rising_lists.specs.Keyed.{at_key}
use Rattle.rising_lists.proofs.Laws.{In, all_in, at_key_map, contains_of_in, in_of_contains, sorted_by_text}
use Rattle.payroll_records.specs.declared.record.Key.{Key}
use Rattle.payroll_records.specs.declared.values.NamedValue.{NamedValue}
use Rattle.payroll_records.specs.NamedValues.{name_cmp, name_of}
use Rattle.carry_bindings.specs.Carrying.{named}
use Rattle.correction_ledger.specs.declared.due.Due.{Due}
use Rattle.recalc_engine.specs.RowLaws.{HaveNames}
use Rattle.correction_ledger.specs.Accounts.{due_amount}
use Rattle.correction_ledger.specs.private.RowViews.{AreListed, due_for, due_name, dues_of}

-- ---- what stands under a name

find_is : (outputs : List NamedValue) (n : List ℕ) →
    at_key name_cmp name_of outputs n ≡ find (λ v. bytes_eq v.name n) outputs
find_is [] n = refl
find_is (v ∷ vs) n = λ i. if is_eq-slice_cmp v.name n i then Some v else find_is vs n i

amount_of_due : (key : Key) (o : Option NamedValue) →
    option_map due_amount (option_map (due_for key) o) ≡ option_map (λ v. v.value) o
amount_of_due key None = refl
amount_of_due key (Some v) = refl

unsorted_at : (key : Key) (outputs : List NamedValue) (n : List ℕ) →
    option_map due_amount (at_key name_cmp due_name (dues_of key outputs) n) ≡ named n outputs
unsorted_at key outputs n =
    ap (option_map due_amount) (at_key_map name_cmp name_of due_name (due_for key) (λ v. refl) outputs n)
    ∙ amount_of_due key (at_key name_cmp name_of outputs n)
    ∙ ap (option_map (λ (v : NamedValue). v.value)) (find_is outputs n)

-- ---- the whole

in_dues : (P : Due → Type 0) (key : Key) (outputs : List NamedValue) → AllByRecursion (λ v. P (due_for key v)) outputs →
    AllByRecursion P (dues_of key outputs)
in_dues P key [] h = tt
in_dues P key (v ∷ vs) h = (h.0, in_dues P key vs h.1)

each : {X : Type 0} (P : X → Type 0) (xs : List X) → ((x : X) → In xs x → P x) → AllByRecursion P xs
each P [] f = tt
each P (x ∷ xs) f = (f x (inl refl), each P xs (λ y m. f y (inr m)))

all_permuted : (P : Due → Type 0) (xs ys : List Due) → IsPermutation xs ys → AllByRecursion P xs → AllByRecursion P ys
all_permuted P xs ys p h = each P ys (λ d m. all_in P xs d h (in_of_contains xs d (Contains-permutation ys xs d (IsPermutation-sym xs ys p) (contains_of_in ys d m))))

named_keys : (key : Key) (outputs : List NamedValue) → AllByRecursion (λ v. (due_for key v).key ≡ key) outputs
named_keys key [] = tt
named_keys key (v ∷ vs) = (refl, named_keys key vs)

names_of_dues : (key : Key) (outputs : List NamedValue) → map due_name (dues_of key outputs) ≡ map name_of outputs
names_of_dues key [] = refl
names_of_dues key (v ∷ vs) = ap (λ t. v.name ∷ t) (names_of_dues key vs)

empty_of : (ys : List Due) → length ys ≡ 0 → ys ≡ []
empty_of [] e = refl
empty_of (y ∷ ys) e = absurd (omega arith)

pub listed_sorted : (key : Key) (outputs : List NamedValue) (ys : List Due) → HaveNames outputs →
    IsPermutation (dues_of key outputs) ys → IsSortedByKey due_name name_cmp ys → AreListed key outputs ys
listed_sorted key outputs ys named p s =
    let apart = subst (IsDistinct bytes_eq) (sym (names_of_dues key outputs)) (IsDistinct-from_AllPairs bytes_eq-Decides (map name_of outputs) named) in
    let sorted = sorted_by_text due_name (dues_of key outputs) ys apart p s in
    record {
      keyed = all_permuted (λ d. d.key ≡ key) (dues_of key outputs) ys p (in_dues (λ d. d.key ≡ key) key outputs (named_keys key outputs));
      rising = sorted.0;
      at = λ n. ap (option_map due_amount) (sorted.1 n) ∙ unsorted_at key outputs n;
      none = λ e. empty_of ys (length_permutation (dues_of key outputs) ys p ∙ ap (λ l. length (dues_of key l)) e);
      bounded = λ b. all_permuted (λ d. IsWithinBound d.amount) (dues_of key outputs) ys p (in_dues (λ d. IsWithinBound d.amount) key outputs b);
    }
