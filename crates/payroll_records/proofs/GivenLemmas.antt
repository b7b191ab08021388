-- Numbers that were put to the places of their names, one by one.
use Rattle.std.proofs.Common.{◌≡◌, ℕ, zero, suc, ◌+◌, ◌<◌, ◌≤◌, List, [], ◌∷◌, ◌++◌, length, take, get_or, set, refl, sym, ap, subst, ◌∙◌, arith}
use Rattle.std.specs.Prelude.{Bool, true, false, None, replicate, map}
use Rattle.std.specs.declared.cmp.Ordering.TheVariants.{Less, Greater}
use Rattle.std.specs.Ordering.{ordering_reverse}
use Rattle.std.specs.Cmp.Lexicographic.{nat_list_cmp_total}
use Rattle.std.proofs.lemmas.Bool.{false≢true}
use Rattle.std.proofs.lemmas.Cmp.{tied_itself}
use Rattle.std.proofs.lemmas.List.{length-map, length-take-le, map-append, take_all, take_more}
use denote.Ref.{Bor}
use Rattle.scaled_decimal.specs.Decimals.{Decimal}
use Rattle.rising_lists.specs.Keyed.{AreAbove, IsRising}
use Rattle.rising_lists.proofs.Laws.{above_all, at_key_above, rising_map}
use Rattle.payroll_records.specs.Tables.{Text}
use Rattle.payroll_records.specs.NamedValues.{name_cmp, name_of, value_at, with_value}
use Rattle.payroll_records.specs.KeptValues.{AreNames, IsKeptAs, named_numbers}
use Rattle.payroll_records.specs.ValueWords.{AreValueWords}
use Rattle.payroll_records.specs.private.GivenViews.{GivesOne, given_values}
use Rattle.payroll_records.specs.declared.values.NamedValue.{NamedValue}
use Rattle.payroll_records.proofs.ValueLemmas.{named_length, names_are}
use Rattle.payroll_records.proofs.ValueWordLemmas.{one_more, value_count}

-- the names that values are kept with
pub names_kept : (names : List Text) (numbers : List Decimal) → IsKeptAs names numbers → AreNames names
names_kept names numbers kept = record {
  rising = subst (IsRising name_cmp (λ n. n)) (names_are names numbers kept.same)
      (rising_map name_cmp name_of (λ n. n) name_of (λ v. refl) (named_numbers names numbers) kept.are.rising);
  few = omega (arith, kept.are.few, kept.same, named_length names numbers kept.same);
}

-- ---- one more number

above_given : (k : Text) (names : List Text) (numbers : List Decimal) (given : List Bool) → AreAbove name_cmp (λ n. n) k names → AreAbove name_cmp name_of k (given_values names numbers given)
above_given k [] numbers given h = tt
above_given k (n ∷ names) [] given h = tt
above_given k (n ∷ names) (x ∷ numbers) [] h = tt
above_given k (n ∷ names) (x ∷ numbers) (true ∷ given) h = (h.0, above_given k names numbers given h.1)
above_given k (n ∷ names) (x ∷ numbers) (false ∷ given) h = above_given k names numbers given h.1

put_first : (v : NamedValue) (values : List NamedValue) → AreAbove name_cmp name_of v.name values → with_value v values ≡ v ∷ values
put_first v [] h = refl
put_first v (w ∷ values) h = rw h.0 refl

put_later : (v w : NamedValue) (values : List NamedValue) → name_cmp w.name v.name ≡ Less → with_value v (w ∷ values) ≡ w ∷ with_value v values
put_later v w values h =
    let back : name_cmp v.name w.name ≡ Greater = nat_list_cmp_total.antisymm v.name w.name ∙ ap ordering_reverse h in
    rw back refl

at_later : (w : NamedValue) (values : List NamedValue) (name : Text) → name_cmp w.name name ≡ Less → value_at (w ∷ values) name ≡ value_at values name
at_later w values name h = rw h refl

-- what one more number makes of the values
pub record IsOneMore (names : List Text) (numbers : List Decimal) (given : List Bool) (place : ℕ) (v : NamedValue) : Type 0 where
  pub is_new : value_at (given_values names numbers given) v.name ≡ None
  pub put : given_values names (set numbers place v.value) (set given place true) ≡ with_value v (given_values names numbers given)

pub one_given : (names : List Text) (numbers : List Decimal) (given : List Bool) (place : ℕ) (v : NamedValue) → IsRising name_cmp (λ n. n) names → place < length names → place < length numbers →
    place < length given → v.name ≡ get_or names place v.name → get_or given place true ≡ false → IsOneMore names numbers given place v
one_given [] numbers given place v up a b c name free = absurd (omega (arith, a))
one_given (n ∷ names) [] given place v up a b c name free = absurd (omega (arith, b))
one_given (n ∷ names) (x ∷ numbers) [] place v up a b c name free = absurd (omega (arith, c))
one_given (n ∷ names) (x ∷ numbers) (true ∷ given) zero v up a b c name free = absurd (false≢true (sym free))
one_given (n ∷ names) (x ∷ numbers) (false ∷ given) zero v up a b c name free =
    let above = subst (λ m. AreAbove name_cmp name_of m (given_values names numbers given)) (sym name) (above_given n names numbers given up.0) in
    record {
      is_new = at_key_above name_cmp nat_list_cmp_total name_of v.name v.name (given_values names numbers given) above (tied_itself nat_list_cmp_total v.name);
      put = ap (λ m. record { name = m; value = v.value } ∷ given_values names numbers given) (sym name) ∙ sym (put_first v (given_values names numbers given) above);
    }
one_given (n ∷ names) (x ∷ numbers) (true ∷ given) (suc i) v up a b c name free =
    let more = one_given names numbers given i v up.1 (omega arith) (omega arith) (omega arith) name free in
    let first : NamedValue = record { name = n; value = x } in
    let below : name_cmp n v.name ≡ Less = subst (λ m. name_cmp n m ≡ Less) (sym name) (above_all name_cmp nat_list_cmp_total (λ m. m) n names i v.name up.0 (omega arith)) in
    record {
      is_new = at_later first (given_values names numbers given) v.name below ∙ more.is_new;
      put = ap (λ t. first ∷ t) more.put ∙ sym (put_later v first (given_values names numbers given) below);
    }
one_given (n ∷ names) (x ∷ numbers) (false ∷ given) (suc i) v up a b c name free =
    let more = one_given names numbers given i v up.1 (omega arith) (omega arith) (omega arith) name free in
    record { is_new = more.is_new; put = more.put }

-- ---- none given, and all

pub none_given : (names : List Text) (numbers : List Decimal) (count : ℕ) → given_values names numbers (replicate count false) ≡ []
none_given [] numbers count = refl
none_given (n ∷ names) [] count = refl
none_given (n ∷ names) (x ∷ numbers) zero = refl
none_given (n ∷ names) (x ∷ numbers) (suc count) = none_given names numbers count

few_given : (names : List Text) (numbers : List Decimal) (given : List Bool) → length (given_values names numbers given) ≤ length names
few_given [] numbers given = omega arith
few_given (n ∷ names) [] given = omega arith
few_given (n ∷ names) (x ∷ numbers) [] = omega arith
few_given (n ∷ names) (x ∷ numbers) (true ∷ given) = omega (arith, few_given names numbers given)
few_given (n ∷ names) (x ∷ numbers) (false ∷ given) = omega (arith, few_given names numbers given)

all_given : (names : List Text) (numbers : List Decimal) (given : List Bool) → length (given_values names numbers given) ≡ length names → given_values names numbers given ≡ named_numbers names numbers
all_given [] numbers given e = refl
all_given (n ∷ names) [] given e = refl
all_given (n ∷ names) (x ∷ numbers) [] e = absurd (omega (arith, e))
all_given (n ∷ names) (x ∷ numbers) (true ∷ given) e = ap (λ t. record { name = n; value = x } ∷ t) (all_given names numbers given (omega (arith, e)))
all_given (n ∷ names) (x ∷ numbers) (false ∷ given) e = absurd (omega (arith, e, few_given names numbers given))

-- one word more
pub word_given : (words : List (Bor Text)) (i : ℕ) (d : Bor Text) (old new : List NamedValue) → i < length words → length words ≤ 256 →
    AreValueWords (map (λ w. w.now) (take i words)) old → GivesOne (get_or words i d).now old new → AreValueWords (map (λ w. w.now) (take (i + 1) words)) new
word_given words i d old new lt few h one =
    let before = map (λ (w : Bor Text). w.now) (take i words) in
    let word = get_or words i d in
    let count = value_count before old h in
    let more = one_more before old word.now one.value h one.is one.is_new (omega (arith, few, lt, count, length-map (take i words) (λ (w : Bor Text). w.now), length-take-le i words (omega (arith, lt)))) in
    let taken : map (λ (w : Bor Text). w.now) (take (i + 1) words) ≡ before ++ word.now ∷ [] =
    ap (map (λ (w : Bor Text). w.now)) (take_more words i d lt) ∙ map-append (λ (w : Bor Text). w.now) (take i words) (word ∷ []) in
    subst (λ ws. AreValueWords ws new) (sym taken) (subst (AreValueWords (before ++ word.now ∷ [])) (sym one.put) more)

-- as many words as there are names
pub record AreGiven (words : List Text) (names : List Text) (numbers : List Decimal) : Type 0 where
  pub kept : IsKeptAs names numbers
  pub read : AreValueWords words (named_numbers names numbers)

pub words_given : (words : List (Bor Text)) (i : ℕ) (names : List Text) (numbers : List Decimal) (given : List Bool) → AreValueWords (map (λ w. w.now) (take i words)) (given_values names numbers given) →
    length words ≤ i → length words ≡ length names → length numbers ≡ length names → AreGiven (map (λ w. w.now) words) names numbers
words_given words i names numbers given h all same long =
    let whole = subst (λ ws. AreValueWords (map (λ w. w.now) ws) (given_values names numbers given)) (take_all i words all) h in
    let count = value_count (map (λ w. w.now) words) (given_values names numbers given) whole in
    let every = all_given names numbers given (omega (arith, count, same, length-map words (λ (w : Bor Text). w.now))) in
    let read = subst (AreValueWords (map (λ w. w.now) words)) every whole in
    record { kept = record { same = sym long; are = read.are }; read = read }
