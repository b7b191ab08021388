-- Value words as fields.
use Rattle.std.proofs.Common.{◌≡◌, ◌≢◌, ℕ, zero, suc, ◌+◌, ◌<◌, ◌≤◌, List, [], ◌∷◌, ◌++◌, length, take, drop, get_or, sym, ap, ◌∙◌, subst, arith, append_assoc, length-append, add-one}
use Rattle.std.specs.Prelude.{Option, IsSome, IsNone}
use Rattle.std.specs.List.{All, AllByRecursion, AllPairs, AllZip}
use Rattle.std.proofs.Math.Seq.{get_or-append_seam, drop-cons}
use Rattle.std.proofs.lemmas.List.{append-nil, get_or_append_left, get_or_default, length-map, length-take-le, map-append, take_more, take-append-drop}
use Rattle.std.proofs.lemmas.Slice.Zip.{all_zipped_more}
use denote.Ref.{Bor}
use Rattle.payroll_records.specs.NamedValues.{value_at, with_value}
use Rattle.payroll_records.specs.Tables.{Text}
use Rattle.payroll_records.specs.ValueWords.{IsValueWord, AreValueWords}
use Rattle.payroll_records.specs.declared.values.NamedValue.{NamedValue}
use Rattle.payroll_records.proofs.Laws.{cut_before, given_apart, inserted, no_words, none_of_differ, one_more, value_count}
use Rattle.script_lang.specs.Fields.{IsGood, value, new_name, name_in, value_fields}
use Rattle.script_lang.specs.Lines.{IsFirstFault}
use Rattle.script_lang.specs.private.Views.{texts}
use Rattle.script_lang.specs.declared.fault.LineFault.TheVariants as fault
use Rattle.script_lang.proofs.FieldLemmas.{first_here, first_later, first_behind}

pub fields_append : (before xs ys : List Text) → value_fields before (xs ++ ys) ≡ value_fields before xs ++ value_fields (before ++ xs) ys
fields_append before [] ys = ap (λ b. value_fields b ys) (sym (append-nil before))
fields_append before (x ∷ xs) ys =
    ap (λ fs. value (length before + 5) x ∷ new_name before x ∷ fs)
    (fields_append (before ++ (x ∷ [])) xs ys
    ∙ ap (λ b. value_fields (before ++ (x ∷ [])) xs ++ value_fields b ys) (append_assoc before (x ∷ []) xs))

abbrev Apart : NamedValue → NamedValue → Type 0
Apart v w = v.name ≢ w.name

-- no word before has the name of a word, where no value before has its value's name
pub names_apart : (before : List Text) (given : List NamedValue) (word : Text) (v : NamedValue) → AllZip IsValueWord before given → IsValueWord word v →
    All (λ w. w.name ≢ v.name) given → AllByRecursion (λ other. name_in other ≢ name_in word) before
names_apart [] [] word v h is differ = tt
names_apart [] (x ∷ xs) word v h is differ = absurd h
names_apart (w ∷ ws) [] word v h is differ = absurd h
names_apart (w ∷ ws) (x ∷ xs) word v h is differ = (
  (λ e. differ 0 x (omega arith) (sym (cut_before w x h.0) ∙ e ∙ cut_before word v is)),
  names_apart ws xs word v h.1 is (λ k d l. differ (suc k) d (omega arith)),
)

pub names_differ : (before : List Text) (given : List NamedValue) (word : Text) (v : NamedValue) → AllZip IsValueWord before given → IsValueWord word v →
    AllByRecursion (λ other. name_in other ≢ name_in word) before → All (λ w. w.name ≢ v.name) given
names_differ [] [] word v h is apart k d l e = omega (arith, l)
names_differ [] (x ∷ xs) word v h is apart k d l e = absurd h
names_differ (w ∷ ws) [] word v h is apart k d l e = absurd h
names_differ (w ∷ ws) (x ∷ xs) word v h is apart zero d l e = apart.0 (cut_before w x h.0 ∙ e ∙ sym (cut_before word v is))
names_differ (w ∷ ws) (x ∷ xs) word v h is apart (suc k) d l e = names_differ ws xs word v h.1 is apart.1 k d (omega arith) e

-- a value differs from those before it
differ_before : (gb g : List NamedValue) (v : NamedValue) → AllPairs Apart (gb ++ (v ∷ g)) → All (λ w. w.name ≢ v.name) gb
differ_before gb g v distinct k d l e =
    distinct k (length gb) d l (omega (arith, length-append gb (v ∷ g)))
    (ap (λ x. x.name) (get_or_append_left gb (v ∷ g) d k l) ∙ e ∙ ap (λ x. x.name) (sym (get_or-append_seam gb v g d)))

-- words that give values of different names are good
pub values_good : (before ws : List Text) (gb g : List NamedValue) → AllZip IsValueWord before gb → AllZip IsValueWord ws g → AllPairs Apart (gb ++ g) → AllByRecursion IsGood (value_fields before ws)
values_good before [] gb g h k distinct = tt
values_good before (w ∷ ws) gb [] h k distinct = absurd k
values_good before (w ∷ ws) gb (v ∷ g) h k distinct = (
  (v, k.0),
  (
    names_apart before gb w v h k.0 (differ_before gb g v distinct),
    values_good (before ++ (w ∷ [])) ws (gb ++ (v ∷ [])) g (all_zipped_more IsValueWord before gb w v h k.0) k.1 (subst (AllPairs Apart) (sym (append_assoc gb (v ∷ []) g)) distinct),
  ),
)

pub words_good : (ws : List Text) (values : List NamedValue) → AreValueWords ws values → AllByRecursion IsGood (value_fields [] ws)
words_good ws values h = values_good [] ws [] h.given tt h.give (given_apart ws values h)

-- and good words give values of different names
values_given : (before ws : List Text) (sorted : List NamedValue) → AreValueWords before sorted → length before + length ws ≤ 256 → AllByRecursion IsGood (value_fields before ws) →
    (values : List NamedValue) × AreValueWords (before ++ ws) values
values_given before [] sorted h few good = (sorted, subst (λ words. AreValueWords words sorted) (sym (append-nil before)) h)
values_given before (w ∷ ws) sorted h few good =
    let v = good.0.0 in
    let is = good.0.1 in
    let new = none_of_differ before sorted v.name h (names_differ before h.given w v h.give is good.1.0) in
    let longer = one_more before sorted w v h is new (omega (arith, few, value_count before sorted h)) in
    let more = values_given (before ++ (w ∷ [])) ws (with_value v sorted) longer (omega (arith, few, length-append before (w ∷ []))) good.1.1 in
    (more.0, subst (λ words. AreValueWords words more.0) (append_assoc before (w ∷ []) ws) more.1)

pub good_words : (ws : List Text) → length ws ≤ 256 → AllByRecursion IsGood (value_fields [] ws) → (values : List NamedValue) × AreValueWords ws values
good_words ws few good = values_given [] ws [] no_words (omega (arith, few)) good

-- ---- word by word

pub texts_more : (words : List (Bor Text)) (i : ℕ) (w : Bor Text) → w ≡ get_or words i w → i < length words → texts (take (i + 1) words) ≡ texts (take i words) ++ w.now ∷ []
texts_more words i w is lt =
    ap texts (take_more words i w lt) ∙ map-append (λ x. x.now) (take i words) (get_or words i w ∷ [])
    ∙ ap (λ x. texts (take i words) ++ x.now ∷ []) (sym is)

pub texts_parts : (words : List (Bor Text)) (i : ℕ) (w : Bor Text) → w ≡ get_or words i w → i < length words → texts words ≡ texts (take i words) ++ (w.now ∷ texts (drop (i + 1) words))
texts_parts words i w is lt =
    ap texts (sym (take-append-drop i words) ∙ ap (λ z. take i words ++ z) (drop-cons words i w lt))
    ∙ map-append (λ x. x.now) (take i words) (get_or words i w ∷ drop (suc i) words)
    ∙ ap (λ x. texts (take i words) ++ (x.now ∷ texts (drop (suc i) words))) (sym is)
    ∙ ap (λ n. texts (take i words) ++ (w.now ∷ texts (drop n words))) (sym (add-one i))

module _ (words before after : List Text) (word : Text) (sorted : List NamedValue) (parts : words ≡ before ++ (word ∷ after)) (h : AreValueWords before sorted) where
  fields_parts : value_fields [] words ≡ value_fields [] before ++ value_fields before (word ∷ after)
  fields_parts = ap (value_fields []) parts ∙ fields_append [] before (word ∷ after)

  -- a word that gives no value
  pub no_value_word : (number : ℕ) → number ≡ length before + 5 → ((v : NamedValue) → ¬ (IsValueWord word v)) → IsFirstFault (value_fields [] words) (fault.Value number)
  no_value_word number counted none =
      subst (λ fs. IsFirstFault fs (fault.Value number)) (sym fields_parts)
      (first_behind (value_fields [] before) _ _ (words_good before sorted h)
      (first_here (value (length before + 5) word) _ _ (λ g. none g.0 g.1) (ap (λ n. fault.Value n) counted)))

  -- a word with the name of an earlier one
  pub name_again : (v : NamedValue) → IsValueWord word v → IsSome (value_at sorted v.name) → IsFirstFault (value_fields [] words) (fault.Twice v.name)
  name_again v is there =
      subst (λ fs. IsFirstFault fs (fault.Twice v.name)) (sym fields_parts)
      (first_behind (value_fields [] before) _ _ (words_good before sorted h)
      (first_later (value (length before + 5) word) _ _ (v, is)
      (first_here (new_name before word) _ _ again (ap (λ n. fault.Twice n) (sym (cut_before word v is))))))
    where
      again : AllByRecursion (λ other. name_in other ≢ name_in word) before → ⊥
      again apart =
          let none = none_of_differ before sorted v.name h (names_differ before h.given word v h.give is apart) in
          cc (subst (λ (o : Option NamedValue). IsSome o) none there)

-- ---- the word at a place

texts_taken : (words : List (Bor Text)) (i : ℕ) → i < length words → length (texts (take i words)) ≡ i
texts_taken words i l = length-map (take i words) (λ (x : Bor Text). x.now) ∙ length-take-le i words (omega (arith, l))

-- there is room for the value of the word at a place
pub not_full_at : (words : List (Bor Text)) (i : ℕ) (sorted : List NamedValue) → i < length words →
    AreValueWords (texts (take i words)) sorted → length words ≤ 256 → length sorted ≢ 256
not_full_at words i sorted within h few full = omega (arith, value_count (texts (take i words)) sorted h, texts_taken words i within, few, full)

module _ (words : List (Bor Text)) (i : ℕ) (d : Bor Text) (sorted : List NamedValue) (within : i < length words) (h : AreValueWords (texts (take i words)) sorted) where
  word_at : Bor Text
  word_at = get_or words i d

  is_at : word_at ≡ get_or words i word_at
  unfolding word_at
  is_at = get_or_default words i d (get_or words i d) within

  pub no_value_at : (number : ℕ) → number ≡ i + 5 → ((v : NamedValue) → ¬ (IsValueWord (get_or words i d).now v)) → IsFirstFault (value_fields [] (texts words)) (fault.Value number)
  unfolding word_at
  no_value_at number counted none =
      no_value_word (texts words) (texts (take i words)) (texts (drop (i + 1) words)) (get_or words i d).now sorted (texts_parts words i (get_or words i d) is_at within) h
      number (counted ∙ ap (λ n. n + 5) (sym (texts_taken words i within))) none

  pub name_again_at : (v : NamedValue) → IsValueWord (get_or words i d).now v → IsSome (value_at sorted v.name) → IsFirstFault (value_fields [] (texts words)) (fault.Twice v.name)
  unfolding word_at
  name_again_at v is there =
      name_again (texts words) (texts (take i words)) (texts (drop (i + 1) words)) (get_or words i d).now sorted (texts_parts words i (get_or words i d) is_at within) h
      v is there

  pub value_at_place : (v : NamedValue) (after : List NamedValue) → IsValueWord (get_or words i d).now v → after ≡ with_value v sorted → (IsSome (value_at sorted v.name) → ⊥) →
      (IsNone (value_at sorted v.name) × (length sorted ≡ 256) → ⊥) → AreValueWords (texts (take (i + 1) words)) after
  unfolding word_at
  value_at_place v after is put new room =
      subst (λ w. AreValueWords w after) (sym (texts_more words i (get_or words i d) is_at within))
      (inserted (texts (take i words)) sorted after (get_or words i d).now v h is put new room)
