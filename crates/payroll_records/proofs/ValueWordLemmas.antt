-- Words NAME=VALUE and the values that they give.
use Rattle.std.proofs.Common.{◌≡◌, ◌≢◌, ◌==◌, ℕ, suc, ◌+◌, ◌<◌, Bool, true, false, cond, List, [], ◌∷◌, ◌++◌, length, map, take, drop, get_or, refl, sym, ap, ◌∙◌, subst, arith, add-one, length-append, inl, inr}
use Rattle.std.specs.Prelude.{Option, Some, None, IsTrue, IsSome, IsNone, if◌then◌else◌, ◌&&◌, nat_lt, position}
use Rattle.std.specs.Bool.{one_answer}
use Rattle.std.specs.List.{All, AllByRecursion, AllPairs, AllZip, IsDistinct, list_all, before_first, position_or_len}
use Rattle.std.specs.List.Sorted.{IsPermutation}
use Rattle.std.specs.Ordering.{is_eq}
use Rattle.std.specs.Str.{bytes_eq}
use Rattle.std.specs.declared.cmp.Ordering.{Ordering}
use Rattle.std.specs.declared.cmp.Ordering.TheVariants.{Less, Equal, Greater}
use Rattle.std.proofs.Math.Seq.{get_or-append_seam, take-append_seam, drop-append-add, drop-cons}
use Rattle.std.proofs.lemmas.Bool.{false≢true, eqb-true, lt-ltb}
use Rattle.std.proofs.lemmas.Cmp.{nat_list_cmp_total, tied_back}
use Rattle.std.proofs.lemmas.List.{get_or-map, get_or_append_left, length-map, take-append-drop}
use Rattle.std.proofs.lemmas.List.Elements.{All-contains, Contains-get_or}
use Rattle.std.proofs.lemmas.List.Quantifiers.{position-Some}
use Rattle.std.proofs.lemmas.List.Sorted.{Contains-permutation, IsPermutation-cons, IsPermutation-map, IsPermutation-middle, IsPermutation-push_more, IsPermutation-refl, IsPermutation-sym, IsPermutation-trans, length_permutation}
use Rattle.std.proofs.lemmas.Map.Keys.{IsDistinct-IsPermutation, IsDistinct-cons, IsDistinct-from_apart}
use Rattle.std.proofs.lemmas.Map.Made.{AllPairs-from_IsDistinct}
use Rattle.std.proofs.lemmas.Map.Text.{is_eq-slice_cmp}
use Rattle.std.proofs.lemmas.Slice.Eq.{bytes_eq-Decides}
use Rattle.std.proofs.lemmas.Slice.Zip.{AllZip-long, all_zipped_more}
use Rattle.rising_lists.specs.Keyed.{AreAbove, IsRising, put_by}
use Rattle.rising_lists.proofs.Laws.{contains_of_in, found_in, in_found, in_of_contains, none_some, put_rising, text_same}
use Rattle.scaled_decimal.specs.Decimals.{Decimal}
use Rattle.scaled_decimal.specs.Limits.{IsKept}
use Rattle.scaled_decimal.specs.NumberTexts.{Spells}
use Rattle.scaled_decimal.proofs.Laws.{number_once}
use Rattle.pap_tree.specs.Names.{is_word, is_name}
use Rattle.payroll_records.proofs.DecidedLemmas.{Decided, true_decided, number_decided}
use Rattle.payroll_records.proofs.KindLemmas.{members_once}
use Rattle.payroll_records.specs.NamedValues.{name_cmp, name_of, value_at, with_value}
use Rattle.payroll_records.specs.ValueWords.{IsValueWord, AreValueWords}
use Rattle.payroll_records.specs.declared.values.NamedValue.{NamedValue}

-- ---- one word

and_first : (a b : Bool) → (a && b) ≡ true → a ≡ true
and_first true b h = refl
and_first false b h = cc

and_second : (a b : Bool) → (a && b) ≡ true → b ≡ true
and_second true b h = h
and_second false b h = cc

name_words : (name : List ℕ) → is_name name ≡ true → list_all is_word name ≡ true
name_words name h =
    and_second _ _ (and_second _ _ (and_first _ _ h))

same_split : (a b t u : List ℕ) → list_all is_word a ≡ true → list_all is_word b ≡ true → a ++ (61 ∷ t) ≡ b ++ (61 ∷ u) → (a ≡ b) × (t ≡ u)
same_split [] [] t u h h' e = (refl, cc)
same_split [] (y ∷ b) t u h h' e = let s : 61 ≡ y = cc in absurd (false≢true (subst (λ x. is_word x ≡ true) (sym s) (and_first _ _ h')))
same_split (x ∷ a) [] t u h h' e = let s : x ≡ 61 = cc in absurd (false≢true (subst (λ y. is_word y ≡ true) s (and_first _ _ h)))
same_split (x ∷ a) (y ∷ b) t u h h' e =
    let s : x ≡ y = cc in
    let rest : a ++ (61 ∷ t) ≡ b ++ (61 ∷ u) = cc in
    let r = same_split a b t u (and_second _ _ h) (and_second _ _ h') rest in
    (ap (λ z. z ∷ a) s ∙ ap (λ z. y ∷ z) r.0, r.1)

same_value : (v w : NamedValue) → v.name ≡ w.name → v.value ≡ w.value → v ≡ w
same_value v w n x = let P : NamedValue = record { name = w.name; value = v.value } in
    let a : v ≡ P = ap (λ (m : List ℕ). let Q : NamedValue = record { name = m; value = v.value } in Q) n in
    a ∙ ap (λ y. let Q : NamedValue = record { name = w.name; value = y } in Q) x

pub value_once : (word : List ℕ) (v w : NamedValue) → IsValueWord word v → IsValueWord word w → v ≡ w
value_once word v w h k =
    let s = same_split v.name w.name h.text k.text (name_words v.name h.named) (name_words w.name k.named) (sym h.split ∙ k.split) in
    same_value v w s.0 (number_once k.text v.value w.value (subst (λ t. Spells t v.value) s.1 h.spelled) k.spelled)

-- a value word is cut at its first `=`, since its name has none
abbrev is_equals : ℕ → Bool
is_equals b = b == 61

not_equals : (b : ℕ) → is_word b ≡ true → (b == 61) ≡ false
not_equals b h = elim (b == 61) as (λ t. (b == 61) ≡ t → t ≡ false) [
  | true ↦ λ e. absurd (false≢true (subst (λ x. is_word x ≡ true) (eqb-true b 61 e) h))
  | false ↦ λ e. refl
] refl

name_cut : (name text : List ℕ) → list_all is_word name ≡ true → position_or_len is_equals (name ++ (61 ∷ text)) ≡ length name
name_cut [] text h = refl
name_cut (b ∷ bs) text h = rw (not_equals b (and_first _ _ h)) (let more = name_cut bs text (and_second _ _ h) in omega (arith, more))

cut_of : (word : List ℕ) (v : NamedValue) → IsValueWord word v → position_or_len is_equals word ≡ length v.name
cut_of word v h = ap (position_or_len is_equals) h.split ∙ name_cut v.name h.text (name_words v.name h.named)

pub cut_before : (word : List ℕ) (v : NamedValue) → IsValueWord word v → before_first is_equals word ≡ v.name
cut_before word v h =
    ap (λ n. take n word) (cut_of word v h) ∙ ap (take (length v.name)) h.split ∙ take-append_seam v.name (61 ∷ h.text)

cut_after : (word : List ℕ) (v : NamedValue) (h : IsValueWord word v) → drop (length v.name + 1) word ≡ h.text
cut_after word v h = ap (drop (length v.name + 1)) h.split ∙ drop-append-add v.name (61 ∷ h.text) 1

at_most : (b : Bool) (n m : ℕ) → cond b (Some n) None ≡ Some m → n ≡ m
at_most true n m e = cc
at_most false n m e = cc

no_place : (b : Bool) (n : ℕ) → cond b (Some n) None ≡ None → b ≡ false
no_place true n e = cc
no_place false n e = refl

-- a word without `=`
pub unsplit : (word : List ℕ) → position is_equals word ≡ None → (v : NamedValue) → ¬ (IsValueWord word v)
unsplit word none v h =
    let at = cut_of word v h in
    let long = ap length h.split in
    let off = no_place (nat_lt (position_or_len is_equals word) (length word)) _ none in
    false≢true (sym off ∙ lt-ltb _ _ (omega (arith, at, long, length-append v.name (61 ∷ h.text))))

module _ (word : List ℕ) (at : ℕ) (found : position is_equals word ≡ Some at) where
  place : position_or_len is_equals word ≡ at
  place = at_most _ _ _ found

  name_of_word : (v : NamedValue) → IsValueWord word v → take at word ≡ v.name
  name_of_word v h = ap (λ n. take n word) (sym place) ∙ cut_before word v h

  text_of_word : (v : NamedValue) (h : IsValueWord word v) → drop (at + 1) word ≡ h.text
  text_of_word v h = ap (λ n. drop (n + 1) word) (sym place ∙ cut_of word v h) ∙ cut_after word v h

  -- what stands before the `=` is no name
  pub not_named : (bytes : List ℕ) → bytes ≡ take at word → (IsTrue (is_name bytes) → ⊥) → (v : NamedValue) → ¬ (IsValueWord word v)
  not_named bytes same none v h = none (subst (λ x. IsTrue (is_name x)) (sym (same ∙ name_of_word v h)) h.named)

  -- what stands behind it is no number
  pub not_number : (bytes : List ℕ) → bytes ≡ drop (at + 1) word → ((d : Decimal) → Spells bytes d → IsKept d → ⊥) → (v : NamedValue) → ¬ (IsValueWord word v)
  not_number bytes same none v h = none v.value (subst (λ x. Spells x v.value) (sym (same ∙ text_of_word v h)) h.spelled) h.kept

  whole : word ≡ take at word ++ (61 ∷ drop (at + 1) word)
  whole =
      let seen = position-Some is_equals word at 0 found in
      let is = eqb-true (get_or word at 0) 61 seen.1 in
      sym (take-append-drop at word) ∙ ap (λ x. take at word ++ x) (drop-cons word at 0 seen.0)
      ∙ ap (λ b. take at word ++ (b ∷ drop (suc at) word)) is ∙ ap (λ n. take at word ++ (61 ∷ drop n word)) (sym (add-one at))

  pub value_read : (name bytes text : List ℕ) (d : Decimal) → bytes ≡ take at word → name ≡ bytes → IsTrue (is_name bytes) → text ≡ drop (at + 1) word → Spells text d → IsKept d → IsValueWord word (record { name = name; value = d })
  value_read name bytes text d same is named there spelled kept =
      record {
        text = text;
        split = whole ∙ ap (λ x. x ++ (61 ∷ drop (at + 1) word)) (sym (is ∙ same)) ∙ ap (λ x. name ++ (61 ∷ x)) (sym there);
        named = subst (λ x. IsTrue (is_name x)) (sym is) named;
        spelled = spelled;
        kept = kept;
      }

-- a word gives a value, or none
pub value_word_decided : (word : List ℕ) → Decided ((v : NamedValue) × IsValueWord word v)
value_word_decided word = by (position is_equals word) refl
  where
    by : (o : Option ℕ) → position is_equals word ≡ o → Decided ((v : NamedValue) × IsValueWord word v)
    by None e = inr (λ h. unsplit word e h.0 h.1)
    by (Some at) e = elim (true_decided (is_name (take at word))) [
      | inr none ↦ inr (λ h. not_named word at e (take at word) refl none h.0 h.1)
      | inl named ↦ elim (number_decided (drop (at + 1) word)) [
        | inr none ↦ inr (λ h. not_number word at e (drop (at + 1) word) refl (λ d spelled kept. none d (spelled, kept)) h.0 h.1)
        | inl number ↦ inl (_, value_read word at e (take at word) (take at word) (drop (at + 1) word) number.0 refl refl named refl number.1.0 number.1.1)
      ]
    ]

-- ---- values in order

-- the names of some values
abbrev names_in : List NamedValue → List (List ℕ)
names_in values = map name_of values

bytes_flip : (a b : List ℕ) → bytes_eq a b ≡ bytes_eq b a
bytes_flip a b = one_answer (bytes_eq a b) (bytes_eq b a) (bytes_eq-Decides a b)
    (λ e. sym ((bytes_eq-Decides b a).0 e), λ e. (bytes_eq-Decides b a).1 (sym e))

less_apart : (a b : List ℕ) → name_cmp a b ≡ Less → bytes_eq a b ≡ false
less_apart a b less = sym (is_eq-slice_cmp a b) ∙ ap is_eq less

above_apart : (name : List ℕ) (values : List NamedValue) → AreAbove name_cmp name_of name values → AllByRecursion (λ n. bytes_eq name n ≡ false) (names_in values)
above_apart name [] h = tt
above_apart name (v ∷ values) h = (less_apart name v.name h.0, above_apart name values h.1)

rising_distinct : (values : List NamedValue) → IsRising name_cmp name_of values → IsDistinct bytes_eq (names_in values)
rising_distinct [] h = IsDistinct-from_apart bytes_eq [] (λ i j d less within. absurd (omega (arith, within)))
rising_distinct (v ∷ values) h = IsDistinct-cons bytes_eq v.name (names_in values) (above_apart v.name values h.0) (rising_distinct values h.1)

-- values whose names rise once they are in order have different names
given_distinct : (given values : List NamedValue) → IsPermutation given values → IsRising name_cmp name_of values → IsDistinct bytes_eq (names_in given)
given_distinct given values same rising =
    IsDistinct-IsPermutation bytes_eq bytes_flip (names_in values) (names_in given)
    (IsPermutation-map name_of values given (IsPermutation-sym given values same)) (rising_distinct values rising)

pub given_apart : (words : List (List ℕ)) (values : List NamedValue) (h : AreValueWords words values) → AllPairs (λ v w. v.name ≢ w.name) h.given
given_apart words values h i j d less within same =
    let at = AllPairs-from_IsDistinct bytes_eq-Decides (names_in h.given) (given_distinct h.given values h.same h.are.rising) i j d.name less (omega (arith, within, length-map h.given name_of)) in
    at (get_or-map name_of h.given i d d.name (omega (arith, less, within)) ∙ same ∙ sym (get_or-map name_of h.given j d d.name within))

not_here : (t : Bool) (v : NamedValue) (o : Option NamedValue) → (if t then Some v else o) ≡ None → (t ≡ false) × (o ≡ None)
not_here true v o e = cc
not_here false v o e = (refl, e)

-- a value under a new name is one more
put_permutes : (v : NamedValue) (xs : List NamedValue) → value_at xs v.name ≡ None → IsPermutation (v ∷ xs) (with_value v xs)
put_permutes v [] new = IsPermutation-refl (v ∷ [])
put_permutes v (x ∷ xs) new =
    let n = not_here (is_eq (name_cmp x.name v.name)) x (value_at xs v.name) new in
    by (name_cmp v.name x.name) refl n.0 (put_permutes v xs n.1)
  where
    by : (o : Ordering) → name_cmp v.name x.name ≡ o → is_eq (name_cmp x.name v.name) ≡ false → IsPermutation (v ∷ xs) (with_value v xs) →
        IsPermutation (v ∷ (x ∷ xs)) (put_by o v x xs (with_value v xs))
    by Less e apart more = IsPermutation-refl (v ∷ (x ∷ xs))
    by Equal e apart more = absurd (false≢true (sym apart ∙ ap is_eq (tied_back nat_list_cmp_total v.name x.name e)))
    by Greater e apart more =
        IsPermutation-trans (v ∷ (x ∷ xs)) (x ∷ (v ∷ xs)) (x ∷ with_value v xs)
        (IsPermutation-sym (x ∷ (v ∷ xs)) (v ∷ (x ∷ xs)) (IsPermutation-middle (x ∷ []) v xs))
        (IsPermutation-cons x (v ∷ xs) (with_value v xs) more)

-- ---- many words

give_once : (words : List (List ℕ)) (a b : List NamedValue) → AllZip IsValueWord words a → AllZip IsValueWord words b → a ≡ b
give_once [] [] [] h k = refl
give_once [] [] (y ∷ b) h k = absurd k
give_once [] (x ∷ a) b h k = absurd h
give_once (w ∷ words) [] b h k = absurd h
give_once (w ∷ words) (x ∷ a) [] h k = absurd k
give_once (w ∷ words) (x ∷ a) (y ∷ b) h k = ap (λ z. z ∷ a) (value_once w x y h.0 k.0) ∙ ap (λ z. y ∷ z) (give_once words a b h.1 k.1)

-- what the words before one, and that one, give
record Parted (before : List (List ℕ)) (word : List ℕ) (given : List NamedValue) : Type 0 where
  pub first : List NamedValue
  pub here : NamedValue
  pub later : List NamedValue
  pub whole : given ≡ first ++ (here ∷ later)
  pub before_it : AllZip IsValueWord before first
  pub is : IsValueWord word here

give_parts : (before : List (List ℕ)) (word : List ℕ) (after : List (List ℕ)) (given : List NamedValue) → AllZip IsValueWord (before ++ (word ∷ after)) given → Parted before word given
give_parts [] word after [] h = absurd h
give_parts [] word after (v ∷ vs) h = record { first = []; here = v; later = vs; whole = refl; before_it = tt; is = h.0 }
give_parts (w ∷ before) word after [] h = absurd h
give_parts (w ∷ before) word after (v ∷ vs) h =
    let p = give_parts before word after vs h.1 in
    record { first = v ∷ p.first; here = p.here; later = p.later; whole = ap (λ z. v ∷ z) p.whole; before_it = (h.0, p.before_it); is = p.is }

-- each word gives one value
pub value_count : (words : List (List ℕ)) (values : List NamedValue) → AreValueWords words values → length values ≡ length words
value_count words values h = length_permutation h.given values h.same ∙ AllZip-long IsValueWord words h.given h.give

-- a name that has no value is none of those that the words give, and the other way round
differ_of_none : (words : List (List ℕ)) (values : List NamedValue) (name : List ℕ) (h : AreValueWords words values) → value_at values name ≡ None → All (λ v. v.name ≢ name) h.given
differ_of_none words values name h none k d within same =
    let v = get_or h.given k d in
    let there = Contains-permutation h.given values v h.same (Contains-get_or h.given k d within) in
    let found = in_found name_cmp nat_list_cmp_total name_of values v h.are.rising (in_of_contains values v there) in
    none_some v (sym none ∙ ap (value_at values) (sym same) ∙ found)

pub none_of_differ : (words : List (List ℕ)) (values : List NamedValue) (name : List ℕ) (h : AreValueWords words values) → All (λ v. v.name ≢ name) h.given → value_at values name ≡ None
none_of_differ words values name h differ = by (value_at values name) refl
  where
    by : (o : Option NamedValue) → value_at values name ≡ o → o ≡ None
    by None e = refl
    by (Some v) e =
        let found = found_in name_cmp name_of values name v e in
        let there = Contains-permutation values h.given v (IsPermutation-sym h.given values h.same) (contains_of_in values v found.0) in
        absurd (All-contains (λ w. w.name ≢ name) h.given v differ there (text_same v.name name found.1))

-- ---- the values of words, word by word

pub no_words : AreValueWords [] []
no_words = record { given = []; give = tt; same = IsPermutation-refl []; are = record { rising = tt; few = omega arith } }

pub one_more : (words : List (List ℕ)) (values : List NamedValue) (word : List ℕ) (v : NamedValue) → AreValueWords words values → IsValueWord word v → value_at values v.name ≡ None → length values < 256 → AreValueWords (words ++ word ∷ []) (with_value v values)
one_more words values word v h is new small =
    let put = put_permutes v values new in
    record {
      given = h.given ++ v ∷ [];
      give = all_zipped_more IsValueWord words h.given word v h.give is;
      same = IsPermutation-push_more h.given values (with_value v values) v h.same put;
      are = record {
        rising = put_rising name_cmp nat_list_cmp_total name_of v values h.are.rising;
        few = omega (arith, small, length_permutation (v ∷ values) (with_value v values) put);
      };
    }

none_from : (o : Option NamedValue) → (IsSome o → ⊥) → o ≡ None
none_from None h = refl
none_from (Some x) h = absurd (h refl)

-- a value that was inserted
pub inserted : (words : List (List ℕ)) (values after : List NamedValue) (word : List ℕ) (v : NamedValue) → AreValueWords words values → IsValueWord word v → after ≡ with_value v values →
    (IsSome (value_at values v.name) → ⊥) → (IsNone (value_at values v.name) × (length values ≡ 256) → ⊥) → AreValueWords (words ++ word ∷ []) after
inserted words values after word v h is e not_twice not_full =
    let new = none_from (value_at values v.name) not_twice in
    let apart : length values ≢ 256 = λ full. not_full (subst (λ (o : Option NamedValue). IsNone o) (sym new) refl, full) in
    subst (λ l. AreValueWords (words ++ word ∷ []) l) (sym e) (one_more words values word v h is new (omega (arith, apart, h.are.few)))

-- ---- why words give no values

differ_before : (given first later : List NamedValue) (v : NamedValue) → given ≡ first ++ (v ∷ later) → AllPairs (λ a b. a.name ≢ b.name) given → All (λ w. w.name ≢ v.name) first
differ_before given first later v whole distinct k d lt e =
    let within : length first < length given = omega (arith, ap length whole, length-append first (v ∷ later)) in
    distinct k (length first) d lt within
    (ap (λ l. (get_or l k d).name) whole ∙ ap name_of (get_or_append_left first (v ∷ later) d k lt) ∙ e
    ∙ sym (ap (λ l. (get_or l (length first) d).name) whole ∙ ap name_of (get_or-append_seam first v later d)))

-- a word that is no value word
pub no_value : (before after : List (List ℕ)) (word : List ℕ) → ((v : NamedValue) → ¬ (IsValueWord word v)) → (values : List NamedValue) → ¬ (AreValueWords (before ++ (word ∷ after)) values)
no_value before after word none values h = let p = give_parts before word after h.given h.give in none p.here p.is

-- a name that stands twice
pub twice : (before after : List (List ℕ)) (word : List ℕ) (sorted : List NamedValue) (v : NamedValue) → AreValueWords before sorted → IsValueWord word v → IsSome (value_at sorted v.name) → (values : List NamedValue) → ¬ (AreValueWords (before ++ (word ∷ after)) values)
twice before after word sorted v h is there values k =
    let p = give_parts before word after k.given k.give in
    let same : p.here ≡ v = value_once word p.here v p.is is in
    let firsts : p.first ≡ h.given = give_once before p.first h.given p.before_it h.give in
    let differ = differ_before k.given p.first p.later p.here p.whole (given_apart (before ++ (word ∷ after)) values k) in
    let moved = subst (λ g. All (λ w. w.name ≢ p.here.name) g) firsts differ in
    let none = none_of_differ before sorted v.name h (subst (λ (w : NamedValue). All (λ u. u.name ≢ w.name) h.given) same moved) in
    let nothing = subst (λ (o : Option NamedValue). IsSome o) none there in
    cc nothing

-- one word too many
pub too_many : (before after : List (List ℕ)) (word : List ℕ) (sorted : List NamedValue) → AreValueWords before sorted → length sorted ≡ 256 → (values : List NamedValue) → ¬ (AreValueWords (before ++ (word ∷ after)) values)
too_many before after word sorted h full values k =
    omega (arith, value_count before sorted h, value_count (before ++ (word ∷ after)) values k, k.are.few, length-append before (word ∷ after))

-- words give one list of values at most
pub values_once : (words : List (List ℕ)) (a b : List NamedValue) → AreValueWords words a → AreValueWords words b → a ≡ b
values_once words a b h k =
    let same : h.given ≡ k.given = give_once words h.given k.given h.give k.give in
    let there = IsPermutation-trans a h.given b (IsPermutation-sym h.given a h.same) (subst (λ g. IsPermutation g b) (sym same) k.same) in
    members_once a b h.are.rising k.are.rising (λ v. Contains-permutation a b v there) (λ v. Contains-permutation b a v (IsPermutation-sym a b there))
