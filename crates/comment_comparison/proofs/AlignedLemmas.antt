-- How often texts stand in two lists that are aligned.
use Rattle.std.proofs.Common.{◌≡◌, ℕ, ◌+◌, ◌-◌, cond, List, [], ◌∷◌, ◌++◌, length, map, refl, sym, ap, subst, ◌∙◌, arith, append_assoc}
use Rattle.std.specs.Prelude.{All}
use Rattle.std.specs.List.{range_with_len}
use Rattle.std.specs.Str.{bytes_eq}
use Rattle.std.proofs.lemmas.List.{length_push}
use Rattle.std.proofs.lemmas.List.Elements.{All-head, All-tail}
use Rattle.std.proofs.lemmas.List.Sums.{sum_by-cons}
use Rattle.std.proofs.Math.Seq.{get_or-append_seam}
use Rattle.flowchart_comparison.specs.declared.entry.Entry.{Entry}
use Rattle.flowchart_comparison.specs.declared.entry.Entry.TheVariants as entries
use Rattle.flowchart_comparison.specs.Entries.{old_side, new_side, compared_text, IsTold, IsAlignment}
use Rattle.comment_comparison.specs.declared.change.CommentChange.{CommentChange}
use Rattle.comment_comparison.specs.CommentChanges.{times, gone_texts, new_texts, all_apart, AreSome, AreChanges}

-- ---- the texts of a list by their places

texts_behind : (front xs : List (List ℕ)) → map (compared_text (front ++ xs)) (range_with_len (length front) (length xs)) ≡ xs
texts_behind front [] = refl
texts_behind front (x ∷ xs) =
    let n = length front in
    let next = front ++ (x ∷ []) in
    let whole : next ++ xs ≡ front ++ (x ∷ xs) = append_assoc front (x ∷ []) xs in
    let size : length next ≡ n + 1 = length_push front x in
    let head : compared_text (front ++ (x ∷ xs)) n ≡ x = get_or-append_seam front x xs [] in
    let tail : map (compared_text (front ++ (x ∷ xs))) (range_with_len (n + 1) (length xs)) ≡ xs =
    subst (λ k. map (compared_text (front ++ (x ∷ xs))) (range_with_len k (length xs)) ≡ xs) size
    (subst (λ l. map (compared_text l) (range_with_len (length next) (length xs)) ≡ xs) whole (texts_behind next xs)) in
    ap (λ y. y ∷ map (compared_text (front ++ (x ∷ xs))) (range_with_len (n + 1) (length xs))) head ∙ ap (λ l. x ∷ l) tail

texts_all : (xs : List (List ℕ)) → map (compared_text xs) (range_with_len 0 (length xs)) ≡ xs
texts_all xs = texts_behind [] xs

-- ---- both sides of an alignment

-- 1 for the text itself, and 0 for another
abbrev one : List ℕ → List ℕ → ℕ
one text x = cond (bytes_eq x text) 1 0

times-cons : (text x : List ℕ) (xs : List (List ℕ)) → times text (x ∷ xs) ≡ one text x + times text xs
times-cons text x xs = sum_by-cons (λ t. one text t) x xs

both_step : (a b x y o n g m : ℕ) → a ≡ x + o → b ≡ y + n → x ≡ y → o + m ≡ n + g → a + m ≡ b + g
both_step a b x y o n g m is_a is_b same h = omega (arith, is_a, is_b, same, h)

changed_step : (a b x y o n g m g' m' : ℕ) → a ≡ x + o → b ≡ y + n → g' ≡ x + g → m' ≡ y + m → o + m ≡ n + g → a + m' ≡ b + g'
changed_step a b x y o n g m g' m' is_a is_b is_g is_m h = omega (arith, is_a, is_b, is_g, is_m, h)

gone_step : (a x o n g m g' : ℕ) → a ≡ x + o → g' ≡ x + g → o + m ≡ n + g → a + m ≡ n + g'
gone_step a x o n g m g' is_a is_g h = omega (arith, is_a, is_g, h)

new_step : (b y o n g m m' : ℕ) → b ≡ y + n → m' ≡ y + m → o + m ≡ n + g → o + m' ≡ b + g
new_step b y o n g m m' is_b is_m h = omega (arith, is_b, is_m, h)

module _ (old new : List (List ℕ)) (text : List ℕ) where
  -- how often the text stands on each side of some entries, and among those that aren't aligned
  abbrev old_times : List Entry → ℕ
  old_times es = times text (map (compared_text old) (old_side es))

  abbrev new_times : List Entry → ℕ
  new_times es = times text (map (compared_text new) (new_side es))

  abbrev gone_times : List Entry → ℕ
  gone_times es = times text (gone_texts old (all_apart es))

  abbrev added_times : List Entry → ℕ
  added_times es = times text (new_texts new (all_apart es))

  balance : (es : List Entry) → All (IsTold old new) es → old_times es + added_times es ≡ new_times es + gone_times es
  balance [] h = refl
  balance (entries.Same i j ∷ es) h =
      both_step (old_times (entries.Same i j ∷ es)) (new_times (entries.Same i j ∷ es)) (one text (compared_text old i))
      (one text (compared_text new j)) (old_times es) (new_times es) (gone_times es) (added_times es)
      (times-cons text (compared_text old i) (map (compared_text old) (old_side es)))
      (times-cons text (compared_text new j) (map (compared_text new) (new_side es)))
      (ap (one text) (All-head (IsTold old new) (entries.Same i j) es h))
      (balance es (All-tail (IsTold old new) (entries.Same i j) es h))
  balance (entries.Changed i j ∷ es) h =
      changed_step (old_times (entries.Changed i j ∷ es)) (new_times (entries.Changed i j ∷ es)) (one text (compared_text old i))
      (one text (compared_text new j)) (old_times es) (new_times es) (gone_times es) (added_times es)
      (gone_times (entries.Changed i j ∷ es)) (added_times (entries.Changed i j ∷ es))
      (times-cons text (compared_text old i) (map (compared_text old) (old_side es)))
      (times-cons text (compared_text new j) (map (compared_text new) (new_side es)))
      (times-cons text (compared_text old i) (gone_texts old (all_apart es)))
      (times-cons text (compared_text new j) (new_texts new (all_apart es)))
      (balance es (All-tail (IsTold old new) (entries.Changed i j) es h))
  balance (entries.Gone i ∷ es) h =
      gone_step (old_times (entries.Gone i ∷ es)) (one text (compared_text old i)) (old_times es) (new_times es) (gone_times es)
      (added_times es) (gone_times (entries.Gone i ∷ es))
      (times-cons text (compared_text old i) (map (compared_text old) (old_side es)))
      (times-cons text (compared_text old i) (gone_texts old (all_apart es)))
      (balance es (All-tail (IsTold old new) (entries.Gone i) es h))
  balance (entries.New j ∷ es) h =
      new_step (new_times (entries.New j ∷ es)) (one text (compared_text new j)) (old_times es) (new_times es) (gone_times es)
      (added_times es) (added_times (entries.New j ∷ es))
      (times-cons text (compared_text new j) (map (compared_text new) (new_side es)))
      (times-cons text (compared_text new j) (new_texts new (all_apart es)))
      (balance es (All-tail (IsTold old new) (entries.New j) es h))

  balanced : (es : List Entry) → IsAlignment old new es → times text old + added_times es ≡ times text new + gone_times es
  balanced es h =
      ap (λ l. times text l + added_times es) (sym (ap (map (compared_text old)) h.old_in_order ∙ texts_all old))
      ∙ balance es h.told
      ∙ ap (λ l. times text l + gone_times es) (ap (map (compared_text new)) h.new_in_order ∙ texts_all new)

gone_as_often : (t g m o n : ℕ) → o + m ≡ n + g → t ≡ g - m → t ≡ o - n
gone_as_often t g m o n h is = omega (arith, h, is)

new_as_often : (t g m o n : ℕ) → o + m ≡ n + g → t ≡ m - g → t ≡ n - o
new_as_often t g m o n h is = omega (arith, h, is)

pub are_changes : (old new : List (List ℕ)) (es : List Entry) (all changes : List CommentChange) → IsAlignment old new es
    → all ≡ all_apart es → AreSome all changes
    → ((text : List ℕ) → times text (gone_texts old changes) ≡ times text (gone_texts old all) - times text (new_texts new all))
    → ((text : List ℕ) → times text (new_texts new changes) ≡ times text (new_texts new all) - times text (gone_texts old all))
    → AreChanges old new changes
are_changes old new es all changes aligned is some gone news = record {
  entries = es;
  aligned = aligned;
  unaligned = subst (λ l. AreSome l changes) is some;
  gone = λ text. gone_as_often (times text (gone_texts old changes)) (times text (gone_texts old (all_apart es)))
      (times text (new_texts new (all_apart es))) (times text old) (times text new) (balanced old new text es aligned)
      (subst (λ l. times text (gone_texts old changes) ≡ times text (gone_texts old l) - times text (new_texts new l)) is (gone text));
  new_ones = λ text. new_as_often (times text (new_texts new changes)) (times text (gone_texts old (all_apart es)))
      (times text (new_texts new (all_apart es))) (times text old) (times text new) (balanced old new text es aligned)
      (subst (λ l. times text (new_texts new changes) ≡ times text (new_texts new l) - times text (gone_texts old l)) is (news text));
}
