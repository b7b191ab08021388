-- How often texts stand, as they are counted one after the other.
use Rattle.std.proofs.Common.{◌≡◌, ◌⊎◌, inl, inr, ℕ, zero, suc, ◌+◌, ◌-◌, ◌<◌, ◌≤◌, Bool, true, false, cond, List, [], ◌∷◌, ◌++◌, length, take, get_or, refl, sym, ap, subst, ◌∙◌, arith}
use Rattle.std.specs.Prelude.{Option, Some, unwrap_or}
use Rattle.std.specs.Str.{bytes_eq}
use Rattle.std.specs.Borrow.{Bor}
use Rattle.std.specs.BTreeMap.{BTreeMap, IsEmpty, is_at, get_by}
use Rattle.std.specs.Cmp.Lexicographic.{slice_cmp}
use Rattle.std.specs.Ordering.{nat_cmp}
use Rattle.std.specs.Map.{lookup, update}
use Rattle.std.proofs.lemmas.List.{append-nil, get_or-map, get_or_past, length-map}
use Rattle.std.proofs.lemmas.List.Concat.{flat_map-append}
use Rattle.std.proofs.lemmas.List.Sums.{sum_by-append, count_by-le-length}
use Rattle.std.proofs.lemmas.Slice.Eq.{bytes_eq-Decides}
use Rattle.flowchart_comparison.specs.Entries.{compared_text}
use Rattle.comment_comparison.specs.declared.change.CommentChange.{CommentChange}
use Rattle.comment_comparison.specs.declared.change.CommentChange.TheVariants.{Gone, New}
use Rattle.comment_comparison.specs.declared.tally.Tally.{Tally}
use Rattle.comment_comparison.specs.Comments.{LineComment, comment_texts}
use Rattle.comment_comparison.specs.CommentChanges.{times, gone_text, new_text, gone_texts, new_texts}
use Rattle.comment_comparison.specs.private.Tallies.{count_in, CountsMore, CountsLess, IsTally}

-- ---- texts

pub text_is : (cs : List LineComment) (i : ℕ) (c : LineComment) → i < length cs → c ≡ get_or cs i c
    → c.text ≡ compared_text (comment_texts cs) i
text_is cs i c lt is =
    ap (λ (x : LineComment). x.text) is ∙ sym (get_or-map (λ (x : LineComment). x.text) cs i c [] lt)

pub no_text : (cs : List LineComment) (i : ℕ) → length cs ≤ i → [] ≡ compared_text (comment_texts cs) i
no_text cs i past =
    let many = length-map cs (λ (x : LineComment). x.text) in
    sym (get_or_past (comment_texts cs) i [] (omega (arith, past, many)))

-- ---- a text more

-- a text stands once among itself, where it is the one that is asked for
pub times_one : (text x : List ℕ) → (times text (x ∷ []) ≡ 0) ⊎ ((x ≡ text) × (times text (x ∷ []) ≡ 1))
times_one text x = by (bytes_eq x text) refl
  where
    by : (b : Bool) → bytes_eq x text ≡ b → (times text (x ∷ []) ≡ 0) ⊎ ((x ≡ text) × (times text (x ∷ []) ≡ 1))
    by true e = inr ((bytes_eq-Decides x text).0 e, ap (λ b. 0 + cond b 1 0) e)
    by false e = inl (ap (λ b. 0 + cond b 1 0) e)

times-append : (text : List ℕ) (xs ys : List (List ℕ)) → times text (xs ++ ys) ≡ times text xs + times text ys
times-append text xs ys = sum_by-append (λ x. cond (bytes_eq x text) 1 0) xs ys

pub gone_push : (old : List (List ℕ)) (text : List ℕ) (cs : List CommentChange) (c : CommentChange)
    → times text (gone_texts old (cs ++ (c ∷ []))) ≡ times text (gone_texts old cs) + times text (gone_text old c)
gone_push old text cs c =
    ap (times text) (flat_map-append (gone_text old) cs (c ∷ [])
    ∙ ap (λ l. gone_texts old cs ++ l) (append-nil (gone_text old c)))
    ∙ times-append text (gone_texts old cs) (gone_text old c)

pub new_push : (new : List (List ℕ)) (text : List ℕ) (cs : List CommentChange) (c : CommentChange)
    → times text (new_texts new (cs ++ (c ∷ []))) ≡ times text (new_texts new cs) + times text (new_text new c)
new_push new text cs c =
    ap (times text) (flat_map-append (new_text new) cs (c ∷ [])
    ∙ ap (λ l. new_texts new cs ++ l) (append-nil (new_text new c)))
    ∙ times-append text (new_texts new cs) (new_text new c)

-- ---- few texts

few_gone : (old : List (List ℕ)) (cs : List CommentChange) → length (gone_texts old cs) ≤ length cs
few_gone old [] = omega arith
few_gone old (Gone i ∷ cs) = let h = few_gone old cs in omega (arith, h)
few_gone old (New j ∷ cs) = let h = few_gone old cs in omega (arith, h)

few_new : (new : List (List ℕ)) (cs : List CommentChange) → length (new_texts new cs) ≤ length cs
few_new new [] = omega arith
few_new new (Gone i ∷ cs) = let h = few_new new cs in omega (arith, h)
few_new new (New j ∷ cs) = let h = few_new new cs in omega (arith, h)

pub few_taken : (n : ℕ) (cs : List CommentChange) → length (take n cs) ≤ n
few_taken zero cs = omega arith
few_taken (suc n) [] = omega arith
few_taken (suc n) (c ∷ cs) = let h = few_taken n cs in omega (arith, h)

module _ (old new : List (List ℕ)) (cs : List CommentChange) (tally : Tally) (h : IsTally old new cs tally) where
  pub gone_few : (text : List ℕ) → count_in tally.gone_counts text ≤ length cs
  gone_few text =
      let few = count_by-le-length (λ t. bytes_eq t text) (gone_texts old cs) in
      let short = few_gone old cs in
      let is = h.gone text in
      omega (arith, few, short, is)

  pub new_few : (text : List ℕ) → count_in tally.new_counts text ≤ length cs
  new_few text =
      let few = count_by-le-length (λ t. bytes_eq t text) (new_texts new cs) in
      let short = few_new new cs in
      let is = h.new_ones text in
      omega (arith, few, short, is)

pub tally_more : (old new : List (List ℕ)) (cs cs' : List CommentChange) (c : CommentChange) (tally tally' : Tally)
    → IsTally old new cs tally → cs' ≡ cs ++ (c ∷ [])
    → CountsMore tally.gone_counts tally'.gone_counts (gone_text old c)
    → CountsMore tally.new_counts tally'.new_counts (new_text new c)
    → IsTally old new cs' tally'
tally_more old new cs cs' c tally tally' h is gone news = subst (λ l. IsTally old new l tally') (sym is) (record {
  gone = λ text. gone text ∙ ap (λ n. n + times text (gone_text old c)) (h.gone text) ∙ sym (gone_push old text cs c);
  new_ones = λ text. news text ∙ ap (λ n. n + times text (new_text new c)) (h.new_ones text) ∙ sym (new_push new text cs c);
})

-- ---- a map of numbers

pub count_none : (counts : BTreeMap (Bor (List ℕ)) ℕ) → IsEmpty counts → (text : List ℕ) → count_in counts text ≡ 0
count_none counts empty text =
    ap (λ es. unwrap_or (lookup (is_at (λ (key : Bor (List ℕ)). slice_cmp nat_cmp text key.now)) es) 0) empty

-- the value that a map has for a text
abbrev pub value_in : BTreeMap (Bor (List ℕ)) ℕ → List ℕ → Option ℕ
value_in counts text = get_by (λ key. slice_cmp nat_cmp text key.now) counts

module _ (counts counts' : BTreeMap (Bor (List ℕ)) ℕ) (text : List ℕ) (n : ℕ)
    (updated : (other : List ℕ) → value_in counts' other ≡ update bytes_eq (value_in counts) text (Some n) other) where
  count_here : (other : List ℕ) → bytes_eq text other ≡ true → count_in counts' other ≡ n
  count_here other is =
      ap (λ o. unwrap_or o 0) (updated other ∙ ap (λ b. cond b (Some n) (value_in counts other)) is)

  count_elsewhere : (other : List ℕ) → bytes_eq text other ≡ false → count_in counts' other ≡ count_in counts other
  count_elsewhere other is =
      ap (λ o. unwrap_or o 0) (updated other ∙ ap (λ b. cond b (Some n) (value_in counts other)) is)

  -- the number of the text is changed by one of it, and those of others aren't
  changed : (by : ℕ → ℕ → ℕ) → ((k : ℕ) → by k 0 ≡ k) → n ≡ by (count_in counts text) 1 → (other : List ℕ) (b : Bool)
      → bytes_eq text other ≡ b → count_in counts' other ≡ by (count_in counts other) (times other (text ∷ []))
  changed by none is other true e =
      let same : text ≡ other = (bytes_eq-Decides text other).0 e in
      let one : times other (text ∷ []) ≡ 1 = ap (λ b. 0 + cond b 1 0) e in
      count_here other e ∙ is ∙ ap (λ t. by (count_in counts t) 1) same ∙ ap (by (count_in counts other)) (sym one)
  changed by none is other false e =
      let none_more : times other (text ∷ []) ≡ 0 = ap (λ b. 0 + cond b 1 0) e in
      count_elsewhere other e ∙ sym (none (count_in counts other)) ∙ ap (by (count_in counts other)) (sym none_more)

  pub count_more : n ≡ count_in counts text + 1 → CountsMore counts counts' (text ∷ [])
  count_more is other = changed (λ k m. k + m) (λ k. omega arith) is other (bytes_eq text other) refl

  pub count_less : n ≡ count_in counts text - 1 → CountsLess counts counts' (text ∷ [])
  count_less is other = changed (λ k m. k - m) (λ k. omega arith) is other (bytes_eq text other) refl

-- where a text doesn't stand, nothing is taken away
pub count_same : (counts : BTreeMap (Bor (List ℕ)) ℕ) (text : List ℕ) → count_in counts text ≡ 0
    → CountsLess counts counts (text ∷ [])
count_same counts text absent other = by (times_one other text)
  where
    by : (times other (text ∷ []) ≡ 0) ⊎ ((text ≡ other) × (times other (text ∷ []) ≡ 1))
        → count_in counts other ≡ count_in counts other - times other (text ∷ [])
    by (inl none) = omega (arith, none)
    by (inr (same, one)) = let at = ap (count_in counts) same in omega (arith, one, at, absent)
