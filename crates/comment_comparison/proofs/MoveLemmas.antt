-- What has only moved is left out, change by change.
use Rattle.std.proofs.Common.{◌≡◌, ◌⊎◌, inl, inr, ℕ, ◌+◌, ◌-◌, ◌<◌, List, [], ◌∷◌, ◌++◌, sym, ap, subst, arith}
use Rattle.comment_comparison.specs.declared.change.CommentChange.{CommentChange}
use Rattle.comment_comparison.specs.declared.change.CommentChange.TheVariants.{Gone, New}
use Rattle.comment_comparison.specs.declared.tally.Tally.{Tally}
use Rattle.flowchart_comparison.specs.Entries.{compared_text}
use Rattle.comment_comparison.specs.CommentChanges.{times, gone_text, new_text, gone_texts, new_texts, none, told, untold}
use Rattle.comment_comparison.specs.private.Tallies.{count_in, CountsLess, IsTally, other_count, AreUnmoved}
use Rattle.comment_comparison.proofs.TallyLemmas.{times_one, gone_push, new_push}

-- ---- numbers of one side

left_step : (s' s u p a p' : ℕ) → s' ≡ s - a → s ≡ u - p → p' ≡ p + a → s' ≡ u - p'
left_step s' s u p a p' now before grown = omega (arith, now, before, grown)

still : (t p u p' : ℕ) → t ≡ p - u → p' ≡ p + 0 → t ≡ p' - u
still t p u p' is grown = omega (arith, is, grown)

still_told : (t p u t' p' : ℕ) → t ≡ p - u → t' ≡ t + 0 → p' ≡ p + 0 → t' ≡ p' - u
still_told t p u t' p' is more grown = omega (arith, is, more, grown)

-- Of a text t are told, p passed, and u stand on the other side; s of these are left.
module _ (x text : List ℕ) (t p u s : List ℕ → ℕ) (left : (q : List ℕ) → s q ≡ u q - p q) (is : (q : List ℕ) → t q ≡ p q - u q) where
  -- one that stands on the other side isn't told
  moved_side : (p' : ℕ) → 0 < s x → p' ≡ p text + times text (x ∷ []) → t text ≡ p' - u text
  moved_side p' some grown = by (times_one text x)
    where
      by : (times text (x ∷ []) ≡ 0) ⊎ ((x ≡ text) × (times text (x ∷ []) ≡ 1)) → t text ≡ p' - u text
      by (inl no_times) = let now = is text in omega (arith, no_times, now, grown)
      by (inr (same, one)) =
          let now = is text in
          let rest = left text in
          let at = ap s same in
          omega (arith, one, now, rest, at, some, grown)

  -- one that doesn't is
  told_side : (t' p' : ℕ) → s x ≡ 0 → t' ≡ t text + times text (x ∷ []) → p' ≡ p text + times text (x ∷ []) → t' ≡ p' - u text
  told_side t' p' absent more grown = by (times_one text x)
    where
      by : (times text (x ∷ []) ≡ 0) ⊎ ((x ≡ text) × (times text (x ∷ []) ≡ 1)) → t' ≡ p' - u text
      by (inl no_times) = let now = is text in omega (arith, no_times, now, more, grown)
      by (inr (same, one)) =
          let now = is text in
          let rest = left text in
          let at = ap s same in
          omega (arith, one, now, rest, at, absent, more, grown)

-- ---- one change more

module _ (old new : List (List ℕ)) (tally tally' : Tally) (ts : List CommentChange) where
  module _ (c : CommentChange)
      (gone_now : CountsLess tally.gone_counts tally'.gone_counts (new_text new c))
      (new_now : CountsLess tally.new_counts tally'.new_counts (gone_text old c))
      (all passed : List CommentChange) (h : AreUnmoved old new all passed ts tally) where
    gone_rest : (text : List ℕ) → count_in tally'.gone_counts text
        ≡ times text (gone_texts old all) - times text (new_texts new (passed ++ (c ∷ [])))
    gone_rest text =
        left_step (count_in tally'.gone_counts text) (count_in tally.gone_counts text) (times text (gone_texts old all))
        (times text (new_texts new passed)) (times text (new_text new c)) (times text (new_texts new (passed ++ (c ∷ []))))
        (gone_now text) (h.gone_left text) (new_push new text passed c)

    new_rest : (text : List ℕ) → count_in tally'.new_counts text
        ≡ times text (new_texts new all) - times text (gone_texts old (passed ++ (c ∷ [])))
    new_rest text =
        left_step (count_in tally'.new_counts text) (count_in tally.new_counts text) (times text (new_texts new all))
        (times text (gone_texts old passed)) (times text (gone_text old c)) (times text (gone_texts old (passed ++ (c ∷ []))))
        (new_now text) (h.new_left text) (gone_push old text passed c)

  pub is_moved : (c : CommentChange) → 0 < other_count old new tally c
      → CountsLess tally.gone_counts tally'.gone_counts (new_text new c)
      → CountsLess tally.new_counts tally'.new_counts (gone_text old c)
      → (all passed : List CommentChange) → AreUnmoved old new all passed ts tally
      → AreUnmoved old new all (passed ++ (c ∷ [])) ts tally'
  is_moved (Gone i) some gone_now new_now all passed h = record {
    some = untold (Gone i) h.some;
    gone_left = gone_rest (Gone i) gone_now new_now all passed h;
    new_left = new_rest (Gone i) gone_now new_now all passed h;
    gone = λ text. moved_side (compared_text old i) text (λ q. times q (gone_texts old ts)) (λ q. times q (gone_texts old passed))
        (λ q. times q (new_texts new all)) (count_in tally.new_counts) h.new_left h.gone
        (times text (gone_texts old (passed ++ (Gone i ∷ [])))) some (gone_push old text passed (Gone i));
    new_ones = λ text. still (times text (new_texts new ts)) (times text (new_texts new passed)) (times text (gone_texts old all))
        (times text (new_texts new (passed ++ (Gone i ∷ [])))) (h.new_ones text) (new_push new text passed (Gone i));
  }
  is_moved (New j) some gone_now new_now all passed h = record {
    some = untold (New j) h.some;
    gone_left = gone_rest (New j) gone_now new_now all passed h;
    new_left = new_rest (New j) gone_now new_now all passed h;
    gone = λ text. still (times text (gone_texts old ts)) (times text (gone_texts old passed)) (times text (new_texts new all))
        (times text (gone_texts old (passed ++ (New j ∷ [])))) (h.gone text) (gone_push old text passed (New j));
    new_ones = λ text. moved_side (compared_text new j) text (λ q. times q (new_texts new ts)) (λ q. times q (new_texts new passed))
        (λ q. times q (gone_texts old all)) (count_in tally.gone_counts) h.gone_left h.new_ones
        (times text (new_texts new (passed ++ (New j ∷ [])))) some (new_push new text passed (New j));
  }

  is_told : (c : CommentChange) → other_count old new tally c ≡ 0
      → CountsLess tally.gone_counts tally'.gone_counts (new_text new c)
      → CountsLess tally.new_counts tally'.new_counts (gone_text old c)
      → (all passed : List CommentChange) → AreUnmoved old new all passed ts tally
      → AreUnmoved old new all (passed ++ (c ∷ [])) (ts ++ (c ∷ [])) tally'
  is_told (Gone i) absent gone_now new_now all passed h = record {
    some = told (Gone i) h.some;
    gone_left = gone_rest (Gone i) gone_now new_now all passed h;
    new_left = new_rest (Gone i) gone_now new_now all passed h;
    gone = λ text. told_side (compared_text old i) text (λ q. times q (gone_texts old ts)) (λ q. times q (gone_texts old passed))
        (λ q. times q (new_texts new all)) (count_in tally.new_counts) h.new_left h.gone
        (times text (gone_texts old (ts ++ (Gone i ∷ [])))) (times text (gone_texts old (passed ++ (Gone i ∷ [])))) absent
        (gone_push old text ts (Gone i)) (gone_push old text passed (Gone i));
    new_ones = λ text. still_told (times text (new_texts new ts)) (times text (new_texts new passed)) (times text (gone_texts old all))
        (times text (new_texts new (ts ++ (Gone i ∷ [])))) (times text (new_texts new (passed ++ (Gone i ∷ [])))) (h.new_ones text)
        (new_push new text ts (Gone i)) (new_push new text passed (Gone i));
  }
  is_told (New j) absent gone_now new_now all passed h = record {
    some = told (New j) h.some;
    gone_left = gone_rest (New j) gone_now new_now all passed h;
    new_left = new_rest (New j) gone_now new_now all passed h;
    gone = λ text. still_told (times text (gone_texts old ts)) (times text (gone_texts old passed)) (times text (new_texts new all))
        (times text (gone_texts old (ts ++ (New j ∷ [])))) (times text (gone_texts old (passed ++ (New j ∷ [])))) (h.gone text)
        (gone_push old text ts (New j)) (gone_push old text passed (New j));
    new_ones = λ text. told_side (compared_text new j) text (λ q. times q (new_texts new ts)) (λ q. times q (new_texts new passed))
        (λ q. times q (gone_texts old all)) (count_in tally.gone_counts) h.gone_left h.new_ones
        (times text (new_texts new (ts ++ (New j ∷ [])))) (times text (new_texts new (passed ++ (New j ∷ [])))) absent
        (new_push new text ts (New j)) (new_push new text passed (New j));
  }

  pub is_told_as : (c : CommentChange) (ts' : List CommentChange) → ts' ≡ ts ++ (c ∷ []) → other_count old new tally c ≡ 0
      → CountsLess tally.gone_counts tally'.gone_counts (new_text new c)
      → CountsLess tally.new_counts tally'.new_counts (gone_text old c)
      → (all passed : List CommentChange) → AreUnmoved old new all passed ts tally
      → AreUnmoved old new all (passed ++ (c ∷ [])) ts' tally'
  is_told_as c ts' is absent gone_now new_now all passed h =
      subst (λ l. AreUnmoved old new all (passed ++ (c ∷ [])) l tally') (sym is)
      (is_told c absent gone_now new_now all passed h)

-- ---- all

none_passed : (a b : ℕ) → a ≡ b → a ≡ b - 0
none_passed a b e = omega (arith, e)

pub unmoved_start : (old new : List (List ℕ)) (all ts : List CommentChange) (tally : Tally) → IsTally old new all tally → ts ≡ []
    → AreUnmoved old new all [] ts tally
unmoved_start old new all ts tally h is = subst (λ l. AreUnmoved old new all [] l tally) (sym is) (record {
  some = none;
  gone_left = λ text. none_passed (count_in tally.gone_counts text) (times text (gone_texts old all)) (h.gone text);
  new_left = λ text. none_passed (count_in tally.new_counts text) (times text (new_texts new all)) (h.new_ones text);
  gone = λ text. let e : 0 ≡ 0 - times text (new_texts new all) = omega arith in e;
  new_ones = λ text. let e : 0 ≡ 0 - times text (gone_texts old all) = omega arith in e;
})
