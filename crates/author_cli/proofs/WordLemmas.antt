-- The words of the program, and the form that they have.
use Rattle.std.proofs.Common.{◌≡◌, ℕ, suc, ◌+◌, ◌-◌, ◌<◌, ◌≤◌, List, [], ◌∷◌, ◌++◌, length, take, drop, get_or, refl, sym, ap, ◌∙◌, subst, arith, add-one}
use Rattle.std.specs.Prelude.{Option, Some, None, codes, String, string_bytes}
use Rattle.std.specs.Option.{ForSome}
use Rattle.std.proofs.lemmas.Fmt.{decimal_injective}
use Rattle.std.specs.declared.alloc.Global.{Global}
use Rattle.std.proofs.lemmas.List.{length-map, take_all, take_more, take-append-drop, map-append}
use Rattle.std.proofs.Math.Seq.{drop-cons}
use Rattle.payroll_records.specs.ValueWords.{AreValueWords}
use Rattle.payroll_records.specs.declared.values.NamedValue.{NamedValue}
use Rattle.payroll_records.proofs.Laws.{values_once}
use Rattle.author_cli.specs.Words.{texts, Medium, as_text, as_page, NamedPlans, two_plans, with_limits, plan_names, behind_compare, behind_cover, Form, chart, chart_within, ranges, compared, traced, drawn, example, linted, covered, least_words, HasForm, IsBad}
use Rattle.author_cli.specs.private.WordViews.{text_words}

two_three : (a b c d e : List ℕ) → a ∷ b ∷ [] ≡ c ∷ d ∷ e ∷ [] → ⊥
two_three a b c d e h = let l : 2 ≡ 3 = ap (λ w. length w) h in omega (arith, l)

two_more : (a b c d e f : List ℕ) (rest : List (List ℕ)) → a ∷ b ∷ [] ≡ c ∷ d ∷ e ∷ f ∷ rest → ⊥
two_more a b c d e f rest h = let l : 2 ≡ suc (suc (suc (suc (length rest)))) = ap (λ w. length w) h in omega (arith, l)

three_more : (a b c d e f g : List ℕ) (rest : List (List ℕ)) → a ∷ b ∷ c ∷ [] ≡ d ∷ e ∷ f ∷ g ∷ rest → ⊥
three_more a b c d e f g rest h = let l : 3 ≡ suc (suc (suc (suc (length rest)))) = ap (λ w. length w) h in omega (arith, l)

chart_ranges : codes "chart" ≡ codes "ranges" → ⊥
chart_ranges e = cc

chart_example : codes "chart" ≡ codes "example" → ⊥
chart_example e = cc

chart_lint : codes "chart" ≡ codes "lint" → ⊥
chart_lint e = cc

example_lint : codes "example" ≡ codes "lint" → ⊥
example_lint e = cc

lint_trace : codes "lint" ≡ codes "trace" → ⊥
lint_trace e = cc

example_trace : codes "example" ≡ codes "trace" → ⊥
example_trace e = cc

chart_trace : codes "chart" ≡ codes "trace" → ⊥
chart_trace e = let c : 99 ≡ 116 = ap (λ w. get_or w 0 0) e in omega (arith, c)

text_trace : codes "text" ≡ codes "trace" → ⊥
text_trace e = cc

two_rest : (a b c d e : List ℕ) (rest : List (List ℕ)) → a ∷ b ∷ [] ≡ c ∷ d ∷ e ∷ rest → ⊥
two_rest a b c d e rest h = let l : 2 ≡ suc (suc (suc (length rest))) = ap (λ w. length w) h in omega (arith, l)

compare_trace : codes "compare" ≡ codes "trace" → ⊥
compare_trace e = cc

compare_cover : codes "compare" ≡ codes "cover" → ⊥
compare_cover e = cc

cover_trace : codes "cover" ≡ codes "trace" → ⊥
cover_trace e = let c : 99 ≡ 116 = ap (λ w. get_or w 0 0) e in omega (arith, c)

-- ---- one form

first : (words : List (List ℕ)) (a b : List ℕ) (x y : List (List ℕ)) → words ≡ a ∷ x → words ≡ b ∷ y → a ≡ b
first words a b x y h k = ap (λ w. get_or w 0 []) (sym h ∙ k)

second : (words : List (List ℕ)) (a b c d : List ℕ) (x y : List (List ℕ)) → words ≡ a ∷ b ∷ x → words ≡ c ∷ d ∷ y
    → b ≡ d
second words a b c d x y h k = ap (λ w. get_or w 1 []) (sym h ∙ k)

third : (words : List (List ℕ)) (a b c d e f : List ℕ) → words ≡ a ∷ b ∷ c ∷ [] → words ≡ d ∷ e ∷ f ∷ [] → c ≡ f
third words a b c d e f h k = ap (λ w. get_or w 2 []) (sym h ∙ k)

-- the words for a share say which it is
one_least : (a b : Option ℕ) → ForSome a (λ n. n ≤ 100) → ForSome b (λ n. n ≤ 100) → least_words a ≡ least_words b → a ≡ b
one_least None None p q e = refl
one_least None (Some n) p q e = cc
one_least (Some m) None p q e = cc
one_least (Some m) (Some n) p q e =
    let few : m ≤ 100 = p m refl in
    let few' : n ≤ 100 = q n refl in
    ap (λ k. Some k) (decimal_injective m n (omega arith) (omega arith) (ap (λ w. get_or w 1 []) e))

-- ---- the words for a comparison

chart_text : codes "chart" ≡ codes "text" → ⊥
chart_text e = cc

chart_compare : codes "chart" ≡ codes "compare" → ⊥
chart_compare e = cc

ranges_text : codes "ranges" ≡ codes "text" → ⊥
ranges_text e = cc

ranges_compare : codes "ranges" ≡ codes "compare" → ⊥
ranges_compare e = cc

example_text : codes "example" ≡ codes "text" → ⊥
example_text e = cc

example_compare : codes "example" ≡ codes "compare" → ⊥
example_compare e = let c : 101 ≡ 99 = ap (λ w. get_or w 0 0) e in omega (arith, c)

lint_text : codes "lint" ≡ codes "text" → ⊥
lint_text e = let c : 108 ≡ 116 = ap (λ w. get_or w 0 0) e in omega (arith, c)

lint_compare : codes "lint" ≡ codes "compare" → ⊥
lint_compare e = cc

trace_text : codes "trace" ≡ codes "text" → ⊥
trace_text e = text_trace (sym e)

trace_compare : codes "trace" ≡ codes "compare" → ⊥
trace_compare e = compare_trace (sym e)

cover_compare : codes "cover" ≡ codes "compare" → ⊥
cover_compare e = compare_cover (sym e)

text_compare : codes "text" ≡ codes "compare" → ⊥
text_compare e = cc

-- words for a comparison begin with `text` or `compare`
no_compare_first : (words rest names : List (List ℕ)) (a : List ℕ) (m : Medium) → words ≡ a ∷ rest → words ≡ behind_compare m names
    → (a ≡ codes "text" → ⊥) → (a ≡ codes "compare" → ⊥) → ⊥
no_compare_first words rest names a as_text h k no_text no_page = no_text (first words a _ rest (codes "compare" ∷ names) h k)
no_compare_first words rest names a as_page h k no_text no_page = no_page (first words a _ rest names h k)

-- words for a comparison that begin with `text` go on with `compare`
no_compare_second : (words rest names : List (List ℕ)) (a : List ℕ) (m : Medium) → words ≡ codes "text" ∷ a ∷ rest
    → words ≡ behind_compare m names → (a ≡ codes "compare" → ⊥) → ⊥
no_compare_second words rest names a as_text h k no_text = no_text (second words _ a _ _ rest names h k)
no_compare_second words rest names a as_page h k no_text = text_compare (first words _ _ (a ∷ rest) names h k)

two_four : (a b c d e f : List ℕ) → a ∷ b ∷ [] ≡ c ∷ d ∷ e ∷ f ∷ [] → ⊥
two_four a b c d e f h = two_more a b c d e f [] h

same_plans : (c d : NamedPlans) → plan_names c ≡ plan_names d → c ≡ d
same_plans (two_plans o n) (two_plans p q) e = ap (λ w. two_plans (get_or w 0 []) (get_or w 1 [])) e
same_plans (two_plans o n) (with_limits p l q m) e = absurd (two_four o n p l q m e)
same_plans (with_limits p l q m) (two_plans o n) e = absurd (two_four o n p l q m (sym e))
same_plans (with_limits p l q m) (with_limits o k n j) e =
    ap (λ w. with_limits (get_or w 0 []) (get_or w 1 []) (get_or w 2 []) (get_or w 3 [])) e

same_names : (m n : Medium) (xs ys : List (List ℕ)) → behind_compare m xs ≡ behind_compare n ys → (m ≡ n) × (xs ≡ ys)
same_names as_text as_text xs ys e = (refl, ap (λ w. drop 2 w) e)
same_names as_text as_page xs ys e = absurd (text_compare (ap (λ w. get_or w 0 []) e))
same_names as_page as_text xs ys e = absurd (text_compare (ap (λ w. get_or w 0 []) (sym e)))
same_names as_page as_page xs ys e = (refl, ap (λ w. drop 1 w) e)

same_compared : (m n : Medium) (c d : NamedPlans) → behind_compare m (plan_names c) ≡ behind_compare n (plan_names d)
    → compared m c ≡ compared n d
same_compared m n c d e =
    let same = same_names m n (plan_names c) (plan_names d) e in
    ap (λ x. compared x c) same.0 ∙ ap (λ x. compared n x) (same_plans c d same.1)

-- how many words a comparison has
compare_long : (m : Medium) (c : NamedPlans) → 3 ≤ length (behind_compare m (plan_names c))
compare_long as_text (two_plans o n) = omega arith
compare_long as_text (with_limits o l n k) = omega arith
compare_long as_page (two_plans o n) = omega arith
compare_long as_page (with_limits o l n k) = omega arith

-- ---- the words for what runs cover

chart_cover : codes "chart" ≡ codes "cover" → ⊥
chart_cover e = let c : 104 ≡ 111 = ap (λ w. get_or w 1 0) e in omega (arith, c)

ranges_cover : codes "ranges" ≡ codes "cover" → ⊥
ranges_cover e = cc

example_cover : codes "example" ≡ codes "cover" → ⊥
example_cover e = let c : 101 ≡ 99 = ap (λ w. get_or w 0 0) e in omega (arith, c)

lint_cover : codes "lint" ≡ codes "cover" → ⊥
lint_cover e = cc

trace_cover : codes "trace" ≡ codes "cover" → ⊥
trace_cover e = cover_trace (sym e)

text_cover : codes "text" ≡ codes "cover" → ⊥
text_cover e = cc

compare_text : codes "compare" ≡ codes "text" → ⊥
compare_text e = text_compare (sym e)

-- words for what runs cover begin with `text` or `cover`
no_cover_first : (words rest names : List (List ℕ)) (a : List ℕ) (m : Medium) → words ≡ a ∷ rest → words ≡ behind_cover m names
    → (a ≡ codes "text" → ⊥) → (a ≡ codes "cover" → ⊥) → ⊥
no_cover_first words rest names a as_text h k no_text no_page = no_text (first words a _ rest (codes "cover" ∷ names) h k)
no_cover_first words rest names a as_page h k no_text no_page = no_page (first words a _ rest names h k)

-- such words that begin with `text` go on with `cover`
no_cover_second : (words rest names : List (List ℕ)) (a : List ℕ) (m : Medium) → words ≡ codes "text" ∷ a ∷ rest
    → words ≡ behind_cover m names → (a ≡ codes "cover" → ⊥) → ⊥
no_cover_second words rest names a as_text h k no_text = no_text (second words _ a _ _ rest names h k)
no_cover_second words rest names a as_page h k no_text = text_cover (first words _ _ (a ∷ rest) names h k)

-- words for a comparison aren't such words
compare_or_cover : (words xs ys : List (List ℕ)) (m n : Medium) → words ≡ behind_compare m xs → words ≡ behind_cover n ys → ⊥
compare_or_cover words xs ys as_text n h k = no_cover_second words xs ys _ n h k compare_cover
compare_or_cover words xs ys as_page n h k = no_cover_first words xs ys _ n h k compare_text compare_cover

same_covers : (m n : Medium) (xs ys : List (List ℕ)) → behind_cover m xs ≡ behind_cover n ys → (m ≡ n) × (xs ≡ ys)
same_covers as_text as_text xs ys e = (refl, ap (λ w. drop 2 w) e)
same_covers as_text as_page xs ys e = absurd (text_cover (ap (λ w. get_or w 0 []) e))
same_covers as_page as_text xs ys e = absurd (text_cover (ap (λ w. get_or w 0 []) (sym e)))
same_covers as_page as_page xs ys e = (refl, ap (λ w. drop 1 w) e)

same_covered : (m u : Medium) (p l t q k v : List ℕ) (n o : Option ℕ) → ForSome n (λ x. x ≤ 100) → ForSome o (λ x. x ≤ 100)
    → behind_cover m (p ∷ l ∷ t ∷ least_words n) ≡ behind_cover u (q ∷ k ∷ v ∷ least_words o)
    → covered m p l t n ≡ covered u q k v o
same_covered m u p l t q k v n o few few' e =
    let same = same_covers m u (p ∷ l ∷ t ∷ least_words n) (q ∷ k ∷ v ∷ least_words o) e in
    ap (λ x. covered x p l t n) same.0
    ∙ ap (λ w. covered u (get_or w 0 []) (get_or w 1 []) (get_or w 2 []) n) same.1
    ∙ ap (λ x. covered u q k v x) (one_least n o few few' (ap (λ w. drop 3 w) same.1))

-- how many words there are
cover_long : (m : Medium) (p l t : List ℕ) (rest : List (List ℕ)) → 4 ≤ length (behind_cover m (p ∷ l ∷ t ∷ rest))
cover_long as_text p l t rest = omega arith
cover_long as_page p l t rest = omega arith

two_cover : (a b : List ℕ) (m : Medium) (p l t : List ℕ) (rest : List (List ℕ)) → a ∷ b ∷ [] ≡ behind_cover m (p ∷ l ∷ t ∷ rest) → ⊥
two_cover a b m p l t rest h =
    let n : 2 ≡ length (behind_cover m (p ∷ l ∷ t ∷ rest)) = ap (λ w. length w) h in
    omega (arith, n, cover_long m p l t rest)

three_cover : (a b c : List ℕ) (m : Medium) (p l t : List ℕ) (rest : List (List ℕ))
    → a ∷ b ∷ c ∷ [] ≡ behind_cover m (p ∷ l ∷ t ∷ rest) → ⊥
three_cover a b c m p l t rest h =
    let n : 3 ≡ length (behind_cover m (p ∷ l ∷ t ∷ rest)) = ap (λ w. length w) h in
    omega (arith, n, cover_long m p l t rest)

two_compare : (a b : List ℕ) (m : Medium) (c : NamedPlans) → a ∷ b ∷ [] ≡ behind_compare m (plan_names c) → ⊥
two_compare a b m c h =
    let l : 2 ≡ length (behind_compare m (plan_names c)) = ap (λ w. length w) h in
    omega (arith, l, compare_long m c)

pub one_form : (words : List (List ℕ)) (a b : Form) → HasForm words a → HasForm words b → a ≡ b
one_form words (chart p) (chart q) h k = ap (λ x. chart x) (second words _ p _ q [] [] h k)
one_form words (chart p) (chart_within q l) h k = absurd (two_three _ p _ q l (sym h ∙ k))
one_form words (chart p) (ranges q) h k = absurd (chart_ranges (first words _ _ (p ∷ []) (q ∷ []) h k))
one_form words (chart_within p l) (chart q) h k = absurd (two_three _ q _ p l (sym k ∙ h))
one_form words (chart_within p l) (chart_within q m) h k =
    ap (λ x. chart_within x l) (second words _ p _ q (l ∷ []) (m ∷ []) h k)
    ∙ ap (λ x. chart_within q x) (third words _ p l _ q m h k)
one_form words (chart_within p l) (ranges q) h k = absurd (two_three _ q _ p l (sym k ∙ h))
one_form words (ranges p) (chart q) h k = absurd (chart_ranges (first words _ _ (q ∷ []) (p ∷ []) k h))
one_form words (ranges p) (chart_within q l) h k = absurd (two_three _ p _ q l (sym h ∙ k))
one_form words (ranges p) (ranges q) h k = ap (λ x. ranges x) (second words _ p _ q [] [] h k)
one_form words (chart p) (compared m c) h k =
    absurd (no_compare_first words (p ∷ []) (plan_names c) _ m h k chart_text chart_compare)
one_form words (chart_within p l) (compared m c) h k =
    absurd (no_compare_first words (p ∷ l ∷ []) (plan_names c) _ m h k chart_text chart_compare)
one_form words (ranges p) (compared m c) h k =
    absurd (no_compare_first words (p ∷ []) (plan_names c) _ m h k ranges_text ranges_compare)
one_form words (compared m c) (chart p) h k =
    absurd (no_compare_first words (p ∷ []) (plan_names c) _ m k h chart_text chart_compare)
one_form words (compared m c) (chart_within p l) h k =
    absurd (no_compare_first words (p ∷ l ∷ []) (plan_names c) _ m k h chart_text chart_compare)
one_form words (compared m c) (ranges p) h k =
    absurd (no_compare_first words (p ∷ []) (plan_names c) _ m k h ranges_text ranges_compare)
one_form words (compared m c) (compared n d) h k = same_compared m n c d (sym h ∙ k)
one_form words (chart p) (traced q l vs) h k = absurd (two_more _ p _ _ q l k.rest (sym h ∙ k.words_are))
one_form words (chart_within p m) (traced q l vs) h k = absurd (three_more _ p m _ _ q l k.rest (sym h ∙ k.words_are))
one_form words (ranges p) (traced q l vs) h k = absurd (two_more _ p _ _ q l k.rest (sym h ∙ k.words_are))
one_form words (compared m c) (traced q l vs) h k =
    absurd (no_compare_second words (q ∷ l ∷ k.rest) (plan_names c) _ m k.words_are h trace_compare)
one_form words (traced q l vs) (chart p) h k = absurd (two_more _ p _ _ q l h.rest (sym k ∙ h.words_are))
one_form words (traced q l vs) (chart_within p m) h k = absurd (three_more _ p m _ _ q l h.rest (sym k ∙ h.words_are))
one_form words (traced q l vs) (ranges p) h k = absurd (two_more _ p _ _ q l h.rest (sym k ∙ h.words_are))
one_form words (traced q l vs) (compared m c) h k =
    absurd (no_compare_second words (q ∷ l ∷ h.rest) (plan_names c) _ m h.words_are k trace_compare)
one_form words (traced p l vs) (traced q m us) h k =
    let same = sym h.words_are ∙ k.words_are in
    ap (λ w. traced (get_or w 2 []) (get_or w 3 []) vs) same
    ∙ ap (λ v. traced q m v)
    (values_once k.rest vs us (subst (λ r. AreValueWords r vs) (ap (λ w. drop 4 w) same) h.values_are) k.values_are)
one_form words (chart p) (drawn q l vs) h k = absurd (two_rest _ p _ q l k.rest (sym h ∙ k.words_are))
one_form words (chart_within p m) (drawn q l vs) h k =
    absurd (chart_trace (first words _ _ (p ∷ m ∷ []) (q ∷ l ∷ k.rest) h k.words_are))
one_form words (ranges p) (drawn q l vs) h k = absurd (two_rest _ p _ q l k.rest (sym h ∙ k.words_are))
one_form words (compared m c) (drawn q l vs) h k =
    absurd (no_compare_first words (q ∷ l ∷ k.rest) (plan_names c) _ m k.words_are h trace_text trace_compare)
one_form words (traced p m us) (drawn q l vs) h k =
    absurd (text_trace (first words _ _ (codes "trace" ∷ p ∷ m ∷ h.rest) (q ∷ l ∷ k.rest) h.words_are k.words_are))
one_form words (drawn q l vs) (chart p) h k = absurd (two_rest _ p _ q l h.rest (sym k ∙ h.words_are))
one_form words (drawn q l vs) (chart_within p m) h k =
    absurd (chart_trace (first words _ _ (p ∷ m ∷ []) (q ∷ l ∷ h.rest) k h.words_are))
one_form words (drawn q l vs) (ranges p) h k = absurd (two_rest _ p _ q l h.rest (sym k ∙ h.words_are))
one_form words (drawn q l vs) (compared m c) h k =
    absurd (no_compare_first words (q ∷ l ∷ h.rest) (plan_names c) _ m h.words_are k trace_text trace_compare)
one_form words (drawn q l vs) (traced p m us) h k =
    absurd (text_trace (first words _ _ (codes "trace" ∷ p ∷ m ∷ k.rest) (q ∷ l ∷ h.rest) k.words_are h.words_are))
one_form words (drawn p l vs) (drawn q m us) h k =
    let same = sym h.words_are ∙ k.words_are in
    ap (λ w. drawn (get_or w 1 []) (get_or w 2 []) vs) same
    ∙ ap (λ v. drawn q m v)
    (values_once k.rest vs us (subst (λ r. AreValueWords r vs) (ap (λ w. drop 3 w) same) h.values_are) k.values_are)
one_form words (chart p) (example q l) h k = absurd (two_three _ p _ q l (sym h ∙ k))
one_form words (chart_within p m) (example q l) h k =
    absurd (chart_example (first words _ _ (p ∷ m ∷ []) (q ∷ l ∷ []) h k))
one_form words (ranges p) (example q l) h k = absurd (two_three _ p _ q l (sym h ∙ k))
one_form words (compared m c) (example q l) h k =
    absurd (no_compare_first words (q ∷ l ∷ []) (plan_names c) _ m k h example_text example_compare)
one_form words (traced p m vs) (example q l) h k = absurd (three_more _ q l _ _ p m h.rest (sym k ∙ h.words_are))
one_form words (example q l) (chart p) h k = absurd (two_three _ p _ q l (sym k ∙ h))
one_form words (example q l) (chart_within p m) h k =
    absurd (chart_example (first words _ _ (p ∷ m ∷ []) (q ∷ l ∷ []) k h))
one_form words (example q l) (ranges p) h k = absurd (two_three _ p _ q l (sym k ∙ h))
one_form words (example q l) (compared m c) h k =
    absurd (no_compare_first words (q ∷ l ∷ []) (plan_names c) _ m h k example_text example_compare)
one_form words (example q l) (traced p m vs) h k = absurd (three_more _ q l _ _ p m k.rest (sym h ∙ k.words_are))
one_form words (example p l) (example q m) h k =
    ap (λ x. example x l) (second words _ p _ q (l ∷ []) (m ∷ []) h k)
    ∙ ap (λ x. example q x) (third words _ p l _ q m h k)
one_form words (drawn q l vs) (example p m) h k =
    absurd (example_trace (first words _ _ (p ∷ m ∷ []) (q ∷ l ∷ h.rest) k h.words_are))
one_form words (example p m) (drawn q l vs) h k =
    absurd (example_trace (first words _ _ (p ∷ m ∷ []) (q ∷ l ∷ k.rest) h k.words_are))
one_form words (chart p) (linted q l) h k = absurd (two_three _ p _ q l (sym h ∙ k))
one_form words (chart_within p m) (linted q l) h k =
    absurd (chart_lint (first words _ _ (p ∷ m ∷ []) (q ∷ l ∷ []) h k))
one_form words (ranges p) (linted q l) h k = absurd (two_three _ p _ q l (sym h ∙ k))
one_form words (compared m c) (linted q l) h k =
    absurd (no_compare_first words (q ∷ l ∷ []) (plan_names c) _ m k h lint_text lint_compare)
one_form words (traced p m vs) (linted q l) h k = absurd (three_more _ q l _ _ p m h.rest (sym k ∙ h.words_are))
one_form words (linted q l) (chart p) h k = absurd (two_three _ p _ q l (sym k ∙ h))
one_form words (linted q l) (chart_within p m) h k =
    absurd (chart_lint (first words _ _ (p ∷ m ∷ []) (q ∷ l ∷ []) k h))
one_form words (linted q l) (ranges p) h k = absurd (two_three _ p _ q l (sym k ∙ h))
one_form words (linted q l) (compared m c) h k =
    absurd (no_compare_first words (q ∷ l ∷ []) (plan_names c) _ m h k lint_text lint_compare)
one_form words (linted q l) (traced p m vs) h k = absurd (three_more _ q l _ _ p m k.rest (sym h ∙ k.words_are))
one_form words (linted p l) (linted q m) h k =
    ap (λ x. linted x l) (second words _ p _ q (l ∷ []) (m ∷ []) h k)
    ∙ ap (λ x. linted q x) (third words _ p l _ q m h k)
one_form words (drawn q l vs) (linted p m) h k =
    absurd (lint_trace (first words _ _ (p ∷ m ∷ []) (q ∷ l ∷ h.rest) k h.words_are))
one_form words (linted p m) (drawn q l vs) h k =
    absurd (lint_trace (first words _ _ (p ∷ m ∷ []) (q ∷ l ∷ k.rest) h k.words_are))
one_form words (example q l) (linted p m) h k =
    absurd (example_lint (first words _ _ (q ∷ l ∷ []) (p ∷ m ∷ []) h k))
one_form words (linted p m) (example q l) h k =
    absurd (example_lint (first words _ _ (q ∷ l ∷ []) (p ∷ m ∷ []) k h))
one_form words (chart p) (covered m q l t n) h k =
    absurd (no_cover_first words (p ∷ []) (q ∷ l ∷ t ∷ least_words n) _ m h k.words_are chart_text chart_cover)
one_form words (chart_within p u) (covered m q l t n) h k =
    absurd (no_cover_first words (p ∷ u ∷ []) (q ∷ l ∷ t ∷ least_words n) _ m h k.words_are chart_text chart_cover)
one_form words (ranges p) (covered m q l t n) h k =
    absurd (no_cover_first words (p ∷ []) (q ∷ l ∷ t ∷ least_words n) _ m h k.words_are ranges_text ranges_cover)
one_form words (compared u c) (covered m q l t n) h k =
    absurd (compare_or_cover words (plan_names c) (q ∷ l ∷ t ∷ least_words n) u m h k.words_are)
one_form words (traced p u vs) (covered m q l t n) h k =
    absurd (no_cover_second words (p ∷ u ∷ h.rest) (q ∷ l ∷ t ∷ least_words n) _ m h.words_are k.words_are trace_cover)
one_form words (drawn p u vs) (covered m q l t n) h k =
    absurd (no_cover_first words (p ∷ u ∷ h.rest) (q ∷ l ∷ t ∷ least_words n) _ m h.words_are k.words_are trace_text trace_cover)
one_form words (example p u) (covered m q l t n) h k =
    absurd (no_cover_first words (p ∷ u ∷ []) (q ∷ l ∷ t ∷ least_words n) _ m h k.words_are example_text example_cover)
one_form words (linted p u) (covered m q l t n) h k =
    absurd (no_cover_first words (p ∷ u ∷ []) (q ∷ l ∷ t ∷ least_words n) _ m h k.words_are lint_text lint_cover)
one_form words (covered m q l t n) (chart p) h k =
    absurd (no_cover_first words (p ∷ []) (q ∷ l ∷ t ∷ least_words n) _ m k h.words_are chart_text chart_cover)
one_form words (covered m q l t n) (chart_within p u) h k =
    absurd (no_cover_first words (p ∷ u ∷ []) (q ∷ l ∷ t ∷ least_words n) _ m k h.words_are chart_text chart_cover)
one_form words (covered m q l t n) (ranges p) h k =
    absurd (no_cover_first words (p ∷ []) (q ∷ l ∷ t ∷ least_words n) _ m k h.words_are ranges_text ranges_cover)
one_form words (covered m q l t n) (compared u c) h k =
    absurd (compare_or_cover words (plan_names c) (q ∷ l ∷ t ∷ least_words n) u m k h.words_are)
one_form words (covered m q l t n) (traced p u vs) h k =
    absurd (no_cover_second words (p ∷ u ∷ k.rest) (q ∷ l ∷ t ∷ least_words n) _ m k.words_are h.words_are trace_cover)
one_form words (covered m q l t n) (drawn p u vs) h k =
    absurd (no_cover_first words (p ∷ u ∷ k.rest) (q ∷ l ∷ t ∷ least_words n) _ m k.words_are h.words_are trace_text trace_cover)
one_form words (covered m q l t n) (example p u) h k =
    absurd (no_cover_first words (p ∷ u ∷ []) (q ∷ l ∷ t ∷ least_words n) _ m k h.words_are example_text example_cover)
one_form words (covered m q l t n) (linted p u) h k =
    absurd (no_cover_first words (p ∷ u ∷ []) (q ∷ l ∷ t ∷ least_words n) _ m k h.words_are lint_text lint_cover)
one_form words (covered m p l t n) (covered u q k v o) h g =
    same_covered m u p l t q k v n o h.percent g.percent (sym h.words_are ∙ g.words_are)

-- ---- no form

-- a command and one name
pub no_two : (command plan : List ℕ) → ¬ (command ≡ codes "chart") → ¬ (command ≡ codes "ranges")
    → IsBad (command ∷ plan ∷ [])
no_two command plan no_chart no_ranges (chart p) h = no_chart (ap (λ w. get_or w 0 []) h)
no_two command plan no_chart no_ranges (chart_within p l) h = two_three _ plan _ p l h
no_two command plan no_chart no_ranges (ranges p) h = no_ranges (ap (λ w. get_or w 0 []) h)
no_two command plan no_chart no_ranges (compared m c) h = two_compare _ plan m c h
no_two command plan no_chart no_ranges (traced p l vs) h = two_more _ plan _ _ p l h.rest h.words_are
no_two command plan no_chart no_ranges (drawn p l vs) h = two_rest _ plan _ p l h.rest h.words_are
no_two command plan no_chart no_ranges (example p l) h = two_three _ plan _ p l h
no_two command plan no_chart no_ranges (linted p l) h = two_three _ plan _ p l h
no_two command plan no_chart no_ranges (covered m p l t n) h = two_cover _ plan m p l t (least_words n) h.words_are

three_compare : (a b d : List ℕ) (m : Medium) (c : NamedPlans) → ¬ (a ≡ codes "compare")
    → a ∷ b ∷ d ∷ [] ≡ behind_compare m (plan_names c) → ⊥
three_compare a b d as_text (two_plans o n) no_page h = three_more a b d _ _ o n [] h
three_compare a b d as_text (with_limits o l n k) no_page h = three_more a b d _ _ o l (n ∷ k ∷ []) h
three_compare a b d as_page c no_page h = no_page (ap (λ w. get_or w 0 []) h)

-- a command and two names
pub no_three : (command plan limits : List ℕ) → ¬ (command ≡ codes "chart") → ¬ (command ≡ codes "trace") → ¬ (command ≡ codes "example")
    → ¬ (command ≡ codes "lint") → ¬ (command ≡ codes "compare")
    → IsBad (command ∷ plan ∷ limits ∷ [])
no_three command plan limits no_chart no_trace no_example no_lint no_compare (chart p) h = two_three _ p _ plan limits (sym h)
no_three command plan limits no_chart no_trace no_example no_lint no_compare (chart_within p l) h = no_chart (ap (λ w. get_or w 0 []) h)
no_three command plan limits no_chart no_trace no_example no_lint no_compare (ranges p) h = two_three _ p _ plan limits (sym h)
no_three command plan limits no_chart no_trace no_example no_lint no_compare (compared m c) h = three_compare command plan limits m c no_compare h
no_three command plan limits no_chart no_trace no_example no_lint no_compare (traced p l vs) h = three_more _ plan limits _ _ p l h.rest h.words_are
no_three command plan limits no_chart no_trace no_example no_lint no_compare (drawn p l vs) h = no_trace (ap (λ w. get_or w 0 []) h.words_are)
no_three command plan limits no_chart no_trace no_example no_lint no_compare (example p l) h = no_example (ap (λ w. get_or w 0 []) h)
no_three command plan limits no_chart no_trace no_example no_lint no_compare (linted p l) h = no_lint (ap (λ w. get_or w 0 []) h)
no_three command plan limits no_chart no_trace no_example no_lint no_compare (covered m p l t n) h =
    three_cover _ plan limits m p l t (least_words n) h.words_are

-- a form, a command, two names and some words
pub no_more : (form command first second : List ℕ) (rest : List (List ℕ))
    → (form ≡ codes "text" → ¬ (command ≡ codes "compare")) → (form ≡ codes "text" → ¬ (command ≡ codes "trace"))
    → (form ≡ codes "text" → ¬ (command ≡ codes "cover")) → ¬ (form ≡ codes "trace") → ¬ (form ≡ codes "compare")
    → ¬ (form ≡ codes "cover") → IsBad (form ∷ command ∷ first ∷ second ∷ rest)
no_more form command first second rest no_compare no_trace no_cover no_drawn no_page no_covered_page (chart p) h = two_more _ p _ _ first second rest (sym h)
no_more form command first second rest no_compare no_trace no_cover no_drawn no_page no_covered_page (chart_within p l) h =
    three_more _ p l _ _ first second rest (sym h)
no_more form command first second rest no_compare no_trace no_cover no_drawn no_page no_covered_page (ranges p) h = two_more _ p _ _ first second rest (sym h)
no_more form command first second rest no_compare no_trace no_cover no_drawn no_page no_covered_page (compared as_text c) h =
    no_compare (ap (λ w. get_or w 0 []) h) (ap (λ w. get_or w 1 []) h)
no_more form command first second rest no_compare no_trace no_cover no_drawn no_page no_covered_page (compared as_page c) h =
    no_page (ap (λ w. get_or w 0 []) h)
no_more form command first second rest no_compare no_trace no_cover no_drawn no_page no_covered_page (traced p l vs) h =
    no_trace (ap (λ w. get_or w 0 []) h.words_are) (ap (λ w. get_or w 1 []) h.words_are)
no_more form command first second rest no_compare no_trace no_cover no_drawn no_page no_covered_page (drawn p l vs) h =
    no_drawn (ap (λ w. get_or w 0 []) h.words_are)
no_more form command first second rest no_compare no_trace no_cover no_drawn no_page no_covered_page (example p l) h =
    three_more _ p l _ _ first second rest (sym h)
no_more form command first second rest no_compare no_trace no_cover no_drawn no_page no_covered_page (linted p l) h =
    three_more _ p l _ _ first second rest (sym h)
no_more form command first second rest no_compare no_trace no_cover no_drawn no_page no_covered_page (covered as_page p l t n) h =
    no_covered_page (ap (λ w. get_or w 0 []) h.words_are)
no_more form command first second rest no_compare no_trace no_cover no_drawn no_page no_covered_page (covered as_text p l t n) h =
    no_cover (ap (λ w. get_or w 0 []) h.words_are) (ap (λ w. get_or w 1 []) h.words_are)

-- the words for a comparison and names that aren't those of two or four files
pub no_compared : (m : Medium) (names : List (List ℕ)) → ((plans : NamedPlans) → ¬ (names ≡ plan_names plans))
    → IsBad (behind_compare m names)
no_compared m names none (chart p) h = no_compare_first _ (p ∷ []) names _ m h refl chart_text chart_compare
no_compared m names none (chart_within p l) h = no_compare_first _ (p ∷ l ∷ []) names _ m h refl chart_text chart_compare
no_compared m names none (ranges p) h = no_compare_first _ (p ∷ []) names _ m h refl ranges_text ranges_compare
no_compared m names none (compared n d) h = none d (same_names m n names (plan_names d) h).1
no_compared m names none (traced p l vs) h = no_compare_second _ (p ∷ l ∷ h.rest) names _ m h.words_are refl trace_compare
no_compared m names none (drawn p l vs) h = no_compare_first _ (p ∷ l ∷ h.rest) names _ m h.words_are refl trace_text trace_compare
no_compared m names none (example p l) h = no_compare_first _ (p ∷ l ∷ []) names _ m h refl example_text example_compare
no_compared m names none (linted p l) h = no_compare_first _ (p ∷ l ∷ []) names _ m h refl lint_text lint_compare
no_compared m names none (covered k p l t n) h = compare_or_cover _ names (p ∷ l ∷ t ∷ least_words n) m k refl h.words_are

-- `text trace` and words that give no values
pub no_traced : (plan limits : List ℕ) (rest : List (List ℕ)) → ((values : List NamedValue) → ¬ (AreValueWords rest values))
    → IsBad (text_words (codes "trace") plan limits rest)
no_traced plan limits rest none (chart p) h = two_more _ p _ _ plan limits rest (sym h)
no_traced plan limits rest none (chart_within p l) h = three_more _ p l _ _ plan limits rest (sym h)
no_traced plan limits rest none (ranges p) h = two_more _ p _ _ plan limits rest (sym h)
no_traced plan limits rest none (compared m c) h =
    no_compare_second _ (plan ∷ limits ∷ rest) (plan_names c) _ m refl h trace_compare
no_traced plan limits rest none (traced p l vs) h =
    none vs (subst (λ r. AreValueWords r vs) (sym (ap (λ w. drop 4 w) h.words_are)) h.values_are)
no_traced plan limits rest none (drawn p l vs) h = text_trace (ap (λ w. get_or w 0 []) h.words_are)
no_traced plan limits rest none (example p l) h = three_more _ p l _ _ plan limits rest (sym h)
no_traced plan limits rest none (linted p l) h = three_more _ p l _ _ plan limits rest (sym h)
no_traced plan limits rest none (covered m p l t n) h =
    no_cover_second _ (plan ∷ limits ∷ rest) (p ∷ l ∷ t ∷ least_words n) _ m refl h.words_are trace_cover

-- `trace` and words that give no values
pub no_drawn : (plan limits : List ℕ) (rest : List (List ℕ)) → ((values : List NamedValue) → ¬ (AreValueWords rest values))
    → IsBad (codes "trace" ∷ plan ∷ limits ∷ rest)
no_drawn plan limits rest none (chart p) h = two_rest _ p _ plan limits rest (sym h)
no_drawn plan limits rest none (chart_within p l) h = chart_trace (sym (ap (λ w. get_or w 0 []) h))
no_drawn plan limits rest none (ranges p) h = two_rest _ p _ plan limits rest (sym h)
no_drawn plan limits rest none (compared m c) h =
    no_compare_first _ (plan ∷ limits ∷ rest) (plan_names c) _ m refl h trace_text trace_compare
no_drawn plan limits rest none (traced p l vs) h = text_trace (sym (ap (λ w. get_or w 0 []) h.words_are))
no_drawn plan limits rest none (drawn p l vs) h =
    none vs (subst (λ r. AreValueWords r vs) (sym (ap (λ w. drop 3 w) h.words_are)) h.values_are)
no_drawn plan limits rest none (example p l) h = example_trace (sym (ap (λ w. get_or w 0 []) h))
no_drawn plan limits rest none (linted p l) h = lint_trace (sym (ap (λ w. get_or w 0 []) h))
no_drawn plan limits rest none (covered m p l t n) h =
    no_cover_first _ (plan ∷ limits ∷ rest) (p ∷ l ∷ t ∷ least_words n) _ m refl h.words_are trace_text trace_cover

-- the words for what runs cover, two names, and words that don't name a table, and a share where one is asked for
pub no_covered : (m : Medium) (plan limits : List ℕ) (rest : List (List ℕ))
    → ((table : List ℕ) (least : Option ℕ) → ForSome least (λ n. n ≤ 100) → ¬ (rest ≡ table ∷ least_words least))
    → IsBad (behind_cover m (plan ∷ limits ∷ rest))
no_covered m plan limits rest none (chart p) h =
    no_cover_first _ (p ∷ []) (plan ∷ limits ∷ rest) _ m h refl chart_text chart_cover
no_covered m plan limits rest none (chart_within p l) h =
    no_cover_first _ (p ∷ l ∷ []) (plan ∷ limits ∷ rest) _ m h refl chart_text chart_cover
no_covered m plan limits rest none (ranges p) h =
    no_cover_first _ (p ∷ []) (plan ∷ limits ∷ rest) _ m h refl ranges_text ranges_cover
no_covered m plan limits rest none (compared k c) h = compare_or_cover _ (plan_names c) (plan ∷ limits ∷ rest) k m h refl
no_covered m plan limits rest none (traced p l vs) h =
    no_cover_second _ (p ∷ l ∷ h.rest) (plan ∷ limits ∷ rest) _ m h.words_are refl trace_cover
no_covered m plan limits rest none (drawn p l vs) h =
    no_cover_first _ (p ∷ l ∷ h.rest) (plan ∷ limits ∷ rest) _ m h.words_are refl trace_text trace_cover
no_covered m plan limits rest none (example p l) h =
    no_cover_first _ (p ∷ l ∷ []) (plan ∷ limits ∷ rest) _ m h refl example_text example_cover
no_covered m plan limits rest none (linted p l) h =
    no_cover_first _ (p ∷ l ∷ []) (plan ∷ limits ∷ rest) _ m h refl lint_text lint_cover
no_covered m plan limits rest none (covered k p l t n) h =
    none t n h.percent
    (ap (λ w. drop 2 w) (same_covers m k (plan ∷ limits ∷ rest) (p ∷ l ∷ t ∷ least_words n) h.words_are).1)

as_many : (words : List (String Global)) (list : List (List ℕ)) → texts words ≡ list → length words ≡ length list
as_many words list e = sym (length-map words (λ w. string_bytes w)) ∙ ap (λ w. length w) e

-- the words behind two names are neither none nor two
pub neither_none_nor_two : (first second : List ℕ) (words : List (String Global)) → ¬ (length words ≡ 0) → ¬ (length words ≡ 2)
    → (plans : NamedPlans) → ¬ (first ∷ second ∷ texts words ≡ plan_names plans)
neither_none_nor_two first second words none two (two_plans o n) e = none (as_many words [] (ap (λ w. drop 2 w) e))
neither_none_nor_two first second words none two (with_limits o l n k) e =
    two (as_many words (n ∷ k ∷ []) (ap (λ w. drop 2 w) e))

-- neither two words nor more
pub no_other : (words : List (String Global)) → ¬ (length words ≡ 2) → length words < 3 → IsBad (texts words)
no_other words two few (chart p) h = two (as_many words _ h)
no_other words two few (chart_within p l) h = let l = as_many words _ h in omega (arith, l, few)
no_other words two few (ranges p) h = two (as_many words _ h)
no_other words two few (compared m c) h = let l = as_many words _ h in omega (arith, l, few, compare_long m c)
no_other words two few (traced p l vs) h = let l = as_many words _ h.words_are in omega (arith, l, few)
no_other words two few (drawn p l vs) h = let l = as_many words _ h.words_are in omega (arith, l, few)
no_other words two few (example p l) h = let l = as_many words _ h in omega (arith, l, few)
no_other words two few (linted p l) h = let l = as_many words _ h in omega (arith, l, few)
no_other words two few (covered m p l t n) h =
    let count = as_many words _ h.words_are in omega (arith, count, few, cover_long m p l t (least_words n))

-- ---- all words

pub two_texts : (words : List (String Global)) (w v : String Global) (a b : List ℕ) → 2 ≤ length words
    → length words < 3
    → w ≡ get_or words 0 w → v ≡ get_or words 1 v → a ≡ string_bytes w → b ≡ string_bytes v → a ∷ b ∷ [] ≡ texts words
two_texts [] w v a b least below is is' same same' = absurd (omega arith)
two_texts (x ∷ []) w v a b least below is is' same same' = absurd (omega arith)
two_texts (x ∷ y ∷ []) w v a b least below is is' same same' =
    ap (λ t. t ∷ b ∷ []) (same ∙ ap (λ z. string_bytes z) is)
    ∙ ap (λ t. string_bytes x ∷ t ∷ []) (same' ∙ ap (λ z. string_bytes z) is')
two_texts (x ∷ y ∷ z ∷ words) w v a b least below is is' same same' = absurd (omega arith)

pub three_texts : (words rest : List (String Global)) (w v u : String Global) (a b c : List ℕ) → 3 ≤ length words
    → w ≡ get_or words 0 w → v ≡ get_or words 1 v → u ≡ get_or words 2 u → a ≡ string_bytes w
    → b ≡ string_bytes v → c ≡ string_bytes u → rest ≡ take (length words - 3) (drop 3 words)
    → a ∷ b ∷ c ∷ texts rest ≡ texts words
three_texts [] rest w v u a b c least iw iv iu sw sv su sr = absurd (omega arith)
three_texts (x ∷ []) rest w v u a b c least iw iv iu sw sv su sr = absurd (omega arith)
three_texts (x ∷ y ∷ []) rest w v u a b c least iw iv iu sw sv su sr = absurd (omega arith)
three_texts (x ∷ y ∷ z ∷ more) rest w v u a b c least iw iv iu sw sv su sr =
    let whole : take (length (x ∷ y ∷ z ∷ more) - 3) more ≡ more =
    take_all (length (x ∷ y ∷ z ∷ more) - 3) more (omega arith) in
    ap (λ p. p ∷ b ∷ c ∷ texts rest) (sw ∙ ap (λ q. string_bytes q) iw)
    ∙ ap (λ p. string_bytes x ∷ p ∷ c ∷ texts rest) (sv ∙ ap (λ q. string_bytes q) iv)
    ∙ ap (λ p. string_bytes x ∷ string_bytes y ∷ p ∷ texts rest) (su ∙ ap (λ q. string_bytes q) iu)
    ∙ ap (λ p. string_bytes x ∷ string_bytes y ∷ string_bytes z ∷ texts p) (sr ∙ whole)

-- one word and those behind it
pub one_text : (words rest : List (String Global)) (w : String Global) (a : List ℕ) → 1 ≤ length words
    → w ≡ get_or words 0 w → a ≡ string_bytes w → rest ≡ take (length words - 1) (drop 1 words)
    → a ∷ texts rest ≡ texts words
one_text [] rest w a least iw sw sr = absurd (omega arith)
one_text (x ∷ more) rest w a least iw sw sr =
    let whole : take (length (x ∷ more) - 1) more ≡ more = take_all (length (x ∷ more) - 1) more (omega arith) in
    ap (λ p. p ∷ texts rest) (sw ∙ ap (λ q. string_bytes q) iw) ∙ ap (λ p. string_bytes x ∷ texts p) (sr ∙ whole)

-- no word
pub no_text : (words : List (String Global)) → length words ≡ 0 → texts words ≡ []
no_text [] none = refl
no_text (x ∷ words) none = absurd (omega (arith, none))

-- ---- some words of a list

pub texts_one_more : (words : List (String Global)) (i : ℕ) (w : String Global) → w ≡ get_or words i w → i < length words
    → texts (take (i + 1) words) ≡ texts (take i words) ++ string_bytes w ∷ []
texts_one_more words i w is lt =
    ap texts (take_more words i w lt) ∙ map-append (λ x. string_bytes x) (take i words) (get_or words i w ∷ [])
    ∙ ap (λ x. texts (take i words) ++ string_bytes x ∷ []) (sym is)

pub texts_cut : (words : List (String Global)) (i : ℕ) (w : String Global) → w ≡ get_or words i w → i < length words
    → texts words ≡ texts (take i words) ++ (string_bytes w ∷ texts (drop (i + 1) words))
texts_cut words i w is lt =
    ap texts (sym (take-append-drop i words) ∙ ap (λ z. take i words ++ z) (drop-cons words i w lt))
    ∙ map-append (λ x. string_bytes x) (take i words) (get_or words i w ∷ drop (suc i) words)
    ∙ ap (λ x. texts (take i words) ++ (string_bytes x ∷ texts (drop (suc i) words))) (sym is)
    ∙ ap (λ n. texts (take i words) ++ (string_bytes w ∷ texts (drop n words))) (sym (add-one i))
