-- Items that are added one after the other.
use Rattle.std.proofs.Common.{◌≡◌, ℕ, zero, suc, ◌+◌, ◌<◌, List, [], ◌∷◌, ◌++◌, length, drop, get_or, refl, sym, ap, ◌∙◌, arith, append_assoc}
use Rattle.std.specs.Prelude.{Option, Some, None, slice_get}
use Rattle.std.proofs.lemmas.List.{append-nil, drop_more}
use Rattle.statement_list.specs.Statements.{Listed}
use Rattle.run_coverage.specs.declared.runs.StatementRuns.{StatementRuns}
use Rattle.coverage_text.specs.CoverageItems.{CoverageItem, CoveredMethod}
use Rattle.coverage_text.specs.FlowchartItems.{KnownPlaces, StatementSite, site_at, body_items, covered_methods}
use Rattle.coverage_text.specs.private.SiteViews.{counted_items, counted_method}

-- a method with these items
abbrev pub method_items : List ℕ → List CoverageItem → CoveredMethod
method_items m items = record { name = m; items = items }

-- the rest of a list from an item on
from_item : {A : Type 0} (xs : List A) (i : ℕ) (x : A) → x ≡ get_or xs i x → i < length xs → drop i xs ≡ x ∷ drop (i + 1) xs
from_item xs i x is lt = drop_more xs i x lt ∙ ap (λ y. y ∷ drop (i + 1) xs) (sym is)

-- ---- statements

no_runs : (at : ℕ → StatementSite) (k : ℕ) (ss : List Listed) → body_items at k ss [] ≡ []
no_runs at k [] = refl
no_runs at k (s ∷ ss) = refl

next_items : (at : ℕ → StatementSite) (k n : ℕ) (s : Listed) (ss : List Listed) (rs : List StatementRuns)
    → body_items at k (s ∷ ss) (drop n rs) ≡ counted_items (at k) s (slice_get rs n) ++ body_items at (k + 1) ss (drop (suc n) rs)
next_items at k zero s ss [] = sym (no_runs at (k + 1) ss)
next_items at k (suc n) s ss [] = sym (no_runs at (k + 1) ss)
next_items at k zero s ss (r ∷ rs) = refl
next_items at k (suc n) s ss (r ∷ rs) = next_items at k n s ss rs

items_from : (at : ℕ → StatementSite) (k n : ℕ) (s : Listed) (ss : List Listed) (rs : List StatementRuns)
    → body_items at k (s ∷ ss) (drop n rs) ≡ counted_items (at k) s (slice_get rs n) ++ body_items at (k + 1) ss (drop (n + 1) rs)
items_from at k n s ss rs =
    let e : suc n ≡ n + 1 = omega arith in
    next_items at k n s ss rs
    ∙ ap (λ m. counted_items (at k) s (slice_get rs n) ++ body_items at (k + 1) ss (drop m rs)) e

pub one_statement : (at : ℕ → StatementSite) (ss : List Listed) (rs : List StatementRuns) (n : ℕ) (s : Listed) (site : StatementSite)
    (r : Option StatementRuns) (out out' whole : List CoverageItem) → s ≡ get_or ss n s → n < length ss → site ≡ at n
    → r ≡ slice_get rs n → out ++ body_items at n (drop n ss) (drop n rs) ≡ whole → out' ≡ out ++ counted_items site s r
    → out' ++ body_items at (n + 1) (drop (n + 1) ss) (drop (n + 1) rs) ≡ whole
one_statement at ss rs n s site r out out' whole is lt here counted so_far added =
    let rest = body_items at (n + 1) (drop (n + 1) ss) (drop (n + 1) rs) in
    ap (λ l. l ++ rest) (added ∙ ap (λ p. out ++ counted_items p s r) here ∙ ap (λ o. out ++ counted_items (at n) s o) counted)
    ∙ append_assoc out (counted_items (at n) s (slice_get rs n)) rest
    ∙ ap (λ l. out ++ l) (sym (items_from at n n s (drop (n + 1) ss) rs))
    ∙ ap (λ l. out ++ body_items at n l (drop n rs)) (sym (from_item ss n s is lt))
    ∙ so_far

pub all_statements : (at : ℕ → StatementSite) (k : ℕ) (rest : List Listed) (rs : List StatementRuns) (out whole : List CoverageItem)
    → rest ≡ [] → out ++ body_items at k rest rs ≡ whole → out ≡ whole
all_statements at k rest rs out whole none so_far =
    sym (ap (λ l. out ++ body_items at k l rs) none ∙ append-nil out) ∙ so_far

-- ---- methods

no_method : (known : KnownPlaces) (k : ℕ) (ms : List (List ℕ)) (rss : List (List StatementRuns)) → covered_methods known k ms [] rss ≡ []
no_method known k [] rss = refl
no_method known k (m ∷ ms) rss = refl

no_method_runs : (known : KnownPlaces) (k : ℕ) (ms : List (List ℕ)) (sss : List (List Listed)) → covered_methods known k ms sss [] ≡ []
no_method_runs known k [] sss = refl
no_method_runs known k (m ∷ ms) [] = refl
no_method_runs known k (m ∷ ms) (ss ∷ sss) = refl

-- where no runs are left
without_runs : (known : KnownPlaces) (k : ℕ) (m : List ℕ) (ms : List (List ℕ)) (here : List (List Listed)) (o : Option (List Listed))
    (rest : List (List Listed))
    → covered_methods known k (m ∷ ms) here [] ≡ counted_method known k m o None ++ covered_methods known (k + 1) ms rest []
without_runs known k m ms [] None rest = sym (no_method_runs known (k + 1) ms rest)
without_runs known k m ms [] (Some x) rest = sym (no_method_runs known (k + 1) ms rest)
without_runs known k m ms (ss ∷ sss) None rest = sym (no_method_runs known (k + 1) ms rest)
without_runs known k m ms (ss ∷ sss) (Some x) rest = sym (no_method_runs known (k + 1) ms rest)

next_method : (known : KnownPlaces) (k n : ℕ) (m : List ℕ) (ms : List (List ℕ)) (sss : List (List Listed)) (rss : List (List StatementRuns))
    → covered_methods known k (m ∷ ms) (drop n sss) (drop n rss)
    ≡ counted_method known k m (slice_get sss n) (slice_get rss n)
    ++ covered_methods known (k + 1) ms (drop (suc n) sss) (drop (suc n) rss)
next_method known k zero m ms [] rss = sym (no_method known (k + 1) ms (drop (suc zero) rss))
next_method known k (suc n) m ms [] rss = sym (no_method known (k + 1) ms (drop (suc (suc n)) rss))
next_method known k zero m ms (ss ∷ sss) [] = without_runs known k m ms (ss ∷ sss) (Some ss) sss
next_method known k (suc n) m ms (ss ∷ sss) [] = without_runs known k m ms (drop n sss) (slice_get sss n) (drop (suc n) sss)
next_method known k zero m ms (ss ∷ sss) (rs ∷ rss) = refl
next_method known k (suc n) m ms (ss ∷ sss) (rs ∷ rss) = next_method known k n m ms sss rss

method_from : (known : KnownPlaces) (k n : ℕ) (m : List ℕ) (ms : List (List ℕ)) (sss : List (List Listed)) (rss : List (List StatementRuns))
    → covered_methods known k (m ∷ ms) (drop n sss) (drop n rss)
    ≡ counted_method known k m (slice_get sss n) (slice_get rss n)
    ++ covered_methods known (k + 1) ms (drop (n + 1) sss) (drop (n + 1) rss)
method_from known k n m ms sss rss =
    let e : suc n ≡ n + 1 = omega arith in
    next_method known k n m ms sss rss
    ∙ ap (λ i. counted_method known k m (slice_get sss n) (slice_get rss n)
    ++ covered_methods known (k + 1) ms (drop i sss) (drop i rss)) e

pub one_method : (known : KnownPlaces) (ms : List (List ℕ)) (sss : List (List Listed)) (rss : List (List StatementRuns)) (n : ℕ)
    (m : List ℕ) (ss : Option (List Listed)) (rs : Option (List StatementRuns)) (out out' whole : List CoveredMethod)
    → m ≡ get_or ms n m → n < length ms → ss ≡ slice_get sss n → rs ≡ slice_get rss n
    → out ++ covered_methods known n (drop n ms) (drop n sss) (drop n rss) ≡ whole → out' ≡ out ++ counted_method known n m ss rs
    → out' ++ covered_methods known (n + 1) (drop (n + 1) ms) (drop (n + 1) sss) (drop (n + 1) rss) ≡ whole
one_method known ms sss rss n m ss rs out out' whole is lt listed counted so_far added =
    let rest = covered_methods known (n + 1) (drop (n + 1) ms) (drop (n + 1) sss) (drop (n + 1) rss) in
    ap (λ l. l ++ rest)
    (added ∙ ap (λ o. out ++ counted_method known n m o rs) listed ∙ ap (λ o. out ++ counted_method known n m (slice_get sss n) o) counted)
    ∙ append_assoc out (counted_method known n m (slice_get sss n) (slice_get rss n)) rest
    ∙ ap (λ l. out ++ l) (sym (method_from known n n m (drop (n + 1) ms) sss rss))
    ∙ ap (λ l. out ++ covered_methods known n l (drop n sss) (drop n rss)) (sym (from_item ms n m is lt))
    ∙ so_far

pub all_methods : (known : KnownPlaces) (k : ℕ) (rest : List (List ℕ)) (sss : List (List Listed)) (rss : List (List StatementRuns))
    (out whole : List CoveredMethod) → rest ≡ [] → out ++ covered_methods known k rest sss rss ≡ whole → out ≡ whole
all_methods known k rest sss rss out whole none so_far =
    sym (ap (λ l. out ++ covered_methods known k l sss rss) none ∙ append-nil out) ∙ so_far

pub method_added : (known : KnownPlaces) (k : ℕ) (m : List ℕ) (listed : Option (List Listed))
    (runs : Option (List StatementRuns)) (ss : List Listed) (rs : List StatementRuns) (items : List CoverageItem)
    (out out' : List CoveredMethod) → listed ≡ Some ss → runs ≡ Some rs → items ≡ body_items (site_at known k m) 0 ss rs
    → out' ≡ out ++ method_items m items ∷ [] → out' ≡ out ++ counted_method known k m listed runs
method_added known k m listed runs ss rs items out out' found counted are added =
    added ∙ ap (λ l. out ++ method_items m l ∷ []) are
    ∙ ap (λ o. out ++ counted_method known k m o (Some rs)) (sym found)
    ∙ ap (λ o. out ++ counted_method known k m listed o) (sym counted)
