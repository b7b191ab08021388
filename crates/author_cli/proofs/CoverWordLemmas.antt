-- The words for what runs cover.
use Rattle.std.proofs.Common.{◌≡◌, Bool, true, false, ℕ, suc, ◌+◌, ◌<◌, ◌≤◌, List, [], ◌∷◌, length, drop, get_or, refl, sym, ap, ◌∙◌, subst, arith}
use Rattle.std.specs.Prelude.{Option, Some, None, Result, Ok, Err, MatchOption, IfOk, codes, String, string_bytes}
use Rattle.std.specs.Option.{ForSome}
use Rattle.std.specs.declared.alloc.Global.{Global}
use Rattle.std.specs.declared.alloc.AllocError.{AllocError}
use Rattle.std.specs.Fmt.{decimal as number}
use Rattle.std.specs.Str.{bytes_eq}
use Rattle.std.specs.Str.Parse.{ParsesUnsigned}
use Rattle.std.proofs.lemmas.Bool.{false≢true}
use Rattle.std.proofs.lemmas.Bool.Decides.{Decides-at}
use Rattle.std.proofs.lemmas.Fmt.{parse-decimal}
use Rattle.std.proofs.lemmas.List.{length-map}
use Rattle.std.proofs.lemmas.Slice.Eq.{bytes_eq-Decides}
use Rattle.author_cli.specs.declared.words.Request.{Request}
use Rattle.author_cli.specs.Words.{texts, Medium, least_words, behind_cover, HasForm, IsBad}
use Rattle.author_cli.specs.private.CoveredViews.{IsPercent, IsPercentWord}
use Rattle.author_cli.specs.private.WordViews.{form_of}
use Rattle.author_cli.proofs.WordLemmas.{no_covered}

-- ---- words as texts

pub only_text : (words : List (String Global)) (w : String Global) (a : List ℕ) → 1 ≤ length words → length words < 2
    → w ≡ get_or words 0 w → a ≡ string_bytes w → a ∷ [] ≡ texts words
only_text [] w a least below is same = absurd (omega arith)
only_text (x ∷ []) w a least below is same = ap (λ t. t ∷ []) (same ∙ ap (λ z. string_bytes z) is)
only_text (x ∷ y ∷ words) w a least below is same = absurd (omega arith)

pub only_three_texts : (words : List (String Global)) (w v u : String Global) (a b c : List ℕ) → 3 ≤ length words
    → length words < 4 → w ≡ get_or words 0 w → v ≡ get_or words 1 v → u ≡ get_or words 2 u → a ≡ string_bytes w
    → b ≡ string_bytes v → c ≡ string_bytes u → a ∷ b ∷ c ∷ [] ≡ texts words
only_three_texts [] w v u a b c least below iw iv iu sw sv su = absurd (omega arith)
only_three_texts (x ∷ []) w v u a b c least below iw iv iu sw sv su = absurd (omega arith)
only_three_texts (x ∷ y ∷ []) w v u a b c least below iw iv iu sw sv su = absurd (omega arith)
only_three_texts (x ∷ y ∷ z ∷ []) w v u a b c least below iw iv iu sw sv su =
    ap (λ p. p ∷ b ∷ c ∷ []) (sw ∙ ap (λ q. string_bytes q) iw)
    ∙ ap (λ p. string_bytes x ∷ p ∷ c ∷ []) (sv ∙ ap (λ q. string_bytes q) iv)
    ∙ ap (λ p. string_bytes x ∷ string_bytes y ∷ p ∷ []) (su ∙ ap (λ q. string_bytes q) iu)
only_three_texts (x ∷ y ∷ z ∷ t ∷ words) w v u a b c least below iw iv iu sw sv su = absurd (omega arith)

-- ---- no form

-- the words behind the names are neither one nor three
pub neither_one_nor_three : (m : Medium) (plan limits : List ℕ) (words : List (String Global)) → ¬ (length words ≡ 1) → ¬ (length words ≡ 3)
    → IsBad (behind_cover m (plan ∷ limits ∷ texts words))
neither_one_nor_three m plan limits words one three = no_covered m plan limits (texts words) by
  where
    as_many : (list : List (List ℕ)) → texts words ≡ list → length words ≡ length list
    as_many list e = sym (length-map words (λ w. string_bytes w)) ∙ ap (λ w. length w) e

    by : (table : List ℕ) (least : Option ℕ) → ForSome least (λ n. n ≤ 100) → ¬ (texts words ≡ table ∷ least_words least)
    by table None few e = one (as_many _ e)
    by table (Some n) few e = three (as_many _ e)

-- a second word that isn't `--at-least`
pub other_option : (m : Medium) (plan limits table option share : List ℕ) → ¬ (option ≡ codes "--at-least")
    → IsBad (behind_cover m (plan ∷ limits ∷ table ∷ option ∷ share ∷ []))
other_option m plan limits table option share other = no_covered m plan limits (table ∷ option ∷ share ∷ []) by
  where
    by : (t : List ℕ) (least : Option ℕ) → ForSome least (λ n. n ≤ 100) → ¬ (table ∷ option ∷ share ∷ [] ≡ t ∷ least_words least)
    by t None few e = let l : 3 ≡ 1 = ap (λ w. length w) e in omega (arith, l)
    by t (Some n) few e = other (ap (λ w. get_or w 1 []) e)

-- a last word that isn't a number of percent
pub no_percent : (m : Medium) (plan limits table share : List ℕ) → ((n : ℕ) → ¬ (IsPercentWord share n))
    → IsBad (behind_cover m (plan ∷ limits ∷ table ∷ codes "--at-least" ∷ share ∷ []))
no_percent m plan limits table share none = no_covered m plan limits (table ∷ codes "--at-least" ∷ share ∷ []) by
  where
    by : (t : List ℕ) (least : Option ℕ) → ForSome least (λ n. n ≤ 100)
        → ¬ (table ∷ codes "--at-least" ∷ share ∷ [] ≡ t ∷ least_words least)
    by t None few e = let l : 3 ≡ 1 = ap (λ w. length w) e in omega (arith, l)
    by t (Some n) few e = none n (record { most = few n refl; spelled = ap (λ w. get_or w 2 []) e })

-- ---- numbers of percent

-- a word that isn't read as a number
pub no_number : {E : Type 0} (word : List ℕ) (r : Result ℕ E) (e : E) → ParsesUnsigned 8 10 word r → r ≡ Err e
    → (n : ℕ) → ¬ (IsPercentWord word n)
no_number word r e read is n h =
    let ok = parse-decimal 8 n word r (omega (arith, h.most)) (omega (arith, h.most)) h.spelled read in cc

-- a word that is read as a number that isn't spelled so, or is above 100
pub other_number : {E : Type 0} (word : List ℕ) (r : Result ℕ E) (m : ℕ) → ParsesUnsigned 8 10 word r → r ≡ Ok m
    → ¬ (IsPercentWord word m) → (n : ℕ) → ¬ (IsPercentWord word n)
other_number {E = E} word r m read is not_so n h =
    let ok = parse-decimal 8 n word r (omega (arith, h.most)) (omega (arith, h.most)) h.spelled read in
    let same : ◌≡◌ {A = Result ℕ E} (Ok n) (Ok m) = sym ok ∙ is in
    let number_is : n ≡ m = cc in
    not_so (subst (λ k. IsPercentWord word k) number_is h)

-- a word that isn't spelled as this text
pub spelled_otherwise : (text word : List ℕ) (m : ℕ) (r : Bool) → r ≡ bytes_eq text word → r ≡ false → text ≡ number m
    → ¬ (IsPercentWord word m)
spelled_otherwise text word m r test unlike is h =
    let d = Decides-at r (bytes_eq text word) test (bytes_eq-Decides text word) in
    false≢true (sym unlike ∙ d.1 (is ∙ sym h.spelled))

-- a word that is spelled so, and whether the number is at most 100
pub in_percent_word : {E : Type 0} (text word : List ℕ) (m : ℕ) (t : Bool) (r : Result ℕ E) (found : Option ℕ)
    → t ≡ bytes_eq text word → t ≡ true → text ≡ number m → ParsesUnsigned 8 10 word r → r ≡ Ok m
    → MatchOption found (¬ (IsPercent m)) (λ n. (n ≡ m) × IsPercent m)
    → MatchOption found ((n : ℕ) → ¬ (IsPercentWord word n)) (IsPercentWord word)
in_percent_word text word m t r None test sure is read ok out = other_number word r m read ok (λ h. out h.most)
in_percent_word text word m t r (Some n) test sure is read ok within =
    let d = Decides-at t (bytes_eq text word) test (bytes_eq-Decides text word) in
    subst (λ k. IsPercentWord word k) (sym within.0) (record { most = within.1; spelled = sym (d.0 sure) ∙ is })
