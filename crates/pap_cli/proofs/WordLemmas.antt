-- The words of the program, and the form that they have.
use Rattle.std.proofs.Common.{◌≡◌, ◌==◌, Bool, true, false, ℕ, zero, suc, ◌+◌, ◌-◌, ◌<◌, ◌≤◌, List, [], ◌∷◌, ◌++◌, length, take, drop, get_or, refl, sym, ap, ◌∙◌, subst, arith, add-one, length-drop}
use Rattle.std.specs.Prelude.{Option, Some, None, Result, Ok, Err, MatchOption, codes, String, string_bytes}
use Rattle.std.specs.declared.alloc.Global.{Global}
use Rattle.std.specs.Str.{bytes_eq}
use Rattle.std.specs.Bool.{Decides}
use Rattle.std.proofs.lemmas.Slice.Eq.{bytes_eq-Decides}
use Rattle.std.proofs.lemmas.Bool.Decides.{Decides-at}
use Rattle.std.proofs.lemmas.Bool.{false≢true}
use Rattle.std.proofs.lemmas.List.{take_all, take-append-drop, map-append, take_more, length-map}
use Rattle.std.proofs.Math.Seq.{drop-cons}
use Rattle.payroll_records.specs.ValueWords.{AreValueWords}
use Rattle.payroll_records.specs.declared.values.NamedValue.{NamedValue}
use Rattle.payroll_records.proofs.Laws.{values_once}
use Rattle.std.specs.Fmt.{decimal as number}
use Rattle.std.proofs.lemmas.Fmt.{decimal_injective, parse-decimal}
use Rattle.std.specs.Str.Parse.{ParsesUnsigned}
use Rattle.pap_cli.specs.Words.{texts, Form, check, once, run, sample, save, HasForm, HasSampleForm, IsBad}
use Rattle.pap_cli.specs.declared.words.Command.{Command}
use Rattle.pap_cli.specs.declared.words.Command.TheVariants.{Check, Once}
use Rattle.pap_cli.specs.private.WordViews.{form_by, AskNoFiles, AskNoSample, IsInRange, IsSampleWord}

-- ---- the words of the program

pub texts_more : (words : List (String Global)) (i : ℕ) (w : String Global) → w ≡ get_or words i w → i < length words → texts (take (i + 1) words) ≡ texts (take i words) ++ string_bytes w ∷ []
texts_more words i w is lt =
    ap texts (take_more words i w lt) ∙ map-append (λ x. string_bytes x) (take i words) (get_or words i w ∷ [])
    ∙ ap (λ x. texts (take i words) ++ string_bytes x ∷ []) (sym is)

pub texts_parts : (words : List (String Global)) (i : ℕ) (w : String Global) → w ≡ get_or words i w → i < length words → texts words ≡ texts (take i words) ++ (string_bytes w ∷ texts (drop (i + 1) words))
texts_parts words i w is lt =
    ap texts (sym (take-append-drop i words) ∙ ap (λ z. take i words ++ z) (drop-cons words i w lt))
    ∙ map-append (λ x. string_bytes x) (take i words) (get_or words i w ∷ drop (suc i) words)
    ∙ ap (λ x. texts (take i words) ++ (string_bytes x ∷ texts (drop (suc i) words))) (sym is)
    ∙ ap (λ n. texts (take i words) ++ (string_bytes w ∷ texts (drop n words))) (sym (add-one i))

-- ---- one form

not_both : (e : codes "check" ≡ codes "once") → ⊥
not_both e = false≢true (ap (λ l. get_or l 0 0 == 111) e)

-- the command of a form
abbrev command_of : Form → List ℕ
command_of (check plan limits) = codes "check"
command_of (once plan limits values) = codes "once"
command_of run = codes "run"
command_of (sample employees) = codes "sample"
command_of save = codes "save"

-- it is the first word
begins : (words : List (List ℕ)) (form : Form) → HasForm words form → get_or words 0 [] ≡ command_of form
begins words (check plan limits) h = ap (λ w. get_or w 0 []) h
begins words (once plan limits values) h = ap (λ w. get_or w 0 []) h.words_are
begins words run h = ap (λ w. get_or w 0 []) h
begins words (sample employees) h = ap (λ w. get_or w 0 []) h.words_are
begins words save h = ap (λ w. get_or w 0 []) h

one_command : (words : List (List ℕ)) (a b : Form) → HasForm words a → HasForm words b → command_of a ≡ command_of b
one_command words a b h k = sym (begins words a h) ∙ begins words b k

same_check : (words : List (List ℕ)) (p p' l l' : List ℕ) → words ≡ codes "check" ∷ p ∷ l ∷ [] → words ≡ codes "check" ∷ p' ∷ l' ∷ [] → check p l ≡ check p' l'
same_check words p p' l l' e e' =
    let same : codes "check" ∷ p ∷ l ∷ [] ≡ codes "check" ∷ p' ∷ l' ∷ [] = sym e ∙ e' in
    ap (λ w. check (get_or w 1 []) (get_or w 2 [])) same

same_sample : (words : List (List ℕ)) (n m : ℕ) → HasSampleForm words n → HasSampleForm words m → sample n ≡ sample m
same_sample words n m h k =
    let same : number n ≡ number m = ap (λ w. get_or w 1 []) (sym h.words_are ∙ k.words_are) in
    ap (λ e. sample e) (decimal_injective n m (omega (arith, h.most)) (omega (arith, k.most)) same)

check_run : codes "check" ≡ codes "run" → ⊥
check_run e = cc

check_sample : codes "check" ≡ codes "sample" → ⊥
check_sample e = cc

once_check : codes "once" ≡ codes "check" → ⊥
once_check e = cc

once_run : codes "once" ≡ codes "run" → ⊥
once_run e = cc

once_sample : codes "once" ≡ codes "sample" → ⊥
once_sample e = cc

run_check : codes "run" ≡ codes "check" → ⊥
run_check e = cc

run_once : codes "run" ≡ codes "once" → ⊥
run_once e = cc

run_sample : codes "run" ≡ codes "sample" → ⊥
run_sample e = cc

sample_check : codes "sample" ≡ codes "check" → ⊥
sample_check e = cc

sample_once : codes "sample" ≡ codes "once" → ⊥
sample_once e = cc

sample_run : codes "sample" ≡ codes "run" → ⊥
sample_run e = cc

check_save : codes "check" ≡ codes "save" → ⊥
check_save e = cc

save_check : codes "save" ≡ codes "check" → ⊥
save_check e = cc

once_save : codes "once" ≡ codes "save" → ⊥
once_save e = let h : 111 ≡ 115 = ap (λ w. get_or w 0 0) e in omega (arith, h)

save_once : codes "save" ≡ codes "once" → ⊥
save_once e = let h : 115 ≡ 111 = ap (λ w. get_or w 0 0) e in omega (arith, h)

run_save : codes "run" ≡ codes "save" → ⊥
run_save e = cc

save_run : codes "save" ≡ codes "run" → ⊥
save_run e = cc

sample_save : codes "sample" ≡ codes "save" → ⊥
sample_save e = cc

save_sample : codes "save" ≡ codes "sample" → ⊥
save_sample e = cc

pub one_form : (words : List (List ℕ)) (a b : Form) → HasForm words a → HasForm words b → a ≡ b
one_form words (check p l) (check p' l') h k = same_check words p p' l l' h k
one_form words (once p l vs) (once p' l' vs') h k =
    let same = sym h.words_are ∙ k.words_are in
    ap (λ w. once (get_or w 1 []) (get_or w 2 []) vs) same
    ∙ ap (λ v. once p' l' v) (values_once k.rest vs vs' (subst (λ r. AreValueWords r vs) (ap (λ w. drop 3 w) same) h.values_are) k.values_are)
one_form words run run h k = refl
one_form words (sample n) (sample m) h k = same_sample words n m h k
one_form words (check p l) (once p' l' vs') h k = absurd (not_both (one_command words (check p l) (once p' l' vs') h k))
one_form words (check p l) run h k = absurd (check_run (one_command words (check p l) run h k))
one_form words (check p l) (sample m) h k = absurd (check_sample (one_command words (check p l) (sample m) h k))
one_form words (once p l vs) (check p' l') h k = absurd (once_check (one_command words (once p l vs) (check p' l') h k))
one_form words (once p l vs) run h k = absurd (once_run (one_command words (once p l vs) run h k))
one_form words (once p l vs) (sample m) h k = absurd (once_sample (one_command words (once p l vs) (sample m) h k))
one_form words run (check p' l') h k = absurd (run_check (one_command words run (check p' l') h k))
one_form words run (once p' l' vs') h k = absurd (run_once (one_command words run (once p' l' vs') h k))
one_form words run (sample m) h k = absurd (run_sample (one_command words run (sample m) h k))
one_form words (sample n) (check p' l') h k = absurd (sample_check (one_command words (sample n) (check p' l') h k))
one_form words (sample n) (once p' l' vs') h k = absurd (sample_once (one_command words (sample n) (once p' l' vs') h k))
one_form words (sample n) run h k = absurd (sample_run (one_command words (sample n) run h k))
one_form words save save h k = refl
one_form words (check p l) save h k = absurd (check_save (one_command words (check p l) save h k))
one_form words save (check p l) h k = absurd (save_check (one_command words save (check p l) h k))
one_form words (once p l vs) save h k = absurd (once_save (one_command words (once p l vs) save h k))
one_form words save (once p l vs) h k = absurd (save_once (one_command words save (once p l vs) h k))
one_form words run save h k = absurd (run_save (one_command words run save h k))
one_form words save run h k = absurd (save_run (one_command words save run h k))
one_form words (sample n) save h k = absurd (sample_save (one_command words (sample n) save h k))
one_form words save (sample n) h k = absurd (save_sample (one_command words save (sample n) h k))

-- a form on two files that is `check` has this command
pub is_check : (c : Command) (plan limits plan' limits' : List ℕ) → form_by c plan limits ≡ check plan' limits' → c ≡ Check
is_check Check plan limits plan' limits' e = refl
is_check (Once values) plan limits plan' limits' e = cc

-- ---- no form

drop_texts : (n : ℕ) (ws : List (String Global)) → drop n (texts ws) ≡ texts (drop n ws)
drop_texts zero ws = refl
drop_texts (suc n) [] = refl
drop_texts (suc n) (w ∷ ws) = drop_texts n ws

first_text : (ws : List (String Global)) (w : String Global) (word : List ℕ) (rest : List (List ℕ)) → w ≡ get_or ws 0 w → texts ws ≡ word ∷ rest → string_bytes w ≡ word
first_text [] w word rest is e = cc
first_text (x ∷ ws) w word rest is e = ap (λ y. string_bytes y) is ∙ ap (λ l. get_or l 0 []) e

-- the words begin with `once`, and no values are given by those that follow
pub no_form : (ws : List (String Global)) (w : String Global) (command : List ℕ) (o : Option (List NamedValue)) → w ≡ get_or ws 0 w → command ≡ string_bytes w → command ≡ codes "once" →
    MatchOption o ((values : List NamedValue) → ¬ (AreValueWords (texts (take (length ws - 3) (drop 3 ws))) values)) (AreValueWords (texts (take (length ws - 3) (drop 3 ws)))) → o ≡ None → AskNoFiles (texts ws)
no_form ws w command (Some vs) is same once_is found e form two h = cc e
no_form ws w command None is same once_is found e (check p l) two h = not_both (sym (first_text ws w (codes "check") _ is h) ∙ sym same ∙ once_is)
no_form ws w command None is same once_is found e run two h = two
no_form ws w command None is same once_is found e (sample n) two h = two
no_form ws w command None is same once_is found e save two h = two
no_form ws w command None is same once_is found e (once p l values) two h =
    let whole : take (length ws - 3) (drop 3 ws) ≡ drop 3 ws = take_all (length ws - 3) (drop 3 ws) (omega (arith, length-drop 3 ws)) in
    found values (subst (λ r. AreValueWords r values) (sym (ap (λ l. drop 3 l) h.words_are) ∙ drop_texts 3 ws ∙ ap texts (sym whole)) h.values_are)

-- ---- all forms

-- the words ask for no answer on two files, they are neither `run` nor `save`, and they ask for no sample
pub no_form_at_all : (words : List (List ℕ)) → AskNoFiles words → ¬ (words ≡ codes "run" ∷ []) → ¬ (words ≡ codes "save" ∷ []) → AskNoSample words → IsBad words
no_form_at_all words none other unsaved no_sample (check p l) h = none (check p l) tt h
no_form_at_all words none other unsaved no_sample (once p l values) h = none (once p l values) tt h
no_form_at_all words none other unsaved no_sample run h = other h
no_form_at_all words none other unsaved no_sample (sample n) h = no_sample n h
no_form_at_all words none other unsaved no_sample save h = unsaved h

-- the only word
one_item : {X : Type 0} (xs : List X) (x : X) → 1 ≤ length xs → length xs < 2 → x ≡ get_or xs 0 x → xs ≡ x ∷ []
one_item [] x least below is = absurd (omega arith)
one_item (y ∷ []) x least below is = ap (λ v. v ∷ []) (sym is)
one_item (y ∷ z ∷ ys) x least below is = absurd (omega arith)

-- ---- samples

two_items : {X : Type 0} (xs : List X) (x y : X) → 2 ≤ length xs → length xs < 3 → x ≡ get_or xs 0 x → y ≡ get_or xs 1 y → xs ≡ x ∷ y ∷ []
two_items [] x y least below is is' = absurd (omega arith)
two_items (a ∷ []) x y least below is is' = absurd (omega arith)
two_items (a ∷ b ∷ []) x y least below is is' = ap (λ v. v ∷ b ∷ []) (sym is) ∙ ap (λ v. x ∷ v ∷ []) (sym is')
two_items (a ∷ b ∷ c ∷ xs) x y least below is is' = absurd (omega arith)

-- two words of which the first is `sample` ask for one of so many employees as the second says
sample_by : (words : List (List ℕ)) (word : List ℕ) (found : Option ℕ) → words ≡ codes "sample" ∷ word ∷ [] →
    MatchOption found ((n : ℕ) → ¬ (IsSampleWord word n)) (IsSampleWord word) → MatchOption found (AskNoSample words) (λ n. HasForm words (sample n))
sample_by words word None is none = λ n h.
    none n (record { least = h.least; most = h.most; spelled = ap (λ w. get_or w 1 []) (sym is ∙ h.words_are) })
sample_by words word (Some n) is some = record { least = some.least; most = some.most; words_are = is ∙ ap (λ w. codes "sample" ∷ w ∷ []) some.spelled }

pub sample_words : (ws : List (String Global)) (w v : String Global) (text text' : List ℕ) (r : Bool) (found : Option ℕ) → 2 ≤ length ws → length ws < 3 → w ≡ get_or ws 0 w → v ≡ get_or ws 1 v →
    text ≡ string_bytes w → text' ≡ string_bytes v → r ≡ bytes_eq text (codes "sample") → r ≡ true →
    MatchOption found ((n : ℕ) → ¬ (IsSampleWord text' n)) (IsSampleWord text') → MatchOption found (AskNoSample (texts ws)) (λ n. HasForm (texts ws) (sample n))
sample_words ws w v text text' r found least below is is' same same' test sure read =
    let d = Decides-at r (bytes_eq text (codes "sample")) test (bytes_eq-Decides text (codes "sample")) in
    let both : texts ws ≡ text ∷ text' ∷ [] = ap texts (two_items ws w v least below is is') ∙ ap (λ t. t ∷ string_bytes v ∷ []) (sym same) ∙ ap (λ t. text ∷ t ∷ []) (sym same') in
    sample_by (texts ws) text' found (both ∙ ap (λ t. t ∷ text' ∷ []) (d.0 sure)) read

-- the first word is another
pub other_command : (ws : List (String Global)) (w : String Global) (text : List ℕ) (r : Bool) → w ≡ get_or ws 0 w → text ≡ string_bytes w → r ≡ bytes_eq text (codes "sample") → r ≡ false →
    AskNoSample (texts ws)
other_command ws w text r is same test unlike n h =
    let d = Decides-at r (bytes_eq text (codes "sample")) test (bytes_eq-Decides text (codes "sample")) in
    let like : r ≡ true = d.1 (same ∙ first_text ws w (codes "sample") (number n ∷ []) is h.words_are) in
    false≢true (sym unlike ∙ like)

-- there are not two words
pub not_two : (ws : List (String Global)) → ¬ (length ws ≡ 2) → AskNoSample (texts ws)
not_two ws other n h = other (sym (length-map ws (λ w. string_bytes w)) ∙ ap (λ w. length w) h.words_are)

-- a word that isn't read as a number
pub no_number : {E : Type 0} (word : List ℕ) (r : Result ℕ E) (e : E) → ParsesUnsigned 32 10 word r → r ≡ Err e → (n : ℕ) → ¬ (IsSampleWord word n)
no_number word r e read is n h =
    let ok = parse-decimal 32 n word r (omega (arith, h.most)) (omega (arith, h.most)) h.spelled read in cc

-- a word that is read as a number that isn't spelled so, or isn't from 1 to 200
pub other_number : {E : Type 0} (word : List ℕ) (r : Result ℕ E) (m : ℕ) → ParsesUnsigned 32 10 word r → r ≡ Ok m → ¬ (IsSampleWord word m) → (n : ℕ) → ¬ (IsSampleWord word n)
other_number {E = E} word r m read is not_so n h =
    let ok = parse-decimal 32 n word r (omega (arith, h.most)) (omega (arith, h.most)) h.spelled read in
    let same : ◌≡◌ {A = Result ℕ E} (Ok n) (Ok m) = sym ok ∙ is in
    let number_is : n ≡ m = cc in
    not_so (subst (λ k. IsSampleWord word k) number_is h)

-- a word that isn't spelled as this text
pub spelled_otherwise : (text word : List ℕ) (m : ℕ) (r : Bool) → r ≡ bytes_eq text word → r ≡ false → text ≡ number m → ¬ (IsSampleWord word m)
spelled_otherwise text word m r test unlike is h =
    let d = Decides-at r (bytes_eq text word) test (bytes_eq-Decides text word) in
    false≢true (sym unlike ∙ d.1 (is ∙ sym h.spelled))

-- a word that is spelled so, and whether the number is from 1 to 200
pub in_range_word : {E : Type 0} (text word : List ℕ) (m : ℕ) (t : Bool) (r : Result ℕ E) (found : Option ℕ) → t ≡ bytes_eq text word → t ≡ true → text ≡ number m → ParsesUnsigned 32 10 word r → r ≡ Ok m →
    MatchOption found (¬ (IsInRange m)) (λ n. (n ≡ m) × IsInRange m) → MatchOption found ((n : ℕ) → ¬ (IsSampleWord word n)) (IsSampleWord word)
in_range_word text word m t r None test sure is read ok out = other_number word r m read ok (λ h. out (record { least = h.least; most = h.most }))
in_range_word text word m t r (Some n) test sure is read ok within =
    let d = Decides-at t (bytes_eq text word) test (bytes_eq-Decides text word) in
    subst (λ k. IsSampleWord word k) (sym within.0) (record { least = within.1.least; most = within.1.most; spelled = sym (d.0 sure) ∙ is })

-- ---- one word

first_same : (a b : List ℕ) → a ∷ [] ≡ b ∷ [] → a ≡ b
first_same a b e = cc

-- a test of the only word
pub only_word : (words : List (String Global)) (w : String Global) (text word : List ℕ) (r : Bool) → 1 ≤ length words → length words < 2 → w ≡ get_or words 0 w →
    text ≡ string_bytes w → r ≡ bytes_eq text word → Decides r (texts words ≡ word ∷ [])
only_word words w text word r least below at same test =
    let is : texts words ≡ text ∷ [] = ap texts (one_item words w least below at) ∙ ap (λ v. v ∷ []) (sym same) in
    let d = Decides-at r (bytes_eq text word) test (bytes_eq-Decides text word) in
    (λ yes. is ∙ ap (λ v. v ∷ []) (d.0 yes), λ other. d.1 (first_same text word (sym is ∙ other)))
