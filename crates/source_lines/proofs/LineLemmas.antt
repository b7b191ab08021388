-- Lines of bytes, and lists of them.
use Rattle.std.proofs.Common.{◌≡◌, ℕ, ◌+◌, ◌<◌, ◌≤◌, List, [], ◌∷◌, ◌++◌, length, take, drop, get_or, true, false, refl, sym, ap, ◌∙◌, arith, append_assoc}
use Rattle.std.specs.Prelude.{Bool, if◌then◌else◌, map, filter}
use Rattle.std.proofs.lemmas.List.{append-nil, drop_more, take_all, take_more, map-append}
use Rattle.std.proofs.lemmas.List.Elements.{filter-append}
use Rattle.std.proofs.lemmas.List.Sums.{count_by-le-length, count_by_more_no, count_by_more_yes}
use Rattle.pap_reader.specs.declared.element.Element.{Element}
use Rattle.plain_words.specs.Positions.{is_line_feed, line_number, line_of}
use Rattle.plan_notes.specs.declared.tag.Mark.{Mark}
use Rattle.plan_notes.specs.declared.tag.Starts.TheVariants.{Of, OfStatements}
use Rattle.plan_notes.specs.Walks.{is_start}
use Rattle.source_lines.specs.Lines.{statement_lines, starts_before}

-- ---- the line of a byte

pub line_more : (text : List ℕ) (at : ℕ) → at < length text → is_line_feed (get_or text at 0) ≡ true
    → line_of text (at + 1) ≡ line_of text at + 1
line_more text at lt feed = ap (λ n. n + 1) (count_by_more_yes is_line_feed text at 0 lt feed)

pub line_same : (text : List ℕ) (at : ℕ) → at < length text → is_line_feed (get_or text at 0) ≡ false
    → line_of text (at + 1) ≡ line_of text at
line_same text at lt other = ap (λ n. n + 1) (count_by_more_no is_line_feed text at 0 lt other)

pub few_lines : (text : List ℕ) (at : ℕ) → line_of text at ≤ length (take at text) + 1
few_lines text at = let few = count_by-le-length is_line_feed (take at text) in omega (arith, few)

pub beyond_end : (text : List ℕ) (at end : ℕ) → end ≡ length text → end ≤ at → line_of text end ≡ line_of text at
beyond_end text at end is le =
    let whole : take end text ≡ text = take_all end text (omega (arith, is)) in
    let all : take at text ≡ text = take_all at text (omega (arith, is, le)) in
    ap line_number (whole ∙ sym all)

-- ---- the starts of methods

from_mark : (ms : List Mark) (i : ℕ) (m : Mark) → m ≡ get_or ms i m → i < length ms → drop i ms ≡ m ∷ drop (i + 1) ms
from_mark ms i m is lt = drop_more ms i m lt ∙ ap (λ y. y ∷ drop (i + 1) ms) (sym is)

-- what the starts from a mark on are
abbrev first_among : Element → ℕ → Bool → Bool → List Mark → List ℕ
first_among e n first counted rest =
    if first then n ∷ starts_before e n rest
    else if counted then starts_before e (n + 1) rest
    else starts_before e n rest

from_marks : (e : Element) (n : ℕ) (ms : List Mark) (i : ℕ) (m : Mark) (first counted : Bool) → m ≡ get_or ms i m → i < length ms
    → is_start (Of e) m ≡ first → is_start OfStatements m ≡ counted
    → starts_before e n (drop i ms) ≡ first_among e n first counted (drop (i + 1) ms)
from_marks e n ms i m first counted is lt f c =
    ap (starts_before e n) (from_mark ms i m is lt)
    ∙ ap (λ b. first_among e n b (is_start OfStatements m) (drop (i + 1) ms)) f
    ∙ ap (λ b. first_among e n first b (drop (i + 1) ms)) c

pub one_first : (e : Element) (n : ℕ) (ms : List Mark) (i : ℕ) (m : Mark) (out out' whole : List ℕ) → m ≡ get_or ms i m
    → i < length ms → is_start (Of e) m ≡ true → out ++ starts_before e n (drop i ms) ≡ whole → out' ≡ out ++ n ∷ []
    → out' ++ starts_before e n (drop (i + 1) ms) ≡ whole
one_first e n ms i m out out' whole is lt begins so_far added =
    let rest = starts_before e n (drop (i + 1) ms) in
    ap (λ l. l ++ rest) added
    ∙ append_assoc out (n ∷ []) rest
    ∙ ap (λ l. out ++ l) (sym (from_marks e n ms i m true (is_start OfStatements m) is lt begins refl))
    ∙ so_far

pub one_counted : (e : Element) (n : ℕ) (ms : List Mark) (i : ℕ) (m : Mark) (out whole : List ℕ) → m ≡ get_or ms i m
    → i < length ms → is_start (Of e) m ≡ false → is_start OfStatements m ≡ true
    → out ++ starts_before e n (drop i ms) ≡ whole → out ++ starts_before e (n + 1) (drop (i + 1) ms) ≡ whole
one_counted e n ms i m out whole is lt other begins so_far =
    ap (λ l. out ++ l) (sym (from_marks e n ms i m false true is lt other begins)) ∙ so_far

pub one_passed : (e : Element) (n : ℕ) (ms : List Mark) (i : ℕ) (m : Mark) (out whole : List ℕ) → m ≡ get_or ms i m
    → i < length ms → is_start (Of e) m ≡ false → is_start OfStatements m ≡ false
    → out ++ starts_before e n (drop i ms) ≡ whole → out ++ starts_before e n (drop (i + 1) ms) ≡ whole
one_passed e n ms i m out whole is lt other none so_far =
    ap (λ l. out ++ l) (sym (from_marks e n ms i m false false is lt other none)) ∙ so_far

pub all_firsts : (e : Element) (n : ℕ) (rest : List Mark) (out whole : List ℕ) → rest ≡ []
    → out ++ starts_before e n rest ≡ whole → out ≡ whole
all_firsts e n rest out whole none so_far =
    sym (ap (λ l. out ++ starts_before e n l) none ∙ append-nil out) ∙ so_far

-- ---- the lines of statements

abbrev kept : Bool → Mark → List Mark
kept b m = if b then m ∷ [] else []

kept_one : (m : Mark) (b : Bool) → is_start OfStatements m ≡ b → filter (is_start OfStatements) (m ∷ []) ≡ kept b m
kept_one m b e = ap (λ x. kept x m) e

more_lines : (file : List ℕ) (ms : List Mark) (i : ℕ) (m : Mark) (b : Bool) → m ≡ get_or ms i m → i < length ms
    → is_start OfStatements m ≡ b
    → statement_lines file (take (i + 1) ms)
    ≡ statement_lines file (take i ms) ++ map (λ (x : Mark). line_of file x.at) (kept b m)
more_lines file ms i m b is lt e =
    let p = is_start OfStatements in
    let g = λ (x : Mark). line_of file x.at in
    ap (statement_lines file) (take_more ms i m lt ∙ ap (λ x. take i ms ++ x ∷ []) (sym is))
    ∙ ap (map g) (filter-append p (take i ms) (m ∷ []))
    ∙ map-append g (filter p (take i ms)) (filter p (m ∷ []))
    ∙ ap (λ l. statement_lines file (take i ms) ++ map g l) (kept_one m b e)

pub one_line : (file : List ℕ) (ms : List Mark) (i : ℕ) (m : Mark) (lines lines' : List ℕ) → m ≡ get_or ms i m → i < length ms
    → is_start OfStatements m ≡ true → lines ≡ statement_lines file (take i ms) → lines' ≡ lines ++ line_of file m.at ∷ []
    → lines' ≡ statement_lines file (take (i + 1) ms)
one_line file ms i m lines lines' is lt begins so_far added =
    added ∙ ap (λ l. l ++ line_of file m.at ∷ []) so_far ∙ sym (more_lines file ms i m true is lt begins)

pub no_line : (file : List ℕ) (ms : List Mark) (i : ℕ) (m : Mark) (lines : List ℕ) → m ≡ get_or ms i m → i < length ms
    → is_start OfStatements m ≡ false → lines ≡ statement_lines file (take i ms)
    → lines ≡ statement_lines file (take (i + 1) ms)
no_line file ms i m lines is lt other so_far =
    so_far ∙ sym (append-nil (statement_lines file (take i ms))) ∙ sym (more_lines file ms i m false is lt other)
