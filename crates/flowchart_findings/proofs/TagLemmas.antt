-- The tags of a file, one after the other.
use Rattle.std.proofs.Common.{◌≡◌, ℕ, ◌+◌, ◌<◌, List, [], ◌∷◌, ◌++◌, length, take, drop, get_or, true, false, refl, sym, ap, ◌∙◌, append_assoc}
use Rattle.std.specs.Prelude.{Bool, if◌then◌else◌, map, filter}
use Rattle.std.proofs.lemmas.List.{append-nil, drop_more, take_more, map-append}
use Rattle.std.proofs.lemmas.List.Elements.{filter-append}
use Rattle.pap_reader.specs.declared.element.Element.{Element}
use Rattle.plan_notes.specs.declared.tag.Mark.{Mark}
use Rattle.plan_notes.specs.declared.tag.Starts.{Starts}
use Rattle.plan_notes.specs.declared.tag.Starts.TheVariants.{Of, OfStatements}
use Rattle.plan_notes.specs.Walks.{is_start}
use Rattle.source_lines.specs.Lines.{starts_before}
use Rattle.flowchart_findings.specs.Places.{tag_bytes}

-- ---- the starts of methods

from_mark : (ms : List Mark) (i : ℕ) (m : Mark) → m ≡ get_or ms i m → i < length ms → drop i ms ≡ m ∷ drop (i + 1) ms
from_mark ms i m is lt = drop_more ms i m lt ∙ ap (λ y. y ∷ drop (i + 1) ms) (sym is)

-- what the starts from a mark on are
abbrev first_among : Element → ℕ → Bool → Bool → List Mark → List ℕ
first_among e n first counted rest =
    if first then n ∷ starts_before e n rest
    else if counted then starts_before e (n + 1) rest
    else starts_before e n rest

from_marks : (e : Element) (n : ℕ) (ms : List Mark) (i : ℕ) (m : Mark) (first counted : Bool) → m ≡ get_or ms i m → i < length ms
    → is_start (Of e) m ≡ first → is_start OfStatements m ≡ counted
    → starts_before e n (drop i ms) ≡ first_among e n first counted (drop (i + 1) ms)
from_marks e n ms i m first counted is lt f c =
    ap (starts_before e n) (from_mark ms i m is lt)
    ∙ ap (λ b. first_among e n b (is_start OfStatements m) (drop (i + 1) ms)) f
    ∙ ap (λ b. first_among e n first b (drop (i + 1) ms)) c

pub one_first : (e : Element) (n : ℕ) (ms : List Mark) (i : ℕ) (m : Mark) (out out' whole : List ℕ) → m ≡ get_or ms i m
    → i < length ms → is_start (Of e) m ≡ true → out ++ starts_before e n (drop i ms) ≡ whole → out' ≡ out ++ n ∷ []
    → out' ++ starts_before e n (drop (i + 1) ms) ≡ whole
one_first e n ms i m out out' whole is lt begins so_far added =
    let rest = starts_before e n (drop (i + 1) ms) in
    ap (λ l. l ++ rest) added
    ∙ append_assoc out (n ∷ []) rest
    ∙ ap (λ l. out ++ l) (sym (from_marks e n ms i m true (is_start OfStatements m) is lt begins refl))
    ∙ so_far

pub one_counted : (e : Element) (n : ℕ) (ms : List Mark) (i : ℕ) (m : Mark) (out whole : List ℕ) → m ≡ get_or ms i m
    → i < length ms → is_start (Of e) m ≡ false → is_start OfStatements m ≡ true
    → out ++ starts_before e n (drop i ms) ≡ whole → out ++ starts_before e (n + 1) (drop (i + 1) ms) ≡ whole
one_counted e n ms i m out whole is lt other begins so_far =
    ap (λ l. out ++ l) (sym (from_marks e n ms i m false true is lt other begins)) ∙ so_far

pub one_passed : (e : Element) (n : ℕ) (ms : List Mark) (i : ℕ) (m : Mark) (out whole : List ℕ) → m ≡ get_or ms i m
    → i < length ms → is_start (Of e) m ≡ false → is_start OfStatements m ≡ false
    → out ++ starts_before e n (drop i ms) ≡ whole → out ++ starts_before e n (drop (i + 1) ms) ≡ whole
one_passed e n ms i m out whole is lt other none so_far =
    ap (λ l. out ++ l) (sym (from_marks e n ms i m false false is lt other none)) ∙ so_far

pub all_firsts : (e : Element) (n : ℕ) (rest : List Mark) (out whole : List ℕ) → rest ≡ []
    → out ++ starts_before e n rest ≡ whole → out ≡ whole
all_firsts e n rest out whole none so_far =
    sym (ap (λ l. out ++ starts_before e n l) none ∙ append-nil out) ∙ so_far

-- ---- the bytes of start tags

abbrev kept : Bool → Mark → List Mark
kept b m = if b then m ∷ [] else []

more_bytes : (starts : Starts) (ms : List Mark) (i : ℕ) (m : Mark) (b : Bool) → m ≡ get_or ms i m → i < length ms
    → is_start starts m ≡ b
    → tag_bytes starts (take (i + 1) ms) ≡ tag_bytes starts (take i ms) ++ map (λ (x : Mark). x.at) (kept b m)
more_bytes starts ms i m b is lt e =
    let p = is_start starts in
    let g = λ (x : Mark). x.at in
    ap (tag_bytes starts) (take_more ms i m lt ∙ ap (λ x. take i ms ++ x ∷ []) (sym is))
    ∙ ap (map g) (filter-append p (take i ms) (m ∷ []))
    ∙ map-append g (filter p (take i ms)) (filter p (m ∷ []))
    ∙ ap (λ x. tag_bytes starts (take i ms) ++ map g (kept x m)) e

pub one_byte : (starts : Starts) (ms : List Mark) (i : ℕ) (m : Mark) (bytes bytes' : List ℕ) → m ≡ get_or ms i m → i < length ms
    → is_start starts m ≡ true → bytes ≡ tag_bytes starts (take i ms) → bytes' ≡ bytes ++ m.at ∷ []
    → bytes' ≡ tag_bytes starts (take (i + 1) ms)
one_byte starts ms i m bytes bytes' is lt begins so_far added =
    added ∙ ap (λ l. l ++ m.at ∷ []) so_far ∙ sym (more_bytes starts ms i m true is lt begins)

pub no_byte : (starts : Starts) (ms : List Mark) (i : ℕ) (m : Mark) (bytes : List ℕ) → m ≡ get_or ms i m → i < length ms
    → is_start starts m ≡ false → bytes ≡ tag_bytes starts (take i ms)
    → bytes ≡ tag_bytes starts (take (i + 1) ms)
no_byte starts ms i m bytes is lt other so_far =
    so_far ∙ sym (append-nil (tag_bytes starts (take i ms))) ∙ sym (more_bytes starts ms i m false is lt other)
