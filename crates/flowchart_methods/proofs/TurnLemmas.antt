-- A page that is gone on with, piece by piece.
use Rattle.std.proofs.Common.{◌≡◌, ℕ, ◌+◌, ◌<◌, ◌≤◌, List, [], ◌∷◌, ◌++◌, length, take, map, get_or, refl, sym, ap, subst, ◌∙◌, append_assoc}
use Rattle.std.specs.Prelude.{Option, Result, Ok, Err, OnOk}
use Rattle.std.specs.List.{flat_map}
use Rattle.std.proofs.lemmas.List.{append-nil, map-append, flat_map_more, take_more, take_all}
use Rattle.chart_layout.specs.Drawn.{Drawn}
use Rattle.flowchart_methods.specs.Turns.{AddsInTurn}
use Rattle.flowchart_methods.specs.Conditions.{condition_at}
use Rattle.flowchart_methods.specs.Marks.{mark_at}
use Rattle.flowchart_methods.specs.Captions.{Beside, statement_caption, statement_captions}
use Rattle.flowchart_methods.proofs.Laws.{adds_none, adds_before, adds_behind, adds_then}

-- one text
pub adds_text : (text old new : List ℕ) → new ≡ old ++ text → AddsInTurn (text ∷ []) old new
adds_text text old new is = record {
  more = text;
  grown = is;
  stand = ([], [], sym (append-nil text), tt);
}

-- one text, and other HTML behind it
pub adds_front : (text html old middle new : List ℕ) → middle ≡ old ++ text → new ≡ middle ++ html → AddsInTurn (text ∷ []) old new
adds_front text html old middle new is more =
    adds_behind (text ∷ []) html old middle new more (adds_text text old middle is)

-- no text
pub adds_html : (html old new : List ℕ) → new ≡ old ++ html → AddsInTurn [] old new
adds_html html old new is = adds_behind [] html old old new is (adds_none old)

-- other HTML before some texts and behind them
pub adds_inside : (texts : List (List ℕ)) (first last a b c d : List ℕ) → b ≡ a ++ first → AddsInTurn texts b c → d ≡ c ++ last
    → AddsInTurn texts a d
adds_inside texts first last a b c d before adds behind =
    adds_behind texts last a c d behind (adds_before texts first a b c before adds)

-- HTML, a text, and HTML
pub adds_middle : (text first last a b c d : List ℕ) → b ≡ a ++ first → c ≡ b ++ text → d ≡ c ++ last
    → AddsInTurn (text ∷ []) a d
adds_middle text first last a b c d before is behind =
    adds_inside (text ∷ []) first last a b c d before (adds_text text b c is) behind

-- what follows of an answer that is Ok
pub on_ok : {A E : Type 0} (r : Result A E) (P Q : Type 0) → OnOk r P → (P → Q) → OnOk r Q
on_ok (Ok v) P Q h f = f h
on_ok (Err e) P Q h f = h

-- three parts
pub three_parts : (a b c old first second new : List ℕ) → first ≡ old ++ a → second ≡ first ++ b → new ≡ second ++ c
    → new ≡ old ++ (a ++ (b ++ c))
three_parts a b c old first second new is_first is_second is_new =
    is_new
    ∙ ap (λ l. l ++ c) (is_second ∙ ap (λ l. l ++ b) is_first ∙ append_assoc old a b)
    ∙ append_assoc old (a ++ b) c
    ∙ ap (λ l. old ++ l) (append_assoc a b c)

-- ---- what each of some things adds

pub adds_more : {A : Type 0} (f : A → List (List ℕ)) (xs : List A) (i : ℕ) (x : A) (a b c : List ℕ) → i < length xs → x ≡ get_or xs i x
    → AddsInTurn (flat_map f (take i xs)) a b → AddsInTurn (f x) b c → AddsInTurn (flat_map f (take (i + 1) xs)) a c
adds_more f xs i x a b c some is first second =
    subst (λ l. AddsInTurn l a c)
    (ap (λ y. flat_map f (take i xs) ++ f y) is
    ∙ flat_map_more f [] (take i xs) (get_or xs i x)
    ∙ ap (flat_map f) (sym (take_more xs i x some)))
    (adds_then (flat_map f (take i xs)) (f x) a b c first second)

pub adds_all : {A : Type 0} (f : A → List (List ℕ)) (xs : List A) (i : ℕ) (a b : List ℕ) → length xs ≤ i
    → AddsInTurn (flat_map f (take i xs)) a b → AddsInTurn (flat_map f xs) a b
adds_all f xs i a b all adds = subst (λ l. AddsInTurn (flat_map f l) a b) (take_all i xs all) adds

pub flat_map_each : {A B : Type 0} (f : A → B) (xs : List A) → flat_map (λ x. f x ∷ []) xs ≡ map f xs
flat_map_each f [] = refl
flat_map_each f (x ∷ xs) = ap (λ l. f x ∷ l) (flat_map_each f xs)

-- ---- captions of the statements that each of some things has

captions-append : (name : List ℕ) (cs : Beside) (xs ys : List Drawn)
    → statement_captions name cs (xs ++ ys) ≡ statement_captions name cs xs ++ statement_captions name cs ys
captions-append name cs xs ys = map-append (λ (d : Drawn). statement_caption name (condition_at cs.conditions d.number) (mark_at cs.marks d.number) d) xs ys

pub captions_each : {A : Type 0} (name : List ℕ) (cs : Beside) (g : A → List Drawn) (xs : List A)
    → flat_map (λ x. statement_captions name cs (g x)) xs ≡ statement_captions name cs (flat_map g xs)
captions_each name cs g [] = refl
captions_each name cs g (x ∷ xs) =
    ap (λ l. statement_captions name cs (g x) ++ l) (captions_each name cs g xs)
    ∙ sym (captions-append name cs (g x) (flat_map g xs))

pub captions_all : {A : Type 0} (name : List ℕ) (cs : Beside) (g : A → List Drawn) (xs : List A) (i : ℕ)
    (a b : List ℕ) → length xs ≤ i → AddsInTurn (flat_map (λ x. statement_captions name cs (g x)) (take i xs)) a b
    → AddsInTurn (statement_captions name cs (flat_map g xs)) a b
captions_all name cs g xs i a b all adds =
    subst (λ l. AddsInTurn l a b) (captions_each name cs g xs) (adds_all (λ x. statement_captions name cs (g x)) xs i a b all adds)

-- the captions of the same statements
pub adds_same : (name : List ℕ) (cs : Beside) (xs ys : List Drawn) (a b : List ℕ) → xs ≡ ys
    → AddsInTurn (statement_captions name cs xs) a b → AddsInTurn (statement_captions name cs ys) a b
adds_same name cs xs ys a b same adds = subst (λ l. AddsInTurn (statement_captions name cs l) a b) same adds
