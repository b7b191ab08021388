-- Statements that a builder appends.
use Rattle.std.proofs.Common.{◌≡◌, ℕ, Option, ◌+◌, ◌<◌, ◌≤◌, List, [], ◌∷◌, ◌++◌, length, take, get_or, refl, sym, ap, subst, ◌∙◌, append_assoc, Vec, Global}
use Rattle.std.specs.List.{flat_map}
use Rattle.std.proofs.lemmas.List.{append-nil, flat_map_more, take_more, take_all}
use Rattle.pap_reader.specs.declared.elements.RawStmt.{RawStmt}
use Rattle.pap_reader.specs.declared.elements.RawStmt as raws
use Rattle.pap_reader.specs.declared.elements.RawStmt.TheVariants as variants
use Rattle.pap_reader.specs.Trees.{RawBody, done, raw_stmt_then, raw_body_of, raw_body_of_row}
use Rattle.pap_reader.proofs.Laws.{raw_stmt_then-If}
use Rattle.pap_tree.specs.Grammar.{Level, Assignment}
use Rattle.chart_layout.specs.declared.build.Numbering.{Numbering}
use Rattle.chart_layout.specs.Drawn.{Drawn}
use Rattle.chart_layout.specs.Statements.{FileStatement, expression, execution, statements_of, next_number, number_behind, IsSpelledAs, IsDrawnAs, is_number, AreDrawn}
use Rattle.chart_layout.specs.private.Statements.{statements_in, after, numbering_behind, next_drawn, Adds}

pub behind_append : (number : ℕ) (ss ts : List FileStatement) → number_behind number (ss ++ ts) ≡ number_behind (number_behind number ss) ts
behind_append number [] ts = refl
behind_append number (s ∷ ss) ts = behind_append (next_number number) ss ts

numbering_append : (n : Numbering) (ss ts : List FileStatement)
    → numbering_behind n (ss ++ ts) ≡ numbering_behind (numbering_behind n ss) ts
numbering_append n ss ts = ap (λ k. record n { next = k }) (behind_append n.next ss ts)

drawn_append : (refused : Option ℕ) (number : ℕ) (ss ts : List FileStatement) (xs ys : List Drawn)
    → AreDrawn refused number ss xs → AreDrawn refused (number_behind number ss) ts ys
    → AreDrawn refused number (ss ++ ts) (xs ++ ys)
drawn_append refused number [] ts [] ys first second = second
drawn_append refused number [] ts (x ∷ xs) ys first second = absurd first
drawn_append refused number (s ∷ ss) ts [] ys first second = absurd first
drawn_append refused number (s ∷ ss) ts (x ∷ xs) ys first second =
    (first.0, first.1, first.2, drawn_append refused (next_number number) ss ts xs ys first.3 second)

pub adds_none : (from to : Numbering) (old new : List Drawn) → to ≡ from → new ≡ old → Adds from to [] old new
adds_none from to old new same is = record {
  more = [];
  drawn = tt;
  behind = same;
  grown = is ∙ sym (append-nil old);
}

pub adds_then : (a b c : Numbering) (ss ts : List FileStatement) (x y z : List Drawn) → Adds a b ss x y → Adds b c ts y z
    → Adds a c (ss ++ ts) x z
adds_then a b c ss ts x y z first second = record {
  more = first.more ++ second.more;
  drawn =
      drawn_append a.refused a.next ss ts first.more second.more first.drawn
      (subst (λ n. AreDrawn n.refused n.next ts second.more) first.behind second.drawn);
  behind = second.behind ∙ ap (λ n. numbering_behind n ts) first.behind ∙ sym (numbering_append a ss ts);
  grown = second.grown ∙ ap (λ l. l ++ second.more) first.grown ∙ append_assoc x first.more second.more;
}

pub adds_one : (from to : Numbering) (s : FileStatement) (d : Drawn) (old new : List Drawn) → d.number ≡ from.next
    → d.is_refused ≡ is_number from.refused from.next → IsDrawnAs s d.text → to ≡ after from → new ≡ old ++ d ∷ []
    → Adds from to (s ∷ []) old new
adds_one from to s d old new numbered marked text behind grown = record {
  more = d ∷ [];
  drawn = (numbered, marked, text, tt);
  behind = behind;
  grown = grown;
}

-- the same between lists and numbers that are the same
pub adds_as : (a b c d : Numbering) (ss ts : List FileStatement) (x y u v : List Drawn) → a ≡ c → b ≡ d → ss ≡ ts → x ≡ u → y ≡ v
    → Adds a b ss x y → Adds c d ts u v
adds_as a b c d ss ts x y u v first last same old new adds =
    subst (λ l. Adds c d ts u l) new
    (subst (λ l. Adds c d ts l y) old
    (subst (λ l. Adds c d l x y) same (subst (λ n. Adds c n ss x y) last (subst (λ n. Adds n b ss x y) first adds))))

-- a test and both branches, appended as one IF
pub adds_choice : (a b c d : Numbering) (test : FileStatement) (ss ts : List FileStatement) (t : Drawn) (x y old new : List Drawn)
    → Adds a b (test ∷ []) old (old ++ t ∷ []) → Adds b c ss [] x → Adds c d ts [] y → new ≡ old ++ (t ∷ (x ++ y))
    → Adds a d (test ∷ (ss ++ ts)) old new
adds_choice a b c d test ss ts t x y old new first second third is =
    let one : Adds b c ss (old ++ t ∷ []) ((old ++ t ∷ []) ++ x) =
    record { more = second.more; drawn = second.drawn; behind = second.behind; grown = ap (λ l. (old ++ t ∷ []) ++ l) second.grown } in
    let two : Adds c d ts ((old ++ t ∷ []) ++ x) (((old ++ t ∷ []) ++ x) ++ y) =
    record { more = third.more; drawn = third.drawn; behind = third.behind; grown = ap (λ l. ((old ++ t ∷ []) ++ x) ++ l) third.grown } in
    let all = adds_then a b d (test ∷ []) (ss ++ ts) old (old ++ t ∷ []) (((old ++ t ∷ []) ++ x) ++ y) first
    (adds_then b c d ss ts (old ++ t ∷ []) ((old ++ t ∷ []) ++ x) (((old ++ t ∷ []) ++ x) ++ y) one two) in
    subst (λ l. Adds a d (test ∷ (ss ++ ts)) old l)
    (append_assoc (old ++ t ∷ []) x y ∙ append_assoc old (t ∷ []) (x ++ y) ∙ sym is) all

-- ---- a list of statements

in_then : (s : RawStmt) (rest : RawBody) → statements_of (raw_stmt_then s rest) ≡ statements_in s ++ statements_of rest
in_then (raws.Eval x) rest = refl
in_then (raws.If' t m ys n zs) rest =
    let a = statements_of (raw_body_of_row ys) in
    let b = statements_of (raw_body_of_row zs) in
    sym (ap (λ l. expression (Level 0) t.items ∷ l) (append_assoc a (b ++ []) (statements_of rest) ∙ ap (λ l. a ++ (l ++ statements_of rest)) (append-nil b)))
in_then (raws.Execute x) rest = refl

pub in_all : (ss : List RawStmt) → flat_map statements_in ss ≡ statements_of (raw_body_of ss)
in_all [] = refl
in_all (s ∷ ss) = ap (λ l. statements_in s ++ l) (in_all ss) ∙ sym (in_then s (raw_body_of ss))

-- one statement more of a list
pub adds_next : (a b c : Numbering) (ss : List RawStmt) (i : ℕ) (s : RawStmt) (x y z : List Drawn) → i < length ss → s ≡ get_or ss i s
    → Adds a b (flat_map statements_in (take i ss)) x y → Adds b c (statements_in s) y z → Adds a c (flat_map statements_in (take (i + 1) ss)) x z
adds_next a b c ss i s x y z some is first second =
    subst (λ l. Adds a c l x z)
    (ap (λ t. flat_map statements_in (take i ss) ++ statements_in t) is
    ∙ flat_map_more statements_in [] (take i ss) (get_or ss i s)
    ∙ ap (flat_map statements_in) (sym (take_more ss i s some)))
    (adds_then a b c (flat_map statements_in (take i ss)) (statements_in s) x y z first second)

-- the whole list, and then nothing more
pub adds_all : (a b c : Numbering) (ss : List RawStmt) (i : ℕ) (x y z : List Drawn) → length ss ≤ i → c ≡ b → z ≡ y
    → Adds a b (flat_map statements_in (take i ss)) x y → Adds a c (statements_of (raw_body_of ss)) x z
adds_all a b c ss i x y z all same is first =
    adds_as a b a c (flat_map statements_in (take i ss)) (statements_of (raw_body_of ss)) x y x z refl (sym same)
    (ap (flat_map statements_in) (take_all i ss all) ∙ in_all ss) refl (sym is) first

pub in_if : (t : Vec ℕ Global) (ys zs : Vec RawStmt Global)
    → statements_in (variants.If t ys zs)
    ≡ expression (Level 0) t.items ∷ (statements_of (raw_body_of ys.items) ++ statements_of (raw_body_of zs.items))
in_if t ys zs =
    ap statements_of (raw_stmt_then-If t ys zs done)
    ∙ ap (λ l. expression (Level 0) t.items ∷ (statements_of (raw_body_of ys.items) ++ l)) (append-nil (statements_of (raw_body_of zs.items)))

-- ---- a statement by its kind

pub of_eval : (s : RawStmt) (x : Vec ℕ Global) (text : List ℕ) → s ≡ variants.Eval x → text ≡ x.items
    → expression Assignment text ∷ [] ≡ statements_in s
of_eval s x text is same = ap (λ l. expression Assignment l ∷ []) same ∙ ap statements_in (sym is)

pub of_execute : (s : RawStmt) (name : List ℕ) → s ≡ variants.Execute name → execution name ∷ [] ≡ statements_in s
of_execute s name is = ap statements_in (sym is)

pub of_if : (s : RawStmt) (t : Vec ℕ Global) (ys zs : Vec RawStmt Global) (text : List ℕ) (a b : List RawStmt) → s ≡ variants.If t ys zs
    → text ≡ t.items → a ≡ ys.items → b ≡ zs.items
    → expression (Level 0) text ∷ (statements_of (raw_body_of a) ++ statements_of (raw_body_of b)) ≡ statements_in s
of_if s t ys zs text a b is test first second =
    ap (λ l. expression (Level 0) l ∷ (statements_of (raw_body_of a) ++ statements_of (raw_body_of b))) test
    ∙ ap (λ l. expression (Level 0) t.items ∷ (statements_of (raw_body_of l) ++ statements_of (raw_body_of b))) first
    ∙ ap (λ l. expression (Level 0) t.items ∷ (statements_of (raw_body_of ys.items) ++ statements_of (raw_body_of l))) second
    ∙ sym (in_if t ys zs)
    ∙ ap statements_in (sym is)

-- a test that is drawn in its spelling is the next statement
pub test_drawn : (n : Numbering) (written spelling : List ℕ) (t : Drawn) → t ≡ next_drawn n spelling
    → IsSpelledAs (Level 0) written spelling → AreDrawn n.refused n.next (expression (Level 0) written ∷ []) (t ∷ [])
test_drawn n written spelling t is same =
    (ap (λ e. e.number) is, ap (λ e. e.is_refused) is, subst (λ e. IsSpelledAs (Level 0) written e.text) (sym is) same, tt)

-- an IF is appended, of a test that is the next statement
pub adds_if : (a b c d : Numbering) (written : List ℕ) (ss ts : List FileStatement) (t : Drawn) (x y old new : List Drawn)
    → AreDrawn a.refused a.next (expression (Level 0) written ∷ []) (t ∷ []) → b ≡ after a → Adds b c ss [] x → Adds c d ts [] y
    → new ≡ old ++ (t ∷ (x ++ y)) → Adds a d (expression (Level 0) written ∷ (ss ++ ts)) old new
adds_if a b c d written ss ts t x y old new is behind second third grown =
    adds_choice a b c d (expression (Level 0) written) ss ts t x y old new
    (adds_one a b (expression (Level 0) written) t old (old ++ t ∷ []) is.0 is.1 is.2 behind refl) second third grown
