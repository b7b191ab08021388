-- The conditions of a body's statements, statement by statement.
use Rattle.std.proofs.Common.{◌≡◌, ℕ, true, false, Option, ◌+◌, ◌<◌, ◌≤◌, Vec, Global, List, [], ◌∷◌, ◌++◌, length, drop, get_or, refl, sym, ap, ◌∙◌, append_assoc}
use Rattle.std.proofs.lemmas.List.{append-nil, drop_more, drop_all}
use Rattle.pap_reader.specs.declared.elements.RawStmt.{RawStmt}
use Rattle.pap_reader.specs.declared.elements.RawStmt as raws
use Rattle.pap_reader.specs.declared.elements.RawStmt.TheVariants as variants
use Rattle.pap_reader.specs.Trees.{RawBody, done, raw_stmt_then, raw_body_of, raw_body_of_row}
use Rattle.pap_reader.proofs.Laws.{raw_stmt_then-If}
use Rattle.chart_layout.specs.Statements.{FileStatement, statements_of, next_number, number_behind}
use Rattle.flowchart_methods.specs.declared.conditions.Condition.{Condition}
use Rattle.flowchart_methods.specs.Conditions.{where_test, conditions_in}
use Rattle.flowchart_methods.specs.private.Conditions.{statement_conditions, number_after}

behind_append : (n : ℕ) (ss ts : List FileStatement) → number_behind n (ss ++ ts) ≡ number_behind (number_behind n ss) ts
behind_append n [] ts = refl
behind_append n (s ∷ ss) ts = behind_append (next_number n) ss ts

-- the number behind both branches of an IF
behind_both : (n : ℕ) (ss ts : List FileStatement) → number_behind n (ss ++ (ts ++ [])) ≡ number_behind (number_behind n ss) ts
behind_both n ss ts = behind_append n ss (ts ++ []) ∙ ap (number_behind (number_behind n ss)) (append-nil ts)

four_lists : (x : Option Condition) (a b c : List (Option Condition))
    → x ∷ (a ++ (b ++ c)) ≡ (x ∷ (a ++ (b ++ []))) ++ c
four_lists x a b c =
    ap (λ l. x ∷ l)
    (ap (λ l. a ++ (l ++ c)) (sym (append-nil b)) ∙ sym (append_assoc a (b ++ []) c))

-- a statement, and those that follow it
in_then : (here : Option Condition) (n : ℕ) (s : RawStmt) (rest : RawBody)
    → conditions_in here n (raw_stmt_then s rest)
    ≡ statement_conditions here n s ++ conditions_in here (number_after n s) rest
in_then here n (raws.Eval x) rest = refl
in_then here n (raws.If' t m ys k zs) rest =
    let a = raw_body_of_row ys in
    let b = raw_body_of_row zs in
    let then_at = next_number n in
    let else_at = number_behind then_at (statements_of a) in
    let in_a = conditions_in (where_test n true) then_at a in
    let in_b = conditions_in (where_test n false) else_at b in
    ap (λ j. here ∷ (in_a ++ (in_b ++ conditions_in here j rest))) (sym (behind_both then_at (statements_of a) (statements_of b)))
    ∙ four_lists here in_a in_b (conditions_in here (number_behind then_at (statements_of a ++ (statements_of b ++ []))) rest)
in_then here n (raws.Execute x) rest = refl

number_then : (n : ℕ) (s : RawStmt) (rest : RawBody)
    → number_behind n (statements_of (raw_stmt_then s rest)) ≡ number_behind (number_after n s) (statements_of rest)
number_then n (raws.Eval x) rest = refl
number_then n (raws.If' t m ys k zs) rest =
    let a = statements_of (raw_body_of_row ys) in
    let b = statements_of (raw_body_of_row zs) in
    behind_append (next_number n) a (b ++ statements_of rest)
    ∙ behind_append (number_behind (next_number n) a) b (statements_of rest)
    ∙ ap (λ j. number_behind j (statements_of rest)) (sym (behind_both (next_number n) a b))
number_then n (raws.Execute x) rest = refl

-- one statement more of those from a number on
pub conditions_next : (here : Option Condition) (ss : List RawStmt) (i n m : ℕ) (s : RawStmt) (now grown all : List (Option Condition))
    → i < length ss → s ≡ get_or ss i s → m ≡ number_after n s → grown ≡ now ++ statement_conditions here n s
    → now ++ conditions_in here n (raw_body_of (drop i ss)) ≡ all
    → grown ++ conditions_in here m (raw_body_of (drop (i + 1) ss)) ≡ all
conditions_next here ss i n m s now grown all some is behind one so_far =
    let rest = raw_body_of (drop (i + 1) ss) in
    ap (λ l. l ++ conditions_in here m rest) one
    ∙ append_assoc now (statement_conditions here n s) (conditions_in here m rest)
    ∙ ap (λ l. now ++ l)
    (ap (λ k. statement_conditions here n s ++ conditions_in here k rest) behind
    ∙ sym (in_then here n s rest)
    ∙ ap (λ x. conditions_in here n (raw_stmt_then x rest)) is
    ∙ ap (λ l. conditions_in here n (raw_body_of l)) (sym (drop_more ss i s some)))
    ∙ so_far

pub number_next : (ss : List RawStmt) (i n m all : ℕ) (s : RawStmt) → i < length ss → s ≡ get_or ss i s → m ≡ number_after n s
    → number_behind n (statements_of (raw_body_of (drop i ss))) ≡ all
    → number_behind m (statements_of (raw_body_of (drop (i + 1) ss))) ≡ all
number_next ss i n m all s some is behind so_far =
    let rest = raw_body_of (drop (i + 1) ss) in
    ap (λ k. number_behind k (statements_of rest)) behind
    ∙ sym (number_then n s rest)
    ∙ ap (λ x. number_behind n (statements_of (raw_stmt_then x rest))) is
    ∙ ap (λ l. number_behind n (statements_of (raw_body_of l))) (sym (drop_more ss i s some))
    ∙ so_far

-- all of them
pub conditions_all : (here : Option Condition) (ss : List RawStmt) (i n : ℕ) (now all : List (Option Condition)) → length ss ≤ i
    → now ++ conditions_in here n (raw_body_of (drop i ss)) ≡ all → now ≡ all
conditions_all here ss i n now all past so_far =
    sym (append-nil now) ∙ ap (λ l. now ++ conditions_in here n (raw_body_of l)) (sym (drop_all i ss past)) ∙ so_far

pub number_all : (ss : List RawStmt) (i n all : ℕ) → length ss ≤ i
    → number_behind n (statements_of (raw_body_of (drop i ss))) ≡ all → n ≡ all
number_all ss i n all past so_far =
    ap (λ l. number_behind n (statements_of (raw_body_of l))) (sym (drop_all i ss past)) ∙ so_far

-- ---- a statement by its kind

-- an IF: its own condition is noted, then those of THEN, then those of ELSE
pub of_if : (here : Option Condition) (n then_at else_at : ℕ) (s : RawStmt) (t : Vec ℕ Global) (ys zs : Vec RawStmt Global) (a b : List RawStmt)
    (old noted in_then new : List (Option Condition)) → s ≡ variants.If t ys zs → a ≡ ys.items → b ≡ zs.items → then_at ≡ next_number n
    → else_at ≡ number_behind then_at (statements_of (raw_body_of a)) → noted ≡ old ++ here ∷ []
    → in_then ≡ noted ++ conditions_in (where_test n true) then_at (raw_body_of a)
    → new ≡ in_then ++ conditions_in (where_test n false) else_at (raw_body_of b) → new ≡ old ++ statement_conditions here n s
of_if here n then_at else_at s t ys zs a b old noted in_then new is first second then_is else_is one two three =
    let at = next_number n in
    let x = conditions_in (where_test n true) at (raw_body_of ys.items) in
    let behind = number_behind at (statements_of (raw_body_of ys.items)) in
    let y = conditions_in (where_test n false) behind (raw_body_of zs.items) in
    let two_is : in_then ≡ (old ++ here ∷ []) ++ x =
    two
    ∙ ap (λ l. l ++ conditions_in (where_test n true) then_at (raw_body_of a)) one
    ∙ ap (λ k. (old ++ here ∷ []) ++ conditions_in (where_test n true) k (raw_body_of a)) then_is
    ∙ ap (λ l. (old ++ here ∷ []) ++ conditions_in (where_test n true) at (raw_body_of l)) first in
    let else_at_is : else_at ≡ behind =
    else_is
    ∙ ap (λ k. number_behind k (statements_of (raw_body_of a))) then_is
    ∙ ap (λ l. number_behind at (statements_of (raw_body_of l))) first in
    three
    ∙ ap (λ l. l ++ conditions_in (where_test n false) else_at (raw_body_of b)) two_is
    ∙ ap (λ k. ((old ++ here ∷ []) ++ x) ++ conditions_in (where_test n false) k (raw_body_of b)) else_at_is
    ∙ ap (λ l. ((old ++ here ∷ []) ++ x) ++ conditions_in (where_test n false) behind (raw_body_of l)) second
    ∙ append_assoc (old ++ here ∷ []) x y
    ∙ append_assoc old (here ∷ []) (x ++ y)
    ∙ ap (λ l. old ++ (here ∷ (x ++ l))) (sym (append-nil y))
    ∙ ap (λ l. old ++ l) (sym (ap (statement_conditions here n) is ∙ ap (conditions_in here n) (raw_stmt_then-If t ys zs done)))

pub after_if : (n then_at else_at new : ℕ) (s : RawStmt) (t : Vec ℕ Global) (ys zs : Vec RawStmt Global) (a b : List RawStmt)
    → s ≡ variants.If t ys zs → a ≡ ys.items → b ≡ zs.items → then_at ≡ next_number n
    → else_at ≡ number_behind then_at (statements_of (raw_body_of a))
    → new ≡ number_behind else_at (statements_of (raw_body_of b)) → new ≡ number_after n s
after_if n then_at else_at new s t ys zs a b is first second then_is else_is new_is =
    let at = next_number n in
    let xs = statements_of (raw_body_of ys.items) in
    let zs' = statements_of (raw_body_of zs.items) in
    new_is
    ∙ ap (λ k. number_behind k (statements_of (raw_body_of b)))
    (else_is
    ∙ ap (λ k. number_behind k (statements_of (raw_body_of a))) then_is
    ∙ ap (λ l. number_behind at (statements_of (raw_body_of l))) first)
    ∙ ap (λ l. number_behind (number_behind at xs) (statements_of (raw_body_of l))) second
    ∙ sym (behind_both at xs zs')
    ∙ sym (ap (number_after n) is ∙ ap (λ body. number_behind n (statements_of body)) (raw_stmt_then-If t ys zs done))
