-- How proofs tell the trees of plans apart: each as a tree of numbers. No contract's meaning rests on this.
use Rattle.std.specs.Prelude.{◌≡◌, ℕ, List, true, false, nat_eq}
use Rattle.std.proofs.Common.{ap, sym}
use Rattle.std.proofs.lemmas.Bool.{false≢true}
use base.Stored.{Gv, gnil, gnum, gcons, num, Coded, coded_list, coded_ℕ}
use Rattle.pap_tree.specs.Flowchart.{Body, done, eval, branch, execute}
use Rattle.pap_tree.specs.Term.{Leaf, One, Two, Term, leaf, item, one, two, choice}

-- the first side of a tree of numbers
abbrev first : Gv → Gv
first gnil = gnil
first (gnum n) = gnil
first (gcons a b) = a

-- the second side of a tree of numbers
abbrev second : Gv → Gv
second gnil = gnil
second (gnum n) = gnil
second (gcons a b) = b

-- the number that says which kind of node it is
abbrev tag : Gv → ℕ
tag g = num (first g)

-- a name as such a tree
abbrev names : Coded (List ℕ)
names = coded_list coded_ℕ

-- the tests of two tags don't agree
differ : true ≡ false → ⊥
differ e = false≢true (sym e)

module _ (leaves : Coded Leaf) (ones : Coded One) (twos : Coded Two) where
  -- an expression as a tree of numbers
  pub term_tree : Term → Gv
  term_tree (leaf l) = gcons (gnum 0) (leaves.code l)
  term_tree (item x t) = gcons (gnum 1) (gcons (names.code x) (term_tree t))
  term_tree (one o t) = gcons (gnum 2) (gcons (ones.code o) (term_tree t))
  term_tree (two o a b) =
      gcons (gnum 3) (gcons (twos.code o) (gcons (term_tree a) (term_tree b)))
  term_tree (choice c a b) =
      gcons (gnum 4) (gcons (term_tree c) (gcons (term_tree a) (term_tree b)))

  -- expressions with the same tree are the same
  pub same_term : (s t : Term) → term_tree s ≡ term_tree t → s ≡ t
  unfolding term_tree
  same_term (leaf l) (leaf m) p = ap leaf (leaves.inj l m (ap second p))
  same_term (item x s) (item y t) p = λ i.
      item (names.inj x y (ap (λ g. first (second g)) p) i)
      (same_term s t (ap (λ g. second (second g)) p) i)
  same_term (one o s) (one n t) p = λ i.
      one (ones.inj o n (ap (λ g. first (second g)) p) i)
      (same_term s t (ap (λ g. second (second g)) p) i)
  same_term (two o a b) (two n c d) p = λ i.
      two (twos.inj o n (ap (λ g. first (second g)) p) i)
      (same_term a c (ap (λ g. first (second (second g))) p) i)
      (same_term b d (ap (λ g. second (second (second g))) p) i)
  same_term (choice t a b) (choice u c d) p = λ i.
      choice (same_term t u (ap (λ g. first (second g)) p) i)
      (same_term a c (ap (λ g. first (second (second g))) p) i)
      (same_term b d (ap (λ g. second (second (second g))) p) i)
  same_term (leaf l) t p = absurd (differ (ap (λ g. nat_eq 0 (tag g)) p))
  same_term (item x s) t p = absurd (differ (ap (λ g. nat_eq 1 (tag g)) p))
  same_term (one o s) t p = absurd (differ (ap (λ g. nat_eq 2 (tag g)) p))
  same_term (two o a b) t p = absurd (differ (ap (λ g. nat_eq 3 (tag g)) p))
  same_term (choice c a b) t p = absurd (differ (ap (λ g. nat_eq 4 (tag g)) p))

  -- a list of statements as a tree of numbers
  pub body_tree : Body → Gv
  body_tree done = gcons (gnum 0) gnil
  body_tree (eval x t b) = gcons (gnum 1) (gcons (names.code x) (gcons (term_tree t) (body_tree b)))
  body_tree (branch t a b c) =
      gcons (gnum 2) (gcons (term_tree t) (gcons (body_tree a) (gcons (body_tree b) (body_tree c))))
  body_tree (execute x b) = gcons (gnum 3) (gcons (names.code x) (body_tree b))

  -- lists of statements with the same tree are the same
  pub same_body : (a b : Body) → body_tree a ≡ body_tree b → a ≡ b
  unfolding body_tree
  same_body done done p = λ i. done
  same_body (eval x s a) (eval y t b) p = λ i.
      eval (names.inj x y (ap (λ g. first (second g)) p) i)
      (same_term s t (ap (λ g. first (second (second g))) p) i)
      (same_body a b (ap (λ g. second (second (second g))) p) i)
  same_body (branch s a b c) (branch t d e f) p = λ i.
      branch (same_term s t (ap (λ g. first (second g)) p) i)
      (same_body a d (ap (λ g. first (second (second g))) p) i)
      (same_body b e (ap (λ g. first (second (second (second g)))) p) i)
      (same_body c f (ap (λ g. second (second (second (second g)))) p) i)
  same_body (execute x a) (execute y b) p = λ i.
      execute (names.inj x y (ap (λ g. first (second g)) p) i)
      (same_body a b (ap (λ g. second (second g)) p) i)
  same_body done b p = absurd (differ (ap (λ g. nat_eq 0 (tag g)) p))
  same_body (eval x t a) b p = absurd (differ (ap (λ g. nat_eq 1 (tag g)) p))
  same_body (branch t a b c) d p = absurd (differ (ap (λ g. nat_eq 2 (tag g)) p))
  same_body (execute x a) b p = absurd (differ (ap (λ g. nat_eq 3 (tag g)) p))

  -- lists of statements have a code
  abbrev pub body_code : Coded Body
  body_code = record { code = body_tree; inj = same_body }
