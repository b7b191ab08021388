-- The machine goes through each text and each front.
use Rattle.std.proofs.Common.{◌≡◌, ℕ, ◌+◌, ◌≤◌, Bool, true, false, Option, Some, None, List, [], ◌∷◌, ◌++◌, refl, ap, ◌∙◌, arith}
use Rattle.std.specs.Prelude.{⊤, option_and_then}
use Rattle.std.proofs.lemmas.List.{append-nil}
use Rattle.pap_tree.specs.declared.expression.Binary.TheVariants as binaries
use Rattle.pap_tree.specs.Term.{whole, point}
use Rattle.pap_tree.specs.Declarations.{big}
use Rattle.pap_tree.specs.Tokens as tokens
use Rattle.pap_tree.specs.Tokens.{Token, Literal, Operator, int}
use Rattle.pap_tree.specs.Grammar.{Item, Scale, Line, LineMeaning, tree, literal, mode, assignment, declared, decimals}
use Rattle.pap_tree.specs.Texts as texts
use Rattle.pap_tree.specs.Texts.{Derives, Texts, begins_number, begins_point}
use Rattle.pap_tree.specs.Fronts as fronts
use Rattle.pap_tree.specs.Fronts.{Front, Fronts}
use Rattle.expr_grammar.specs.Machine.{InNew, Negating, OfLine, OfValue, OfNew, State, Want, Moding, Naming, Signed, Listing, level_of, step, steps}
use Rattle.expr_grammar.proofs.Holes.{clashes, follows}
use Rattle.expr_grammar.proofs.Handles as handles
use Rattle.expr_grammar.proofs.Handles.{Suits, after, Same, Follows, wants, never, Handles}
use Rattle.expr_grammar.proofs.Ways.{ways}

-- ---- what clashes with no text clashes with no beginning of it

abbrev pub Earlier : (List Token → Bool) → Type 0
Earlier c = (a b : List Token) → c (a ++ b) ≡ false → c a ≡ false

number_earlier : (a b : List Token) → begins_number (a ++ b) ≡ false → begins_number a ≡ false
number_earlier [] b e = refl
number_earlier (Literal n ∷ a) b e = e
number_earlier (t ∷ a) b e = refl

point_earlier : (a b : List Token) → begins_point (a ++ b) ≡ false → begins_point a ≡ false
point_earlier [] b e = refl
point_earlier (Literal (tokens.point d) ∷ a) b e = e
point_earlier (Operator binaries.Sub ∷ Literal (tokens.point d) ∷ a) b e = e
point_earlier (t ∷ a) b e = refl

pub earlier : (s : State) → Earlier (clashes s)
earlier (Want (Negating ∷ k)) a b e = number_earlier a b e
earlier (Want (InNew ∷ k)) a b e = point_earlier a b e
earlier s a b e = refl

later : (c : List Token → Bool) (t : Token) → Earlier c → Earlier (λ a. c (t ∷ a))
later c t h a b e = h (t ∷ a) b e

never_earlier : Earlier never
never_earlier a b e = refl

-- ---- steps

pub some_is : (s r : State) → Some s ≡ Some r → s ≡ r
some_is s r e = cc

through : (o : Option State) (a b : List Token) (r : State) → ((x : State) → steps x a ≡ Some r → steps x (a ++ b) ≡ steps r b)
    → option_and_then (λ x. steps x a) o ≡ Some r → option_and_then (λ x. steps x (a ++ b)) o ≡ steps r b
through None a b r h e = absurd cc
through (Some x) a b r h e = h x e

pub steps_then : (s : State) (a b : List Token) (r : State) → steps s a ≡ Some r → steps s (a ++ b) ≡ steps r b
steps_then s [] b r e = ap (λ x. steps x b) (some_is s r e)
steps_then s (t ∷ a) b r e = through (step s t) a b r (λ x. steps_then x a b r) e

pub one_step : (s : State) (t : Token) (ts : List Token) (r : State) → step s t ≡ Some r → steps s (t ∷ ts) ≡ steps r ts
one_step s t ts r e = ap (λ o. option_and_then (λ x. steps x ts) o) e

-- ---- texts

-- after a text nothing is closed that was open before the line
pub kept : (s : State) (x : LineMeaning) → level_of s ≤ level_of (after s x)
kept (Want k) (tree x) = omega arith
kept (Want k) (literal l) = omega arith
kept (Moding r s k) (mode m) = omega arith
kept Naming (assignment x e) = omega arith
kept (Signed OfLine) (literal l) = omega arith
kept (Signed OfLine) (declared d) = omega arith
kept (Signed (OfValue r)) (literal (whole i)) = omega arith
kept (Signed (OfValue r)) (literal (point d)) = omega arith
kept (Signed (OfNew r)) (literal (whole i)) = omega arith
kept (Listing ds) (declared (big d)) = omega arith
kept (Listing ds) (decimals es) = omega arith
kept s x = omega arith

-- The machine comes to a state that is as good as f.
pub record Goes (l : Line) (s : State) (a : List Token) (f : State) : Type 0 where
  pub to : State
  pub run : steps s a ≡ Some to
  pub same : Same l to f
  pub deep : level_of f ≤ level_of to

-- the same after one more token before them
first : (l : Line) (s r : State) (t : Token) (a : List Token) (f : State) → step s t ≡ Some r → Goes l r a f → Goes l s (t ∷ a) f
first l s r t a f e g = record { to = g.to; run = one_step s t a r e ∙ g.run; same = g.same; deep = g.deep }

-- a part, and then one more token
part_then : (inner l : Line) (s p r : State) (a : List Token) (t : Token) (b : List Token) (f : State)
    → Goes inner s a p → follows inner t ≡ true → step p t ≡ Some r → Goes l r b f → Goes l s (a ++ (t ∷ b)) f
part_then inner l s p r a t b f g follow e h = record {
  to = h.to;
  run = steps_then s a (t ∷ b) g.to g.run ∙ one_step g.to t b r (g.same.next t follow ∙ e) ∙ h.run;
  same = h.same;
  deep = h.deep;
}

part_last : (inner l : Line) (s p : State) (a : List Token) (f : State) → Goes inner s a p → Follows inner l p f → level_of f ≤ level_of p → Goes l s (a ++ []) f
part_last inner l s p a f g h le = record {
  to = g.to;
  run = ap (steps s) (append-nil a) ∙ g.run;
  same = record { next = λ t e. g.same.next t (h.looser t e) ∙ h.same.next t e; end = g.same.end ∙ h.same.end };
  deep = let d = g.deep in omega (arith, d, le);
}

mutual
  pub goes : {l : Line} {a : List Token} {x : LineMeaning} → Derives l a x → (s : State) → Suits l s → clashes s a ≡ false → Goes l s a (after s x)
  goes (texts.by way w h) s su cl = walks h (clashes s) (earlier s) (ways w s su) cl

  walks : {way : List Item} {a : List Token} → Texts way a → (c : List Token → Bool) → Earlier c → {l : Line} {m : ℕ} {s f : State}
      → Handles c l m way s f → c a ≡ false → Goes l s a f
  walks texts.done c ea {s} {f} (handles.done same le) cl = record { to = s; run = refl; same = same; deep = le }
  walks (texts.is {t} {ts} h) c ea {l} {s} {f} (handles.is r le e rest) cl = first l s r t ts f (e (ea (t ∷ []) ts cl)) (walks h (λ a. c (t ∷ a)) (later c t ea) rest cl)
  walks (texts.opens {t} {ts} h) c ea {l} {s} {f} (handles.opens r le e rest) cl = first l s r t ts f (e (ea (t ∷ []) ts cl)) (walks h (λ a. c (t ∷ a)) (later c t ea) rest cl)
  walks (texts.scale {s = n} {ts} h) c ea {l} {s} {f} (handles.scale r le w e rest) cl = first l s r (Literal (int n)) ts f e (walks h never never_earlier rest refl)
  walks (texts.part {x} {a} q t texts.done) c ea {l} {s} {f} (handles.last {inner} su le clear follow low) cl =
      part_last inner l s (after s x) a f (goes t s su (clear a q (ea a [] cl))) follow (let k = kept s x in omega (arith, k, low))
  walks (texts.part {x} {a} q t (texts.is {t = u} {ts} h)) c ea {l} {s} {f} (handles.then_is {inner} r su le clear follow e rest) cl =
      part_then inner l s (after s x) r a u ts f (goes t s su (clear a q (ea a (u ∷ ts) cl))) follow e (walks h never never_earlier rest refl)
  walks (texts.part {x} {a} q t (texts.opens {t = u} {ts} h)) c ea {l} {s} {f} (handles.then_opens {inner} r su le clear follow e rest) cl =
      part_then inner l s (after s x) r a u ts f (goes t s su (clear a q (ea a (u ∷ ts) cl))) follow e (walks h never never_earlier rest refl)
  walks (texts.part q t (texts.scale h)) c ea x cl = elim x [ ]
  walks (texts.part q t (texts.part r u h)) c ea x cl = elim x [ ]

-- ---- fronts

-- What comes next is a scale where the state waits for one.
abbrev pub Expects : Option Item → State → Type 0
Expects (Some (Scale p n)) s = wants s ≡ Some p
Expects i s = ⊤

-- The machine gets through, and at least so many more levels than from the start are open.
pub record Reaches (s : State) (a : List Token) (n : ℕ) (i : Option Item) : Type 0 where
  pub to : State
  pub run : steps s a ≡ Some to
  pub deep : n + level_of s ≤ level_of to
  pub expects : Expects i to

-- the same, of so many levels in all
record Comes (s : State) (a : List Token) (n : ℕ) (i : Option Item) : Type 0 where
  to : State
  run : steps s a ≡ Some to
  deep : n ≤ level_of to
  expects : Expects i to

comes_first : (s r : State) (t : Token) (a : List Token) (n : ℕ) (i : Option Item) → step s t ≡ Some r → Comes r a n i → Comes s (t ∷ a) n i
comes_first s r t a n i e g = record { to = g.to; run = one_step s t a r e ∙ g.run; deep = g.deep; expects = g.expects }

comes_then : (inner : Line) (s p r : State) (a : List Token) (t : Token) (b : List Token) (n : ℕ) (i : Option Item)
    → Goes inner s a p → follows inner t ≡ true → step p t ≡ Some r → Comes r b n i → Comes s (a ++ (t ∷ b)) n i
comes_then inner s p r a t b n i g follow e h = record {
  to = h.to;
  run = steps_then s a (t ∷ b) g.to g.run ∙ one_step g.to t b r (g.same.next t follow ∙ e) ∙ h.run;
  deep = h.deep;
  expects = h.expects;
}

comes_last : (inner : Line) (s p : State) (a : List Token) (n : ℕ) → Goes inner s a p → n ≤ level_of p → Comes s (a ++ []) n None
comes_last inner s p a n g le = record { to = g.to; run = ap (steps s) (append-nil a) ∙ g.run; deep = (let d = g.deep in omega (arith, d, le)); expects = tt }

-- after a part comes no scale
comes_here : (inner : Line) (s p : State) (a : List Token) (n : ℕ) (i : Item) → Goes inner s a p → n ≤ level_of p → ((r : State) → Expects (Some i) r) → Comes s (a ++ []) n (Some i)
comes_here inner s p a n i g le none = record { to = g.to; run = ap (steps s) (append-nil a) ∙ g.run; deep = (let d = g.deep in omega (arith, d, le)); expects = none g.to }

comes_inside : (s : State) (a : List Token) (n v base : ℕ) (i : Option Item) → Reaches s a n i → v + base ≤ n + level_of s → Comes s a (v + base) i
comes_inside s a n v base i g le = record { to = g.to; run = g.run; deep = (let d = g.deep in omega (arith, d, le)); expects = g.expects }

mutual
  pub reaches : {l : Line} {a : List Token} {n : ℕ} {i : Option Item} → Front l a n i → (s : State) → Suits l s → clashes s a ≡ false → Reaches s a n i
  reaches {n} {i} (fronts.by {x} way w h) s su cl =
      let g = comes h (clashes s) (earlier s) (ways w s su) cl (level_of s) (omega arith) (kept s x) in
      record { to = g.to; run = g.run; deep = g.deep; expects = g.expects }

  comes : {k : ℕ} {way : List Item} {a : List Token} {n : ℕ} {i : Option Item} → Fronts k way a n i → (c : List Token → Bool) → Earlier c
      → {l : Line} {m : ℕ} {s f : State} → Handles c l m way s f → c a ≡ false → (base : ℕ) → m ≡ k + base → base ≤ level_of f
      → Comes s a (n + base) i
  comes fronts.done c ea {s} (handles.done same le) cl base e low = record { to = s; run = refl; deep = omega (arith, le, low); expects = tt }
  comes fronts.here c ea {s} (handles.is r le f rest) cl base e low = record { to = s; run = refl; deep = omega (arith, le, e); expects = tt }
  comes fronts.here c ea {s} (handles.opens r le f rest) cl base e low = record { to = s; run = refl; deep = omega (arith, le, e); expects = tt }
  comes fronts.here c ea {s} (handles.scale r le w f rest) cl base e low = record { to = s; run = refl; deep = omega (arith, le, e); expects = w }
  comes fronts.here c ea {s} (handles.last su le clear follow f) cl base e low = record { to = s; run = refl; deep = omega (arith, le, e); expects = tt }
  comes fronts.here c ea {s} (handles.then_is r su le clear follow f rest) cl base e low = record { to = s; run = refl; deep = omega (arith, le, e); expects = tt }
  comes fronts.here c ea {s} (handles.then_opens r su le clear follow f rest) cl base e low = record { to = s; run = refl; deep = omega (arith, le, e); expects = tt }
  comes (fronts.is {t} {ts} {n} {i} h) c ea {s} (handles.is r le f rest) cl base e low =
      comes_first s r t ts (n + base) i (f (ea (t ∷ []) ts cl)) (comes h (λ a. c (t ∷ a)) (later c t ea) rest cl base e low)
  comes (fronts.opens {t} {ts} {n} {i} h) c ea {s} (handles.opens r le f rest) cl base e low =
      comes_first s r t ts (n + base) i (f (ea (t ∷ []) ts cl)) (comes h (λ a. c (t ∷ a)) (later c t ea) rest cl base (omega (arith, e)) low)
  comes (fronts.scale {s = v} {ts} {n} {i} h) c ea {s} (handles.scale r le w f rest) cl base e low =
      comes_first s r (Literal (int v)) ts (n + base) i f (comes h never never_earlier rest refl base e low)
  comes (fronts.inside {ts} {n} {i} v w q h) c ea {s} (handles.last su le clear follow f) cl base e low = comes_inside s ts n v base i (reaches h s su (clear ts q cl)) (omega (arith, w, e, le))
  comes (fronts.inside {ts} {n} {i} v w q h) c ea {s} (handles.then_is r su le clear follow f rest) cl base e low = comes_inside s ts n v base i (reaches h s su (clear ts q cl)) (omega (arith, w, e, le))
  comes (fronts.inside {ts} {n} {i} v w q h) c ea {s} (handles.then_opens r su le clear follow f rest) cl base e low = comes_inside s ts n v base i (reaches h s su (clear ts q cl)) (omega (arith, w, e, le))
  comes (fronts.past {x} {a} q t fronts.done) c ea {s} (handles.last {inner} su le clear follow f) cl base e low =
      comes_last inner s (after s x) a (0 + base) (goes t s su (clear a q (ea a [] cl))) (let d = kept s x in omega (arith, le, e, d))
  comes (fronts.past {k} {x} {a} q t (fronts.here {i})) c ea {s} (handles.then_is {inner} r su le clear follow f rest) cl base e low =
      comes_here inner s (after s x) a (k + base) i (goes t s su (clear a q (ea a [] cl))) (let d = kept s x in omega (arith, le, e, d)) (λ r. tt)
  comes (fronts.past {k} {x} {a} q t (fronts.here {i})) c ea {s} (handles.then_opens {inner} r su le clear follow f rest) cl base e low =
      comes_here inner s (after s x) a (k + base) i (goes t s su (clear a q (ea a [] cl))) (let d = kept s x in omega (arith, le, e, d)) (λ r. tt)
  comes (fronts.past {x} {a} q t (fronts.is {t = u} {ts} {n} {i} h)) c ea {s} (handles.then_is {inner} r su le clear follow f rest) cl base e low =
      comes_then inner s (after s x) r a u ts (n + base) i (goes t s su (clear a q (ea a (u ∷ ts) cl))) follow f (comes h never never_earlier rest refl base e low)
  comes (fronts.past {x} {a} q t (fronts.opens {t = u} {ts} {n} {i} h)) c ea {s} (handles.then_opens {inner} r su le clear follow f rest) cl base e low =
      comes_then inner s (after s x) r a u ts (n + base) i (goes t s su (clear a q (ea a (u ∷ ts) cl))) follow f (comes h never never_earlier rest refl base (omega (arith, e)) low)
  comes (fronts.past q t (fronts.scale h)) c ea x cl base e low = elim x [ ]
  comes (fronts.past q t (fronts.inside v w r h)) c ea x cl base e low = elim x [ ]
  comes (fronts.past q t (fronts.past r u h)) c ea x cl base e low = elim x [ ]
