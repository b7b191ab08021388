-- How many IFs are open: where shapes are nested, as many as began, less those that ended.
use Rattle.std.proofs.Common.{◌≡◌, ℕ, ◌+◌, Bool, true, false, ◌&&◌, inl, inr, cond, Option, Some, None, List, [], ◌∷◌, refl, sym, ap, subst, ◌∙◌, arith}
use Rattle.std.specs.Prelude.{if◌then◌else◌, option_and_then, count_by}
use Rattle.std.proofs.lemmas.Bool.{and_parts, cases_Bool}
use Rattle.pap_reader.specs.declared.element.Element.{Element}
use Rattle.pap_reader.specs.declared.element.Element.TheVariants as elements
use Rattle.pap_reader.specs.declared.fault.Which.{Which}
use Rattle.pap_reader.specs.declared.fault.Which.TheVariants as which
use Rattle.pap_reader.specs.Table.{may_stand, is_complete}
use Rattle.pap_reader.specs.Structure.{Shape, opens, closes, foreign}
use Rattle.pap_reader.specs.private.NestingDecisions.{Open, fresh, with_child, is_inside, enter, enters, start}
use Rattle.pap_reader.specs.Limits.{begins_if, ends_if, amount}
use Rattle.pap_reader.specs.private.CountDecisions.{deeper, depth_from, tally}
use Rattle.pap_reader.proofs.Structures.{same_is}
use Rattle.pap_reader.proofs.Completion.{count_by-cons}

abbrev is_if : Option Element → Bool
is_if None = false
is_if (Some e) = begins_if (opens e)

-- the open elements that are IFs
abbrev ifs : List Open → ℕ
ifs [] = 0
ifs (o ∷ os) = cond (is_if o.inside) 1 0 + ifs os

opened : (d : ℕ) (e : Element) → deeper d (opens e) ≡ cond (begins_if (opens e)) 1 0 + d
opened d elements.If = omega arith
opened d e = omega arith

closed : (d : ℕ) (e : Element) → deeper (cond (begins_if (opens e)) 1 0 + d) (closes e) ≡ d
closed d elements.If = omega arith
closed d e = omega arith

same_if : (e : Element) → begins_if (opens e) ≡ ends_if (closes e)
same_if elements.If = refl
same_if e = refl

is_some : (a b : List Open) → Some a ≡ Some b → a ≡ b
is_some a b e = cc

no_some : (a : List Open) → None ≡ Some a → ⊥
no_some a e = absurd cc

inside_is : (i : Option Element) (e : Element) → is_inside i e ≡ true → i ≡ Some e
inside_is None e h = absurd cc
inside_is (Some f) e h = ap (λ x. Some x) (same_is f e h)

-- what some shapes do to the open IFs
record Counted (os : List Open) (ss : List Shape) (r : List Open) : Type 0 where
  pub depth : depth_from (ifs os) ss ≡ ifs r
  pub balance : count_by begins_if ss + ifs os ≡ count_by ends_if ss + ifs r

-- one shape
record CountedOne (os : List Open) (s : Shape) (r : List Open) : Type 0 where
  pub depth : deeper (ifs os) s ≡ ifs r
  pub balance : cond (begins_if s) 1 0 + ifs os ≡ cond (ends_if s) 1 0 + ifs r

one : (os : List Open) (s : Shape) (r : List Open) → enter os s ≡ Some r → CountedOne os s r
one [] s r e = absurd (no_some r e)
one (o ∷ os) (opens f) r e = elim (cases_Bool (may_stand o.inside o.children f)) [
  | inl t ↦
      subst (CountedOne (o ∷ os) (opens f))
      (is_some (fresh (Some f) ∷ with_child o f ∷ os) r (sym (ap (λ b. if b then Some (fresh (Some f) ∷ with_child o f ∷ os) else None) t) ∙ e))
      (record { depth = opened (ifs (o ∷ os)) f; balance = omega arith })
  | inr t ↦ absurd (no_some r (sym (ap (λ b. if b then Some (fresh (Some f) ∷ with_child o f ∷ os) else None) t) ∙ e))
]
one (o ∷ []) (closes f) r e = absurd (no_some r e)
one (o ∷ u ∷ os) (closes f) r e = elim (cases_Bool (is_inside o.inside f && is_complete o.inside o.children)) [
  | inl t ↦
      let parts = and_parts (is_inside o.inside f) (is_complete o.inside o.children) t in
      let inside = inside_is o.inside f parts.0 in
      subst (CountedOne (o ∷ u ∷ os) (closes f))
      (is_some (u ∷ os) r (sym (ap (λ b. if b then Some (u ∷ os) else None) t) ∙ e))
      (record {
        depth = ap (λ i. deeper (cond (is_if i) 1 0 + ifs (u ∷ os)) (closes f)) inside ∙ closed (ifs (u ∷ os)) f;
        balance = omega (arith, ap {B = ℕ} (λ i. cond (is_if i) 1 0) inside, ap {B = ℕ} (λ b. cond b 1 0) (same_if f));
      })
  | inr t ↦ absurd (no_some r (sym (ap (λ b. if b then Some (u ∷ os) else None) t) ∙ e))
]
one (o ∷ os) foreign r e = absurd (no_some r e)

through : (os r : List Open) (s : Shape) (ss : List Shape) (o : Option (List Open)) → enter os s ≡ o
    → ((q : List Open) → enters q ss ≡ Some r → Counted q ss r)
    → option_and_then (λ q. enters q ss) o ≡ Some r → Counted os (s ∷ ss) r
through os r s ss None h go e = absurd (no_some r e)
through os r s ss (Some q) h go e =
    let a = one os s q h in
    let b = go q e in
    record {
      depth = ap (λ d. depth_from d ss) a.depth ∙ b.depth;
      balance = omega (arith, count_by-cons begins_if s ss, count_by-cons ends_if s ss, a.balance, b.balance);
    }

counted : (ss : List Shape) (os r : List Open) → enters os ss ≡ Some r → Counted os ss r
counted [] os r e = record { depth = ap ifs (is_some os r e); balance = ap (λ x. 0 + ifs x) (is_some os r e) }
counted (s ∷ ss) os r e = through os r s ss (enter os s) refl (λ q. counted ss q r) e

-- the counts of nested shapes are their amounts
pub tallied : (ss : List Shape) (os : List Open) → enters start ss ≡ Some os → (w : Which) → tally w ss ≡ amount w ss
tallied ss os h which.Depth =
    let c = counted ss start os h in
    let depth : depth_from 0 ss ≡ ifs os = c.depth in
    let balance : count_by begins_if ss + 0 ≡ count_by ends_if ss + ifs os = c.balance in
    omega (arith, depth, balance)
tallied ss os h w = refl
