-- What holds of a tree and goes over to its operands holds of each of its nodes.
use Rattle.std.proofs.Common.{◌≡◌, ℕ, ◌+◌, ◌-◌, Bool, true, false, Option, Some, None, List, subst}
use Rattle.std.specs.Prelude.{◌==◌, nat_lt, if◌then◌else◌}
use Rattle.pap_tree.specs.Term.{One, Two, Term, leaf, item, one, two, choice}
use Rattle.pap_tree.specs.Numbering.{nodes, node_of, last_at}

-- it goes over to the operands of each operation
pub record GoesDown (P : Term → Type 0) : Type 0 where
  pub of_item : (w : List ℕ) (a : Term) → P (item w a) → P a
  pub of_one : (op : One) (a : Term) → P (one op a) → P a
  pub of_two : (op : Two) (a b : Term) → P (two op a b) → P a × P b
  pub of_choice : (c a b : Term) → P (choice c a b) → P c × P a × P b

-- so it holds of what a search finds, here or elsewhere
either : (P : Term → Type 0) (c : Bool) (first second : Option Term) (y : Term) → (if c then first else second) ≡ Some y
    → (first ≡ Some y → P y) → (second ≡ Some y → P y) → P y
either P true first second y e f g = f e
either P false first second y e f g = g e

found : (P : Term → Type 0) (x y : Term) → P x → Some x ≡ Some y → P y
found P x y h e = subst P (inside x y e) h
  where
    inside : (x y : Term) → Some x ≡ Some y → x ≡ y
    inside x y e = cc

last : (P : Term → Type 0) (before : ℕ) (x : Term) (n : ℕ) (y : Term) → P x → last_at before x n ≡ Some y → P y
last P before x n y h e = either P (n == before) (Some x) None y e (λ i. found P x y h i) (λ i. absurd cc)

pub node_has : (P : Term → Type 0) → GoesDown P → (x : Term) (n : ℕ) (y : Term) → P x → node_of x n ≡ Some y → P y
node_has P down (leaf l) n y h e = last P 0 (leaf l) n y h e
node_has P down (item w a) n y h e =
    either P (nat_lt n (nodes a)) (node_of a n) (last_at (nodes a) (item w a) n) y e
    (node_has P down a n y (down.of_item w a h)) (last P (nodes a) (item w a) n y h)
node_has P down (one op a) n y h e =
    either P (nat_lt n (nodes a)) (node_of a n) (last_at (nodes a) (one op a) n) y e
    (node_has P down a n y (down.of_one op a h)) (last P (nodes a) (one op a) n y h)
node_has P down (two op a b) n y h e =
    let parts = down.of_two op a b h in
    either P (nat_lt n (nodes a)) (node_of a n) _ y e (node_has P down a n y parts.0)
    (λ f. either P (nat_lt n (nodes a + nodes b)) (node_of b (n - nodes a)) _ y f (node_has P down b (n - nodes a) y parts.1)
    (last P (nodes a + nodes b) (two op a b) n y h))
node_has P down (choice c a b) n y h e =
    let parts = down.of_choice c a b h in
    either P (nat_lt n (nodes c)) (node_of c n) _ y e (node_has P down c n y parts.0)
    (λ f. either P (nat_lt n (nodes c + nodes a)) (node_of a (n - nodes c)) _ y f (node_has P down a (n - nodes c) y parts.1)
    (λ g. either P (nat_lt n (nodes c + nodes a + nodes b)) (node_of b (n - (nodes c + nodes a))) _ y g
    (node_has P down b (n - (nodes c + nodes a)) y parts.2) (last P (nodes c + nodes a + nodes b) (choice c a b) n y h)))
