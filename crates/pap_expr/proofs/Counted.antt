-- As many stretches of bytes as the tree has nodes.
use Rattle.std.proofs.Common.{◌≡◌, ℕ, ◌+◌, Bool, true, false, Result, Ok, Err, IfOk, List, [], ◌∷◌, length, refl, arith}
use Rattle.std.specs.Prelude.{Vec}
use Rattle.std.specs.declared.alloc.Global.{Global}
use Rattle.std.proofs.lemmas.List.{length-append}
use Rattle.pap_tree.specs.Term.{term_of}
use Rattle.pap_tree.specs.declared.expression.Expr.{Expr}
use Rattle.pap_tree.specs.declared.name.Name.{Name}
use Rattle.pap_expr.specs.declared.fault.ExprFault.{ExprFault}
use Rattle.pap_tree.specs.Numbering.{nodes}
use Rattle.pap_tree.specs.Grammar as grammar
use Rattle.pap_tree.specs.Grammar.{Item, Is, Opens, Scale, Part, Line, LineMeaning, Way, tree, assignment}
use Rattle.pap_expr.specs.declared.stretch.Stretch.{Stretch}
use Rattle.pap_expr.specs.NodeBytes as bytes
use Rattle.pap_expr.specs.NodeBytes.{PlacedToken, makes_node, own_node, StandsOn, ItemsStandOn, HaveBytes}

abbrev pub count : LineMeaning → ℕ
count (tree x) = nodes x
count (assignment w x) = nodes x
count _ = 0

abbrev counts : List Item → ℕ
counts [] = 0
counts (Part g l x ∷ more) = count x + counts more
counts (i ∷ more) = counts more

abbrev own_count : Bool → ℕ
own_count true = 1
own_count false = 0

by_way : {l : Line} {way : List Item} {x : LineMeaning} (w : Way l way x) → count x ≡ counts way + own_count (makes_node w)
by_way (grammar.choose c a b) = omega arith
by_way _ = omega arith

own_length : (n : Bool) (ts : List PlacedToken) → length (own_node n ts) ≡ own_count n
own_length true ts = refl
own_length false ts = refl

mutual
  stands_count : {ts : List PlacedToken} {x : LineMeaning} {ps : List Stretch} → StandsOn ts x ps → length ps ≡ count x
  stands_count (bytes.by {ts} {nodes = ps} way w h) =
      let a = by_way w in
      let b = parts_count h in
      let c = own_length (makes_node w) ts in
      let d = length-append ps (own_node (makes_node w) ts) in
      omega (arith, a, b, c, d)

  parts_count : {way : List Item} {ts : List PlacedToken} {ps : List Stretch} → ItemsStandOn way ts ps → length ps ≡ counts way
  parts_count bytes.done = refl
  parts_count (bytes.is t e h) = parts_count h
  parts_count (bytes.opens t e h) = parts_count h
  parts_count (bytes.scale t e h) = parts_count h
  parts_count (bytes.part {inside} {nodes = ps} s h) =
      let a = stands_count s in
      let b = parts_count h in
      let c = length-append inside ps in
      omega (arith, a, b, c)

pub counted : (text : List ℕ) (x : LineMeaning) (ps : List Stretch) → HaveBytes text x ps → length ps ≡ count x
counted text x ps h = stands_count h.stands

pub test_counted : (text : List ℕ) (r : Result (Expr × Vec Stretch Global) ExprFault) → IfOk r (λ r. HaveBytes text (tree (term_of r.0)) r.1.items) → IfOk r (λ r. length r.1.items ≡ nodes (term_of r.0))
test_counted text (Ok r) h = counted text (tree (term_of r.0)) r.1.items h
test_counted text (Err e) h = tt

pub assign_counted : (text : List ℕ) (r : Result (Name × Expr × Vec Stretch Global) ExprFault) → IfOk r (λ r. HaveBytes text (assignment r.0 (term_of r.1)) r.2.items)
    → IfOk r (λ r. length r.2.items ≡ nodes (term_of r.1))
assign_counted text (Ok r) h = counted text (assignment r.0 (term_of r.1)) r.2.items h
assign_counted text (Err e) h = tt
