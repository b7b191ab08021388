-- The names and the scales of a tree that some text has are those of the language.
use Rattle.std.proofs.Common.{List, [], ◌∷◌}
use Rattle.std.specs.Prelude.{⊤, IsTrue}
use Rattle.pap_tree.specs.Names.{is_name}
use Rattle.pap_tree.specs.Term.{Leaf, named, Term, leaf, item, one, two, choice}
use Rattle.pap_tree.specs.Tokens.{Token}
use Rattle.pap_tree.specs.Grammar as grammar
use Rattle.pap_tree.specs.Grammar.{Item, Part, Line, LineMeaning, tree, literal, assignment, Way, leaf_of, negative_of}
use Rattle.pap_tree.specs.Tokens as tokens
use Rattle.pap_tree.specs.Texts as texts
use Rattle.pap_tree.specs.Texts.{Derives, Texts}
use Rattle.pap_tree.specs.Scales.{OneKeepsScale, TwoKeepsScale}

abbrev pub IsNamed : Leaf → Type 0
IsNamed (named x) = IsTrue (is_name x)
IsNamed l = ⊤

abbrev pub IsRanged : Term → Type 0
IsRanged (leaf l) = IsNamed l
IsRanged (item x a) = IsTrue (is_name x) × IsRanged a
IsRanged (one op a) = OneKeepsScale op × IsRanged a
IsRanged (two op a b) = TwoKeepsScale op × IsRanged a × IsRanged b
IsRanged (choice c a b) = IsRanged c × IsRanged a × IsRanged b

abbrev IsRangedMeaning : LineMeaning → Type 0
IsRangedMeaning (tree x) = IsRanged x
IsRangedMeaning (literal l) = IsNamed l
IsRangedMeaning (assignment x e) = IsRanged e
IsRangedMeaning x = ⊤

abbrev AllRanged : List Item → Type 0
AllRanged [] = ⊤
AllRanged (Part g l x ∷ more) = IsRangedMeaning x × AllRanged more
AllRanged (i ∷ more) = AllRanged more

plain_named : (n : tokens.Number) → IsNamed (leaf_of n)
plain_named (tokens.int n) = tt
plain_named (tokens.long n) = tt
plain_named (tokens.point d) = tt

minus_named : (n : tokens.Number) → IsNamed (negative_of n)
minus_named (tokens.int n) = tt
minus_named (tokens.long n) = tt
minus_named (tokens.point d) = tt

way_ranged : {l : Line} {way : List Item} {x : LineMeaning} → Way l way x → AllRanged way → IsRangedMeaning x
way_ranged (grammar.choose c a b) h = (h.0, h.1.0, h.1.1.0)
way_ranged (grammar.tighter n x e) h = h.0
way_ranged (grammar.operation n o x y e) h = (tt, h.0, h.1.0)
way_ranged (grammar.minus x) h = (tt, h.0)
way_ranged (grammar.negation x) h = (tt, h.0)
way_ranged (grammar.call c x y) h = (tt, h.0, h.1.0)
way_ranged (grammar.divide_to s m x y le) h = (le, h.0, h.1.0)
way_ranged (grammar.set_scale_to s m x le) h = (le, h.0)
way_ranged (grammar.plain_call u w x e) h = (tt, h.0)
way_ranged (grammar.a_literal f l) h = h.0
way_ranged (grammar.a_name x e) h = e
way_ranged (grammar.an_item x i e) h = (e, h.0)
way_ranged (grammar.in_brackets x) h = h.0
way_ranged (grammar.a_known k) h = tt
way_ranged (grammar.a_value x) h = (tt, h.0)
way_ranged (grammar.a_scaled_value s x le) h = (le, h.0)
way_ranged (grammar.a_new_big x) h = (tt, h.0)
way_ranged (grammar.a_new_text d) h = tt
way_ranged (grammar.without_sign f n e) h = plain_named n
way_ranged (grammar.with_sign f n e) h = minus_named n
way_ranged (grammar.assign x y e) h = h.0
way_ranged (grammar.assign_ended x y e) h = h.0
way_ranged w h = tt

mutual
  pub ranged : {l : Line} {ts : List Token} {x : LineMeaning} → Derives l ts x → IsRangedMeaning x
  ranged (texts.by way w h) = way_ranged w (all_ranged h)

  all_ranged : {way : List Item} {ts : List Token} → Texts way ts → AllRanged way
  all_ranged texts.done = tt
  all_ranged (texts.is h) = all_ranged h
  all_ranged (texts.opens h) = all_ranged h
  all_ranged (texts.scale h) = all_ranged h
  all_ranged (texts.part e t h) = (ranged t, all_ranged h)

pub tree_ranged : (l : Line) (ts : List Token) (x : Term) → Derives l ts (tree x) → IsRanged x
tree_ranged l ts x h = ranged h
