-- Each literal of a plan that is read is a number of its type.
use Rattle.std.proofs.Common.{ℕ, ◌≤◌, pos, neg_ℤ, List, [], ◌∷◌, Option, Some, None, arith}
use Rattle.std.specs.Prelude.{All, IfSome, ⊤}
use Rattle.std.proofs.lemmas.Int.{ints}
use Rattle.std.proofs.lemmas.List.Elements.{All-nil, All-cons, All-append}
use Rattle.scaled_decimal.specs.Decimals.{Decimal}
use Rattle.scaled_decimal.specs.WholeNumbers.{int_bits, long_bits, IsOfBits}
use Rattle.scaled_decimal.specs.Shortening.{IsShortened}
use Rattle.pap_tree.specs.declared.expression.Known.{Known}
use Rattle.pap_tree.specs.declared.expression.Known.TheVariants as knowns
use Rattle.pap_tree.specs.Tokens as tokens
use Rattle.pap_tree.specs.Tokens.{Number, Token, Literal, Quoted, IsFirst}
use Rattle.pap_tree.specs.Grammar as grammar
use Rattle.pap_tree.specs.Grammar.{Item, Line, Level, Assignment, Constant, LineMeaning, tree, literal, mode, assignment, declared, decimals, Way, leaf_of, negative_of, known_value}
use Rattle.pap_tree.specs.Expressions.{IsAccepted}
use Rattle.pap_tree.specs.Declarations.{Declaration, DeclaredLiteral}
use Rattle.pap_tree.specs.Flowchart.{Body, done, eval, branch, execute, Routine, Flowchart}
use Rattle.pap_reader.specs.Trees.{RawDeclaration, RawBody, RawRoutine}
use Rattle.pap_reader.specs.Trees as raw
use Rattle.plan_text.specs.Plans.{IsLiteralText, AreDeclarations, IsBody, AreRoutines, IsPlan}
use Rattle.pap_plan.proofs.TextLemmas.{AllItems, accepted_meant}
use Rattle.interval_walk.specs.Reading.{HasFewPlaces, HoldsLeaf, HoldsLiteral, HoldsTerm, HoldsBody, HoldsPlan}

-- what a text stands for has such literals
abbrev IsHeld : LineMeaning → Type 0
IsHeld (tree t) = HoldsTerm t
IsHeld (literal l) = HoldsLeaf l
IsHeld (mode m) = ⊤
IsHeld (assignment x t) = HoldsTerm t
IsHeld (declared l) = HoldsLiteral l
IsHeld (decimals ds) = All HasFewPlaces ds

abbrev IsHeldToken : Token → Type 0
IsHeldToken (Literal n) = HoldsLeaf (leaf_of n)
IsHeldToken (Quoted d) = HasFewPlaces d
IsHeldToken t = ⊤

-- ---- numbers

int_held : (n : ℕ) → n ≤ 2147483647 → IsOfBits int_bits (pos n)
int_held n h = record { low = omega (arith, ints); high = omega (arith, ints) }

long_held : (n : ℕ) → n ≤ 9223372036854775807 → IsOfBits long_bits (pos n)
long_held n h = record { low = omega (arith, ints); high = omega (arith, ints) }

opposite_int : (n : ℕ) → IsOfBits int_bits (pos n) → IsOfBits int_bits (neg_ℤ (pos n))
opposite_int n h = let most = h.high in record { low = omega (arith, ints); high = omega (arith, ints) }

opposite_long : (n : ℕ) → IsOfBits long_bits (pos n) → IsOfBits long_bits (neg_ℤ (pos n))
opposite_long n h = let most = h.high in record { low = omega (arith, ints); high = omega (arith, ints) }

negative_held : (n : Number) → HoldsLeaf (leaf_of n) → HoldsLeaf (negative_of n)
negative_held (tokens.int n) h = opposite_int n h
negative_held (tokens.long n) h = opposite_long n h
negative_held (tokens.point d) h = h

known_held : (k : Known) → HasFewPlaces (known_value k)
known_held knowns.Zero = omega arith
known_held knowns.One = omega arith
known_held knowns.Ten = omega arith

-- fewer zeros make no more places
shortened_held : (d e : Decimal) (least : ℕ) → IsShortened d least e → HasFewPlaces d → HasFewPlaces e
shortened_held d e least h k = omega (arith, h.high, k)

-- ---- texts

way_held : (l : Line) (way : List Item) (x : LineMeaning) → Way l way x → AllItems IsHeld IsHeldToken way → IsHeld x
way_held line way meant (grammar.choose c a b) h = (h.0, h.1.0, h.1.1.1.0)
way_held line way meant (grammar.tighter n x lt) h = h.0
way_held line way meant (grammar.operation n o x y e) h = (h.0, h.1.1.0)
way_held line way meant (grammar.minus x) h = h.0
way_held line way meant (grammar.negation x) h = h.0
way_held line way meant (grammar.call c x y) h = (h.0, h.1.1.1.0)
way_held line way meant (grammar.divide_to s m x y le) h = (h.0, h.1.1.1.0)
way_held line way meant (grammar.set_scale_to s m x le) h = h.0
way_held line way meant (grammar.plain_call u w x p) h = h.0
way_held line way meant (grammar.a_literal f l) h = h.0
way_held line way meant (grammar.a_name x is) h = tt
way_held line way meant (grammar.an_item x i is) h = h.1.0
way_held line way meant (grammar.in_brackets x) h = h.0
way_held line way meant (grammar.a_known k) h = tt
way_held line way meant (grammar.a_value x) h = h.1.1.1.0
way_held line way meant (grammar.a_scaled_value s x le) h = h.1.1.1.0
way_held line way meant (grammar.a_new_big x) h = h.1.1.0
way_held line way meant (grammar.a_new_text d) h = h.1.1.0
way_held line way meant (grammar.without_sign f n e) h = h.0
way_held line way meant (grammar.with_sign f n e) h = negative_held n h.0
way_held line way meant (grammar.old_mode m) h = tt
way_held line way meant (grammar.new_mode m) h = tt
way_held line way meant (grammar.assign x e is) h = h.1.1.0
way_held line way meant (grammar.assign_ended x e is) h = h.1.1.0
way_held line way meant (grammar.big_constant d) h = h.0
way_held line way meant (grammar.number_constant f l) h = h.0
way_held line way meant (grammar.table_constant ds) h = h.1.0
way_held line way meant (grammar.last_big d) h = All-cons HasFewPlaces d [] h.0 (All-nil HasFewPlaces)
way_held line way meant (grammar.more_bigs d ds) h = All-cons HasFewPlaces d ds h.0 h.1.1.0
way_held line way meant (grammar.big_known k) h = known_held k
way_held line way meant (grammar.big_of_int i) h = omega arith
way_held line way meant (grammar.big_of_scaled i s le) h = le
way_held line way meant (grammar.big_of_point d e is) h = shortened_held d e 1 is h.1.1.1.0
way_held line way meant (grammar.big_new i) h = omega arith
way_held line way meant (grammar.big_new_text d) h = h.1.1.0

first_held : (text rest : List ℕ) (t : Token) → IsFirst text rest t → IsHeldToken t
first_held text rest (Literal (tokens.int n)) h = int_held n h.0.1
first_held text rest (Literal (tokens.long n)) h = long_held n h.0.1
first_held text rest (Literal (tokens.point d)) h = h.0.1.scale
first_held text rest (Quoted d) h = h.0.1.scale
first_held text rest t h = tt

-- what a text of any line stands for
text_held : (l : Line) (bytes : List ℕ) (x : LineMeaning) → IsAccepted l bytes x → IsHeld x
text_held = accepted_meant IsHeld IsHeldToken way_held first_held

-- ---- declarations

value_held : (raw : Option (List ℕ)) (l : Option DeclaredLiteral) → IsLiteralText raw l → IfSome l HoldsLiteral
value_held None None h = tt
value_held None (Some l) h = absurd h
value_held (Some text) None h = absurd h
value_held (Some text) (Some l) h = text_held Constant text (declared l) h

abbrev IsHeldValue : Declaration → Type 0
IsHeldValue d = IfSome d.value HoldsLiteral

values_held : (raws : List RawDeclaration) (ds : List Declaration) → AreDeclarations raws ds → All IsHeldValue ds
values_held [] [] h = All-nil IsHeldValue
values_held [] (d ∷ ds) h = absurd h
values_held (raw ∷ raws) [] h = absurd h
values_held (raw ∷ raws) (d ∷ ds) h = All-cons IsHeldValue d ds (value_held raw.value d.value h.0.value) (values_held raws ds h.1)

-- ---- statements

body_held : (r : RawBody) (b : Body) → IsBody r b → HoldsBody b
body_held raw.done done h = tt
body_held raw.done (eval x e more) h = absurd h
body_held raw.done (branch t u v more) h = absurd h
body_held raw.done (execute x more) h = absurd h
body_held (raw.eval bytes rest) done h = absurd h
body_held (raw.eval bytes rest) (eval x e more) h = (text_held Assignment bytes (assignment x e) h.0, body_held rest more h.1)
body_held (raw.eval bytes rest) (branch t u v more) h = absurd h
body_held (raw.eval bytes rest) (execute x more) h = absurd h
body_held (raw.branch bytes a b rest) done h = absurd h
body_held (raw.branch bytes a b rest) (eval x e more) h = absurd h
body_held (raw.branch bytes a b rest) (branch t u v more) h =
    (text_held (Level 0) bytes (tree t) h.0, body_held a u h.1, body_held b v h.2, body_held rest more h.3)
body_held (raw.branch bytes a b rest) (execute x more) h = absurd h
body_held (raw.execute x rest) done h = absurd h
body_held (raw.execute x rest) (eval y e more) h = absurd h
body_held (raw.execute x rest) (branch t u v more) h = absurd h
body_held (raw.execute x rest) (execute y more) h = body_held rest more h.1

abbrev IsHeldRoutine : Routine → Type 0
IsHeldRoutine m = HoldsBody m.body

routines_held : (rs : List RawRoutine) (ms : List Routine) → AreRoutines rs ms → All IsHeldRoutine ms
routines_held [] [] h = All-nil IsHeldRoutine
routines_held [] (m ∷ ms) h = absurd h
routines_held (r ∷ rs) [] h = absurd h
routines_held (r ∷ rs) (m ∷ ms) h = All-cons IsHeldRoutine m ms (body_held r.body m.body h.1) (routines_held rs ms h.2)

-- ---- the plan

pub plan_held : (bytes : List ℕ) (f : Flowchart) → IsPlan bytes f → HoldsPlan f
plan_held bytes f h =
    let x = h.elements in
    let t = h.flowchart in
    let last = All-append IsHeldValue f.internals f.constants (values_held x.internals f.internals t.internals) (values_held x.constants f.constants t.constants) in
    let later = All-append IsHeldValue f.outputs _ (values_held x.outputs f.outputs t.outputs) last in
    record {
      declared = All-append IsHeldValue f.inputs _ (values_held x.inputs f.inputs t.inputs) later;
      main = body_held x.main f.main t.main;
      methods = routines_held x.methods f.methods t.methods;
    }
