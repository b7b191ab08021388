-- The members of a TOML document stand in the order of their keys: they are put at their places while the text is read.
use Rattle.std.proofs.Common.{◌≡◌, ℕ, zero, suc, Ordering, Less, Equal, Greater, nat_cmp, Bool, true, false, ◌&&◌, ◌==◌, List, [], ◌∷◌, length, drop, Option, Some, None, option_map, option_and_then, refl, ap, ◌∙◌, subst, inl, inr, ◌⊎◌}
use Rattle.std.specs.Prelude.{slice_index, if◌then◌else◌}
use Rattle.std.proofs.lemmas.Bool.{and_parts, and_from, cases_Bool}
use Rattle.std.proofs.lemmas.Option.{none-some, same_Some}
use Rattle.std.proofs.lemmas.Cmp.{nat_list_cmp_total}
use Rattle.std.specs.Cmp.Lexicographic.{slice_cmp}
use Rattle.std.specs.Ordering.{ordering_reverse}
use Rattle.toml_parser.specs.Lexical.{Read, first, right_bracket, right_brace, left_bracket, left_brace, skip_ws, skip_blank}
use Rattle.toml_parser.specs.Strings.{Key, quoted, starts_string, recursion_limit}
use Rattle.toml_parser.specs.Numbers.{unquoted}
use Rattle.toml_parser.specs.declared.scalar.Scalar.{Scalar}
use Rattle.toml_parser.specs.declared.scalar.Scalar.TheVariants.{Boolean, Integer, Float, Datetime}
use Rattle.toml.specs.Data.{Data, string, array, table, Items, no_items, item, Members, no_members, push_item, same_key, is_before, is_sorted, items_are_sorted, members_are_sorted}
use Rattle.toml.specs.Tables.{Node, Nodes, no_nodes, node, value, open_table, open_array, implicit, dotted, header, get_node, insert, replace, close, close_node, Edit, header_node, dot_node, by_header, by_dot, along_header, along_dots, Definition, Expression, key_value, std_table, array_table, new_node, redefine, at_found, at_key, put, Document, define_as, define}
use Rattle.toml.specs.Parse.{read_map, after_byte, after_element, key_equals, keyval, items, members, scalar_data, atom, val, header_key, expression, ends_line, line, lines, skip_bom, parse_document}
use Rattle.toml.proofs.Blanks.{below}

-- ---- what is read in parts

bind_some : {A B : Type 0} (o : Option A) (f : A → Option B) (b : B) → option_and_then f o ≡ Some b → (a : A) × (o ≡ Some a) × (f a ≡ Some b)
bind_some None f b e = absurd (none-some b e)
bind_some (Some a) f b e = (a, refl, e)

map_some : {A B : Type 0} (o : Option A) (f : A → B) (b : B) → option_map f o ≡ Some b → (a : A) × (o ≡ Some a) × (f a ≡ b)
map_some None f b e = absurd (none-some b e)
map_some (Some a) f b e = (a, refl, same_Some (f a) b e)

-- ---- lists of items

pushed : (ds : Items) (d : Data) → items_are_sorted ds ≡ true → is_sorted d ≡ true → items_are_sorted (push_item ds d) ≡ true
pushed no_items d all one = and_from (is_sorted d) true one refl
pushed (item c ds) d all one =
    let (here, more) = and_parts (is_sorted c) (items_are_sorted ds) all in
    and_from (is_sorted c) (items_are_sorted (push_item ds d)) here (pushed ds d more one)

pushed_parts : (ds : Items) (d : Data) → items_are_sorted (push_item ds d) ≡ true → (items_are_sorted ds ≡ true) × (is_sorted d ≡ true)
pushed_parts no_items d all = (refl, (and_parts (is_sorted d) true all).0)
pushed_parts (item c ds) d all =
    let (here, more) = and_parts (is_sorted c) (items_are_sorted (push_item ds d)) all in
    let rest = pushed_parts ds d more in
    (and_from (is_sorted c) (items_are_sorted ds) here rest.0, rest.1)

-- ---- nodes, whose values are in order

abbrev IsSorted : Nodes → Type 0
IsSorted ns = members_are_sorted (close ns) ≡ true

abbrev IsSortedNode : Node → Type 0
IsSortedNode x = is_sorted (close_node x) ≡ true

record AreParts (k : List ℕ) (x : Node) (ns : Nodes) : Type 0 where
  before : is_before k (close ns) ≡ true
  here : IsSortedNode x
  more : IsSorted ns

parts : (k : List ℕ) (x : Node) (ns : Nodes) → IsSorted (node k x ns) → AreParts k x ns
parts k x ns sorted =
    let (front, more) = and_parts (is_before k (close ns) && is_sorted (close_node x)) (members_are_sorted (close ns)) sorted in
    let (before, here) = and_parts (is_before k (close ns)) (is_sorted (close_node x)) front in
    record { before = before; here = here; more = more }

whole : (k : List ℕ) (x : Node) (ns : Nodes) → is_before k (close ns) ≡ true → IsSortedNode x → IsSorted ns → IsSorted (node k x ns)
whole k x ns before here more =
    and_from (is_before k (close ns) && is_sorted (close_node x)) (members_are_sorted (close ns))
    (and_from (is_before k (close ns)) (is_sorted (close_node x)) before here) more

got : (k : List ℕ) (ns : Nodes) (x : Node) → IsSorted ns → get_node k ns ≡ Some x → IsSortedNode x
got k no_nodes x sorted e = absurd (none-some x e)
got k (node l y ns) x sorted e =
    let all = parts l y ns sorted in
    elim (cases_Bool (same_key k l)) [
      | inl same ↦ subst IsSortedNode (same_Some y x (rw same at e)) all.here
      | inr other ↦ got k ns x all.more (rw other at e)
    ]

replace_before : (l k : List ℕ) (x : Node) (ns : Nodes) → is_before l (close (replace k x ns)) ≡ is_before l (close ns)
replace_before l k x no_nodes = refl
replace_before l k x (node j y ns) =
    elim (cases_Bool (same_key k j)) [
      | inl same ↦ rw same refl
      | inr other ↦ rw other refl
    ]

replaced : (k : List ℕ) (x : Node) (ns : Nodes) → IsSorted ns → IsSortedNode x → IsSorted (replace k x ns)
replaced k x no_nodes sorted one = refl
replaced k x (node l y ns) sorted one =
    let all = parts l y ns sorted in
    elim (cases_Bool (same_key k l)) [
      | inl same ↦ rw same (whole l x ns all.before one all.more)
      | inr other ↦ rw other (whole l y (replace k x ns) (rw (replace_before l k x ns) all.before) all.here (replaced k x ns all.more one))
    ]

cases_ordering : (o : Ordering) → (o ≡ Less) ⊎ ((o ≡ Equal) ⊎ (o ≡ Greater))
cases_ordering Less = inl refl
cases_ordering Equal = inr (inl refl)
cases_ordering Greater = inr (inr refl)

insert_before : (l k : List ℕ) (x : Node) (ns : Nodes) → below l k → is_before l (close ns) ≡ true → is_before l (close (insert k x ns)) ≡ true
insert_before l k x no_nodes order before = rw order refl
insert_before l k x (node j y ns) order before =
    elim (cases_ordering (slice_cmp nat_cmp k j)) [
      | inl less ↦ rw (less, order) refl
      | inr other ↦ elim other [
        | inl tie ↦ rw tie before
        | inr more ↦ rw more before
      ]
    ]

below_flipped : (k l : List ℕ) → slice_cmp nat_cmp k l ≡ Greater → below l k
below_flipped k l more = nat_list_cmp_total.antisymm l k ∙ ap ordering_reverse more

inserted : (k : List ℕ) (x : Node) (ns : Nodes) → IsSorted ns → IsSortedNode x → IsSorted (insert k x ns)
inserted k x no_nodes sorted one = whole k x no_nodes refl one refl
inserted k x (node l y ns) sorted one =
    let all = parts l y ns sorted in
    elim (cases_ordering (slice_cmp nat_cmp k l)) [
      | inl less ↦ rw less (whole k x (node l y ns) (rw less refl) one sorted)
      | inr other ↦ elim other [
        | inl tie ↦ rw tie (whole l x ns all.before one all.more)
        | inr more ↦ rw more (whole l y (insert k x ns) (insert_before l k x ns (below_flipped k l more) all.before) all.here (inserted k x ns all.more one))
      ]
    ]

-- ---- edits

KeepsOrder : Edit → Type 0
KeepsOrder edit = (ns after : Nodes) → IsSorted ns → edit ns ≡ Some after → IsSorted after

header_keeps : (edit : Edit) → KeepsOrder edit → (x y : Node) → IsSortedNode x → header_node edit x ≡ Some y → IsSortedNode y
unfolding KeepsOrder
header_keeps edit keeps (value d) y one e = absurd (none-some y e)
header_keeps edit keeps (open_table origin inner) y one e =
    let made = map_some (edit inner) (open_table origin) y e in
    subst IsSortedNode made.2 (keeps inner made.0 one made.1)
header_keeps edit keeps (open_array done last) y one e =
    let made = map_some (edit last) (open_array done) y e in
    let both = pushed_parts done (table (close last)) one in
    subst IsSortedNode made.2 (pushed done (table (close made.0)) both.0 (keeps last made.0 both.1 made.1))

dot_keeps : (edit : Edit) → KeepsOrder edit → (x y : Node) → IsSortedNode x → dot_node edit x ≡ Some y → IsSortedNode y
unfolding KeepsOrder
dot_keeps edit keeps (value d) y one e = absurd (none-some y e)
dot_keeps edit keeps (open_table header inner) y one e = absurd (none-some y e)
dot_keeps edit keeps (open_table implicit inner) y one e =
    let made = map_some (edit inner) (open_table dotted) y e in
    subst IsSortedNode made.2 (keeps inner made.0 one made.1)
dot_keeps edit keeps (open_table dotted inner) y one e =
    let made = map_some (edit inner) (open_table dotted) y e in
    subst IsSortedNode made.2 (keeps inner made.0 one made.1)
dot_keeps edit keeps (open_array done last) y one e = absurd (none-some y e)

by_header_keeps : (k : List ℕ) (edit : Edit) → KeepsOrder edit → (ns after : Nodes) (o : Option Node) → IsSorted ns → get_node k ns ≡ o → by_header k edit ns o ≡ Some after → IsSorted after
unfolding KeepsOrder
by_header_keeps k edit keeps ns after None sorted at e =
    let made = map_some (edit no_nodes) (λ new. insert k (open_table implicit new) ns) after e in
    subst IsSorted made.2 (inserted k (open_table implicit made.0) ns sorted (keeps no_nodes made.0 refl made.1))
by_header_keeps k edit keeps ns after (Some x) sorted at e =
    let made = map_some (header_node edit x) (λ new. replace k new ns) after e in
    subst IsSorted made.2 (replaced k made.0 ns sorted (header_keeps edit keeps x made.0 (got k ns x sorted at) made.1))

by_dot_keeps : (k : List ℕ) (edit : Edit) → KeepsOrder edit → (ns after : Nodes) (o : Option Node) → IsSorted ns → get_node k ns ≡ o → by_dot k edit ns o ≡ Some after → IsSorted after
unfolding KeepsOrder
by_dot_keeps k edit keeps ns after None sorted at e =
    let made = map_some (edit no_nodes) (λ new. insert k (open_table dotted new) ns) after e in
    subst IsSorted made.2 (inserted k (open_table dotted made.0) ns sorted (keeps no_nodes made.0 refl made.1))
by_dot_keeps k edit keeps ns after (Some x) sorted at e =
    let made = map_some (dot_node edit x) (λ new. replace k new ns) after e in
    subst IsSorted made.2 (replaced k made.0 ns sorted (dot_keeps edit keeps x made.0 (got k ns x sorted at) made.1))

along_header_keeps : (path : List (List ℕ)) (edit : Edit) → KeepsOrder edit → KeepsOrder (along_header path edit)
unfolding KeepsOrder along_header
along_header_keeps [] edit keeps = keeps
along_header_keeps (k ∷ path) edit keeps = λ ns after sorted e. by_header_keeps k (along_header path edit) (along_header_keeps path edit keeps) ns after (get_node k ns) sorted refl e

along_dots_keeps : (path : List (List ℕ)) (edit : Edit) → KeepsOrder edit → KeepsOrder (along_dots path edit)
unfolding KeepsOrder along_dots
along_dots_keeps [] edit keeps = keeps
along_dots_keeps (k ∷ path) edit keeps = λ ns after sorted e. by_dot_keeps k (along_dots path edit) (along_dots_keeps path edit keeps) ns after (get_node k ns) sorted refl e

-- ---- definitions

abbrev IsSortedDefinition : Definition → Type 0
IsSortedDefinition what = IsSortedNode (new_node what)

redefined : (what : Definition) (x y : Node) → IsSortedNode x → redefine what x ≡ Some y → IsSortedNode y
redefined (key_value d) x y one e = absurd (none-some y e)
redefined std_table (value d) y one e = absurd (none-some y e)
redefined std_table (open_table implicit inner) y one e = subst IsSortedNode (same_Some (open_table header inner) y e) one
redefined std_table (open_table dotted inner) y one e = absurd (none-some y e)
redefined std_table (open_table header inner) y one e = absurd (none-some y e)
redefined std_table (open_array done last) y one e = absurd (none-some y e)
redefined array_table (value d) y one e = absurd (none-some y e)
redefined array_table (open_table origin inner) y one e = absurd (none-some y e)
redefined array_table (open_array done last) y one e =
    let items = push_item done (table (close last)) in
    subst IsSortedNode (same_Some (open_array items no_nodes) y e) (pushed items (table no_members) one refl)

found_keeps : (k : List ℕ) (what : Definition) → IsSortedDefinition what → (ns after : Nodes) (o : Option Node) → IsSorted ns → get_node k ns ≡ o → at_found k what ns o ≡ Some after → IsSorted after
found_keeps k what new ns after None sorted at e = subst IsSorted (same_Some (insert k (new_node what) ns) after e) (inserted k (new_node what) ns sorted new)
found_keeps k what new ns after (Some x) sorted at e =
    let made = map_some (redefine what x) (λ y. replace k y ns) after e in
    subst IsSorted made.2 (replaced k made.0 ns sorted (redefined what x made.0 (got k ns x sorted at) made.1))

at_key_keeps : (k : List ℕ) (what : Definition) → IsSortedDefinition what → KeepsOrder (at_key k what)
unfolding KeepsOrder at_key
at_key_keeps k what new = λ ns after sorted e. found_keeps k what new ns after (get_node k ns) sorted refl e

put_keeps : (k : Key) (d : Data) → is_sorted d ≡ true → KeepsOrder (put k d)
put_keeps k d one = along_dots_keeps k.0 (at_key k.1 (key_value d)) (at_key_keeps k.1 (key_value d) one)

defined : (doc after : Document) (k : Key) (what : Definition) → IsSorted doc.0 → IsSortedDefinition what → define_as doc k what ≡ Some after → IsSorted after.0
unfolding KeepsOrder
defined doc after k (key_value d) sorted new e =
    let made = map_some (along_header doc.1 (put k d) doc.0) _ after e in
    subst (λ (next : Document). IsSorted next.0) made.2 (along_header_keeps doc.1 (put k d) (put_keeps k d new) doc.0 made.0 sorted made.1)
defined doc after k std_table sorted new e =
    let made = map_some (along_header k.0 (at_key k.1 std_table) doc.0) _ after e in
    subst (λ (next : Document). IsSorted next.0) made.2 (along_header_keeps k.0 (at_key k.1 std_table) (at_key_keeps k.1 std_table new) doc.0 made.0 sorted made.1)
defined doc after k array_table sorted new e =
    let made = map_some (along_header k.0 (at_key k.1 array_table) doc.0) _ after e in
    subst (λ (next : Document). IsSorted next.0) made.2 (along_header_keeps k.0 (at_key k.1 array_table) (at_key_keeps k.1 array_table new) doc.0 made.0 sorted made.1)

-- ---- values

ReadsSorted : (List ℕ → Read Data) → Type 0
ReadsSorted read = (text : List ℕ) (r : Data × List ℕ) → read text ≡ Some r → is_sorted r.0 ≡ true

read_sorted : {A : Type 0} (f : A → Data) → ((x : A) → is_sorted (f x) ≡ true) → (o : Read A) (r : Data × List ℕ) → read_map f o ≡ Some r → is_sorted r.0 ≡ true
read_sorted f all o r e =
    let made = map_some o _ r e in
    subst (λ (q : Data × List ℕ). is_sorted q.0 ≡ true) made.2 (all made.0.0)

scalar_sorted : (s : Scalar) → is_sorted (scalar_data s) ≡ true
scalar_sorted (Boolean b) = refl
scalar_sorted (Integer z) = refl
scalar_sorted (Float x) = refl
scalar_sorted (Datetime d) = refl

choice : {A : Type 0} (t : Bool) (a b : Option A) (r : A) → (if t then a else b) ≡ Some r → (a ≡ Some r) ⊎ (b ≡ Some r)
choice true a b r e = inl e
choice false a b r e = inr e

atom_sorted : ReadsSorted atom
unfolding ReadsSorted atom
atom_sorted text r e =
    elim (choice (starts_string text) (read_map string (quoted text)) (read_map scalar_data (unquoted text)) r e) [
      | inl s ↦ read_sorted string (λ x. refl) (quoted text) r s
      | inr s ↦ read_sorted scalar_data scalar_sorted (unquoted text) r s
    ]

items_sorted : (read : List ℕ → Read Data) → ReadsSorted read → (n : ℕ) (found : Items) (text : List ℕ) (r : Items × List ℕ) → items_are_sorted found ≡ true → items read n found text ≡ Some r → items_are_sorted r.0 ≡ true
unfolding ReadsSorted items
items_sorted read sorted zero found text r all e = absurd (none-some r e)
items_sorted read sorted (suc n) found text r all e =
    let start = skip_blank text in
    elim (choice (first start == right_bracket) (Some (found, drop 1 start)) (option_and_then (λ v. option_and_then (items read n (push_item found v.0)) (after_element right_bracket v.1)) (read start)) r e) [
      | inl s ↦ subst (λ (q : Items × List ℕ). items_are_sorted q.0 ≡ true) (same_Some (found, drop 1 start) r s) all
      | inr s ↦
          let v = bind_some (read start) _ r s in
          let rest = bind_some (after_element right_bracket v.0.1) _ r v.2 in
          items_sorted read sorted n (push_item found v.0.0) rest.0 r (pushed found v.0.0 all (sorted start v.0 v.1)) rest.2
    ]

keyval_sorted : (read : List ℕ → Read Data) → ReadsSorted read → (text : List ℕ) (r : (Key × Data) × List ℕ) → keyval read text ≡ Some r → is_sorted r.0.1 ≡ true
unfolding ReadsSorted
keyval_sorted read sorted text r e =
    let k = bind_some (key_equals text) _ r e in
    let made = map_some (read k.0.1) _ r k.2 in
    subst (λ (q : (Key × Data) × List ℕ). is_sorted q.0.1 ≡ true) made.2 (sorted k.0.1 made.0 made.1)

members_sorted : (read : List ℕ → Read Data) → ReadsSorted read → (n : ℕ) (found : Nodes) (text : List ℕ) (r : Members × List ℕ) → IsSorted found → members read n found text ≡ Some r → members_are_sorted r.0 ≡ true
unfolding KeepsOrder members
members_sorted read sorted zero found text r all e = absurd (none-some r e)
members_sorted read sorted (suc n) found text r all e =
    let start = skip_blank text in
    elim (choice (first start == right_brace) (Some (close found, drop 1 start)) (option_and_then (λ v. option_and_then (λ more. option_and_then (members read n more) (after_element right_brace v.1)) (put v.0.0 v.0.1 found)) (keyval read start)) r e) [
      | inl s ↦ subst (λ (q : Members × List ℕ). members_are_sorted q.0 ≡ true) (same_Some (close found, drop 1 start) r s) all
      | inr s ↦
          let v = bind_some (keyval read start) _ r s in
          let more = bind_some (put v.0.0.0 v.0.0.1 found) _ r v.2 in
          let rest = bind_some (after_element right_brace v.0.1) _ r more.2 in
          let kept = put_keeps v.0.0.0 v.0.0.1 (keyval_sorted read sorted start v.0 v.1) found more.0 all more.1 in
          members_sorted read sorted n more.0 rest.0 r kept rest.2
    ]

val_sorted : (depth : ℕ) → ReadsSorted (val depth)
unfolding ReadsSorted val
val_sorted zero text r e = atom_sorted text r e
val_sorted (suc depth) text r e =
    let listed = items (val depth) (length text) no_items (drop 1 text) in
    let inline = members (val depth) (length text) no_nodes (drop 1 text) in
    elim (choice (first text == left_bracket) (read_map array listed) (if first text == left_brace then read_map table inline else atom text) r e) [
      | inl s ↦
          let made = map_some listed _ r s in
          subst (λ (q : Data × List ℕ). is_sorted q.0 ≡ true) made.2 (items_sorted (val depth) (val_sorted depth) (length text) no_items (drop 1 text) made.0 refl made.1)
      | inr other ↦ elim (choice (first text == left_brace) (read_map table inline) (atom text) r other) [
        | inl s ↦
            let made = map_some inline _ r s in
            subst (λ (q : Data × List ℕ). is_sorted q.0 ≡ true) made.2 (members_sorted (val depth) (val_sorted depth) (length text) no_nodes (drop 1 text) made.0 refl made.1)
        | inr s ↦ atom_sorted text r s
      ]
    ]

-- ---- lines

abbrev as_read : Definition → Key → List ℕ → Expression × List ℕ
as_read what k rest = ((k, what), rest)

expression_sorted : (text : List ℕ) (r : Expression × List ℕ) → expression text ≡ Some r → IsSortedDefinition r.0.1
unfolding expression
expression_sorted text r e =
    let named = header_key (drop 1 text) in
    let listed : Read Expression = option_and_then (λ k. option_map (as_read array_table k.0) (after_byte right_bracket k.1)) (header_key (drop 2 text)) in
    let pair = keyval (val recursion_limit) text in
    let single : Read Expression = option_map (λ p. as_read std_table p.0 p.1) named in
    let keyed : Read Expression = option_map (λ p. as_read (key_value p.0.1) p.0.0 p.1) pair in
    elim (choice (first text == left_bracket && slice_index text 1 == left_bracket) listed (if first text == left_bracket then single else keyed) r e) [
      | inl s ↦
          let k = bind_some (header_key (drop 2 text)) _ r s in
          let made = map_some (after_byte right_bracket k.0.1) (as_read array_table k.0.0) r k.2 in
          subst (λ (q : Expression × List ℕ). IsSortedDefinition q.0.1) made.2 refl
      | inr other ↦ elim (choice (first text == left_bracket) single keyed r other) [
        | inl s ↦
            let made = map_some named (λ p. as_read std_table p.0 p.1) r s in
            subst (λ (q : Expression × List ℕ). IsSortedDefinition q.0.1) made.2 refl
        | inr s ↦
            let made = map_some pair (λ p. as_read (key_value p.0.1) p.0.0 p.1) r s in
            subst (λ (q : Expression × List ℕ). IsSortedDefinition q.0.1) made.2 (keyval_sorted (val recursion_limit) (val_sorted recursion_limit) text made.0 made.1)
      ]
    ]

line_sorted : (text : List ℕ) (r : Expression × List ℕ) → line text ≡ Some r → IsSortedDefinition r.0.1
unfolding line
line_sorted text r e =
    let read = bind_some (expression text) _ r e in
    elim (choice (ends_line (skip_ws read.0.1)) (Some read.0) None r read.2) [
      | inl s ↦ subst (λ (q : Expression × List ℕ). IsSortedDefinition q.0.1) (same_Some read.0 r s) (expression_sorted text read.0 read.1)
      | inr s ↦ absurd (none-some r s)
    ]

lines_sorted : (n : ℕ) (doc after : Document) (text : List ℕ) → IsSorted doc.0 → lines n doc text ≡ Some after → IsSorted after.0
unfolding lines define
lines_sorted zero doc after text sorted e = absurd (none-some after e)
lines_sorted (suc n) doc after text sorted e =
    let start = skip_blank text in
    elim (choice (length start == 0) (Some doc) (option_and_then (λ read. option_and_then (λ next. lines n next read.1) (define doc read.0)) (line start)) after e) [
      | inl s ↦ subst (λ (d : Document). IsSorted d.0) (same_Some doc after s) sorted
      | inr s ↦
          let read = bind_some (line start) _ after s in
          let next = bind_some (define doc read.0.0) _ after read.2 in
          let kept = defined doc next.0 read.0.0.0 read.0.0.1 sorted (line_sorted start read.0 read.1) next.1 in
          lines_sorted n next.0 after read.0.1 kept next.2
    ]

pub document_sorted : (text : List ℕ) (file : Members) → parse_document text ≡ Some file → members_are_sorted file ≡ true
unfolding parse_document
document_sorted text file e =
    let made = map_some (lines (suc (length text)) (no_nodes, []) (skip_bom text)) _ file e in
    subst (λ (ms : Members). members_are_sorted ms ≡ true) made.2 (lines_sorted (suc (length text)) (no_nodes, []) made.0 (skip_bom text) refl made.1)
