-- The table of declarations, row by row.
use Rattle.std.proofs.Common.{◌≡◌, ◌≢◌, inr, ℕ, suc, Bool, false, ◌+◌, ◌<◌, ◌≤◌, List, [], ◌∷◌, ◌++◌, length, take, map, get_or, refl, sym, ap, subst, ◌∙◌, append_assoc, arith, codes, Global}
use Rattle.std.specs.Prelude.{String, ◌==◌, unwrap_or}
use Rattle.std.proofs.lemmas.List.{append-nil, map_push, take_more, take_all, length-map, length-take-le}
use Rattle.scaled_decimal.specs.Decimals.{Decimal}
use Rattle.pap_tree.specs.Grammar.{Constant as Literals}
use Rattle.pap_tree.specs.Stopping.{Cause, syntax, unsupported, binary_fraction, number, deep}
use Rattle.pap_tree.specs.Expressions.{IsWrong}
use Rattle.pap_expr.specs.declared.fault.ExprFault.{ExprFault}
use Rattle.pap_expr.specs.declared.fault.ExprFault.TheVariants as faults
use Rattle.pap_expr.specs.Faults.{IsFaultOf}
use Rattle.pap_reader.specs.declared.element.Element.{Element}
use Rattle.pap_reader.specs.declared.element.Element.TheVariants.{Input, Output, Internal, Constant}
use Rattle.pap_reader.specs.declared.elements.RawDeclared.{RawDeclared}
use Rattle.pap_reader.specs.declared.elements.Elements.{Elements}
use Rattle.pap_reader.specs.Trees.{RawDeclaration, raw_declaration_of, ElementTree, tree_of}
use Rattle.plan_notes.specs.Lines.{line_text}
use Rattle.plan_notes.specs.StartTags.{comments_before}
use Rattle.flowchart_markup.specs.Escapes.{escaped}
use Rattle.flowchart_methods.specs.Comments.{comments_text}
use Rattle.flowchart_methods.specs.Turns.{AddsInTurn}
use Rattle.flowchart_methods.proofs.Laws.{adds_none, adds_before, adds_behind, adds_then}
use Rattle.flowchart_page.specs.Declarations.{value_cells, table_item_text, table_items_text, comments_above, items_cell, row_start, is_named, range_shown, TableSource, IsRowIn, AreRows, group_heading, IsGroup}
use Rattle.flowchart_page.specs.private.TableViews.{AddsCells, AddsRow, AddsNamed, AddsRows, AddsGroup, AddsTable}

-- HTML that is none of the texts
pub adds_html : (html old new : List ℕ) → new ≡ old ++ html → AddsInTurn [] old new
adds_html html old new is = adds_behind [] html old old new is (adds_none old)

pub one_text : (text old new : List ℕ) → new ≡ old ++ text → AddsInTurn (text ∷ []) old new
one_text text old new is = record { more = text; grown = is; stand = ([], [], sym (append-nil text), tt) }

-- other HTML between texts and behind them, where that adds none
adds_beside : (texts : List (List ℕ)) (a b c : List ℕ) → AddsInTurn texts a b → AddsInTurn [] b c → AddsInTurn texts a c
adds_beside texts a b c first second = adds_behind texts second.more a b c second.grown first

-- ---- cells

-- the cells of a value and a range, and comments behind them
pub cells_written : (value range : List ℕ) (comments : List (String Global)) (old p new : List ℕ)
    → p ≡ old ++ (codes "<td class=\"num\">" ++ (escaped value ++ (codes "<td class=\"num\">" ++ (escaped range ++ codes "<td>"))))
    → new ≡ p ++ comments_text comments → new ≡ old ++ value_cells value range comments
cells_written value range comments old p new is_p is_new =
    let v = escaped value in
    let r = escaped range in
    let t = comments_text comments in
    let num = codes "<td class=\"num\">" in
    is_new
    ∙ ap (λ l. l ++ t) is_p
    ∙ append_assoc old (num ++ (v ++ (num ++ (r ++ codes "<td>")))) t
    ∙ ap (λ l. old ++ (num ++ l)) (append_assoc v (num ++ (r ++ codes "<td>")) t)
    ∙ ap (λ l. old ++ (num ++ (v ++ (num ++ l)))) (append_assoc r (codes "<td>") t)

-- the items of a table, with one more
items_push : (index : ℕ) (items : List Decimal) (item : Decimal)
    → table_items_text index (items ++ item ∷ []) ≡ table_items_text index items ++ table_item_text (index + length items) item
items_push index [] item =
    let same : index ≡ index + 0 = omega arith in
    append-nil (table_item_text index item) ∙ ap (λ i. table_item_text i item) same
items_push index (x ∷ items) item =
    let next : index + 1 + length items ≡ index + suc (length items) = omega arith in
    ap (λ l. table_item_text index x ++ l) (items_push (index + 1) items item)
    ∙ sym (append_assoc (table_item_text index x) (table_items_text (index + 1) items) (table_item_text (index + 1 + length items) item))
    ∙ ap (λ i. (table_item_text index x ++ table_items_text (index + 1) items) ++ table_item_text i item) next

pub items_more : (items : List Decimal) (i : ℕ) (item : Decimal) (old page new : List ℕ) → i < length items
    → item ≡ get_or items i item → page ≡ old ++ table_items_text 0 (take i items) → new ≡ page ++ table_item_text i item
    → new ≡ old ++ table_items_text 0 (take (i + 1) items)
items_more items i item old page new some is so_far written =
    let before = take i items in
    let within : i ≤ length items = omega (arith, some) in
    let count : i ≡ 0 + length before = omega (arith, length-take-le i items within) in
    written
    ∙ ap (λ l. l ++ table_item_text i item) so_far
    ∙ append_assoc old (table_items_text 0 before) (table_item_text i item)
    ∙ ap (λ k. old ++ (table_items_text 0 before ++ table_item_text k item)) count
    ∙ ap (λ l. old ++ l) (sym (items_push 0 before item))
    ∙ ap (λ x. old ++ table_items_text 0 (before ++ x ∷ [])) is
    ∙ ap (λ l. old ++ table_items_text 0 l) (sym (take_more items i item some))

-- comments, and the end of their line
pub above_written : (comments : List (String Global)) (old p new : List ℕ) → (length comments == 0) ≡ false
    → p ≡ old ++ comments_text comments → new ≡ p ++ codes "<br>" → new ≡ old ++ comments_above comments
above_written [] old p new some is_p is_new = absurd cc
above_written (comment ∷ comments) old p new some is_p is_new =
    is_new ∙ ap (λ l. l ++ codes "<br>") is_p ∙ append_assoc old (comments_text (comment ∷ comments)) (codes "<br>")

-- the one cell of a table
pub cell_written : (items : List Decimal) (comments : List (String Global)) (old p q r s new : List ℕ)
    → p ≡ old ++ codes "<td colspan=\"3\">" → q ≡ p ++ comments_above comments → r ≡ q ++ codes "<span class=\"tab\">"
    → s ≡ r ++ table_items_text 0 items → new ≡ s ++ codes "</span>" → new ≡ old ++ items_cell items comments
cell_written items comments old p q r s new is_p is_q is_r is_s is_new =
    let start = codes "<td colspan=\"3\">" in
    let above = comments_above comments in
    let tab = codes "<span class=\"tab\">" in
    let all = table_items_text 0 items in
    let end = codes "</span>" in
    is_new
    ∙ ap (λ l. l ++ end) is_s ∙ append_assoc r all end
    ∙ ap (λ l. l ++ (all ++ end)) is_r ∙ append_assoc q tab (all ++ end)
    ∙ ap (λ l. l ++ (tab ++ (all ++ end))) is_q ∙ append_assoc p above (tab ++ (all ++ end))
    ∙ ap (λ l. l ++ (above ++ (tab ++ (all ++ end)))) is_p
    ∙ append_assoc old start (above ++ (tab ++ (all ++ end)))

-- the cells of a text that is no literal
is_wrong : (text : List ℕ) (f : ExprFault) → f ≢ faults.Memory → IsFaultOf Literals text f
    → (cause : Cause) × (at : ℕ) × IsWrong Literals text cause at
is_wrong text (faults.Syntax n) known h = (syntax, n, h)
is_wrong text (faults.Unsupported n) known h = (unsupported, n, h)
is_wrong text (faults.BinaryFraction n) known h = (binary_fraction, n, h)
is_wrong text (faults.Number n) known h = (number, n, h)
is_wrong text (faults.Deep n) known h = (deep, n, h)
is_wrong text faults.Memory known h = absurd (known refl)

pub wrong_cells : (written text line range : List ℕ) (comments : List (String Global)) (old new : List ℕ) (f : ExprFault)
    → f ≢ faults.Memory → written ≡ text → IsFaultOf Literals written f → line ≡ line_text written
    → new ≡ old ++ value_cells line range comments → AddsCells text range comments old new
wrong_cells written text line range comments old new f known same fault is_line grown =
    let wrong = is_wrong text f known (subst (λ t. IsFaultOf Literals t f) same fault) in
    record {
      cells = value_cells line range comments;
      are = inr (
        wrong.0,
        wrong.1,
        wrong.2,
        ap (λ l. value_cells l range comments) (is_line ∙ ap line_text same),
      );
      grown = grown;
    }

-- ---- rows

-- a row, from its parts
pub row_added : (is_refused : Bool) (range : List ℕ) (comments : List (String Global)) (d : RawDeclaration) (old p q new : List ℕ)
    → p ≡ old ++ row_start is_refused d.name d.kind → AddsCells (unwrap_or d.value []) range comments p q
    → new ≡ q ++ codes "</tr>\n" → AddsRow is_refused range comments d old new
row_added is_refused range comments d old p q new started cells closed =
    let start = row_start is_refused d.name d.kind in
    let end = codes "</tr>\n" in
    record {
      row = start ++ (cells.cells ++ end);
      is = record { cells = cells.cells; are_cells = cells.are; is = refl };
      grown = closed
          ∙ ap (λ l. l ++ end) (cells.grown ∙ ap (λ l. l ++ cells.cells) started)
          ∙ append_assoc (old ++ start) cells.cells end
          ∙ append_assoc old start (cells.cells ++ end);
    }

-- the row of a declaration by its number among those of a kind
pub row_as : (source : TableSource) (element : Element) (index : ℕ) (is_refused : Bool) (range : List ℕ)
    (comments : List (String Global)) (d : RawDeclaration) (old new : List ℕ) → is_refused ≡ is_named source.site d.name
    → range ≡ range_shown source element index d.name → AddsRow is_refused range comments d old new
    → AddsNamed source element index comments d old new
row_as source element index is_refused range comments d old new named shown row =
    subst (λ b. AddsRow b (range_shown source element index d.name) comments d old new) named
    (subst (λ r. AddsRow is_refused r comments d old new) shown row)

rows_push : (source : TableSource) (element : Element) (from : ℕ) (ds : List RawDeclaration) (d : RawDeclaration)
    (rows : List (List ℕ)) (row : List ℕ) → AreRows source element from ds rows
    → IsRowIn source element (from + length ds) d row → AreRows source element from (ds ++ d ∷ []) (rows ++ row ∷ [])
rows_push source element from [] d rows row are is =
    let same : from + 0 ≡ from = omega arith in
    subst (λ r. AreRows source element from (d ∷ []) (r ++ row ∷ [])) (sym are)
    (subst (λ i. IsRowIn source element i d row) same is, refl)
rows_push source element from (x ∷ ds) d [] row are is = absurd are
rows_push source element from (x ∷ ds) d (r ∷ rows) row are is =
    let same : from + suc (length ds) ≡ from + 1 + length ds = omega arith in (
      are.0,
      rows_push source element (from + 1) ds d rows row are.1 (subst (λ i. IsRowIn source element i d row) same is),
    )

declared_more : (ds : List RawDeclared) (i : ℕ) (d : RawDeclared) → i < length ds → d ≡ get_or ds i d
    → map raw_declaration_of (take (i + 1) ds) ≡ map raw_declaration_of (take i ds) ++ raw_declaration_of d ∷ []
declared_more ds i d some at =
    ap (map raw_declaration_of) (take_more ds i d some)
    ∙ map_push raw_declaration_of (take i ds) (get_or ds i d)
    ∙ ap (λ x. map raw_declaration_of (take i ds) ++ raw_declaration_of x ∷ []) (sym at)

-- the row of one declaration more, behind rows of comments
pub next_row : (source : TableSource) (element : Element) (ds : List RawDeclared) (i : ℕ) (d : RawDeclared)
    (comments : List (String Global)) (a b c e : List ℕ) → i < length ds → d ≡ get_or ds i d
    → AddsRows source element (map raw_declaration_of (take i ds)) a b → AddsInTurn [] b c
    → comments ≡ comments_before source.notes element i
    → AddsNamed source element i comments (raw_declaration_of d) c e
    → AddsRows source element (map raw_declaration_of (take (i + 1) ds)) a e
next_row source element ds i d comments a b c e some at so_far between found row =
    let before = map raw_declaration_of (take i ds) in
    let within : i ≤ length ds = omega (arith, some) in
    let count : i ≡ 0 + length before =
    omega (arith, length-map (take i ds) raw_declaration_of, length-take-le i ds within) in
    let named : AddsNamed source element i (comments_before source.notes element i) (raw_declaration_of d) c e =
    subst (λ cs. AddsNamed source element i cs (raw_declaration_of d) c e) found row in
    subst (λ l. AddsRows source element l a e) (sym (declared_more ds i d some at))
    (record {
      rows = so_far.rows ++ named.row ∷ [];
      are = rows_push source element 0 before (raw_declaration_of d) so_far.rows named.row so_far.are
          (subst (λ k. IsRowIn source element k (raw_declaration_of d) named.row) count named.is);
      adds = adds_then so_far.rows (named.row ∷ []) a c e (adds_beside so_far.rows a b c so_far.adds between)
          (one_text named.row c e named.grown);
    })

-- no row yet
pub no_rows : (source : TableSource) (element : Element) (page : List ℕ) → AddsRows source element [] page page
no_rows source element page = record { rows = []; are = refl; adds = adds_none page }

-- all rows, and rows of comments behind them
pub all_rows : (source : TableSource) (element : Element) (ds : List RawDeclared) (i : ℕ) (a b c : List ℕ) → length ds ≤ i
    → AddsRows source element (map raw_declaration_of (take i ds)) a b → AddsInTurn [] b c
    → AddsRows source element (map raw_declaration_of ds) a c
all_rows source element ds i a b c all so_far behind =
    subst (λ l. AddsRows source element (map raw_declaration_of l) a c) (take_all i ds all)
    (record { rows = so_far.rows; are = so_far.are; adds = adds_beside so_far.rows a b c so_far.adds behind })

-- ---- kinds

-- a kind without names, of which nothing is written
pub no_group : (source : TableSource) (element : Element) (ds : List RawDeclared) (page : List ℕ) → length ds ≡ 0
    → AddsGroup source element (map raw_declaration_of ds) page page
no_group source element [] page none = record { texts = []; are = refl; adds = adds_none page }
no_group source element (d ∷ ds) page none = absurd (omega (arith, none))

-- a kind under its title
group_of : (source : TableSource) (element : Element) (ds : List RawDeclaration) (html a b c e : List ℕ)
    → b ≡ a ++ group_heading element (length ds) → AddsRows source element ds b c → e ≡ c ++ html
    → AddsGroup source element ds a e
group_of source element [] html a b c e titled rows closed =
    let none : AddsInTurn [] b c = subst (λ rs. AddsInTurn rs b c) rows.are rows.adds in
    record {
      texts = [];
      are = refl;
      adds = adds_behind [] html a c e closed (adds_before [] (group_heading element 0) a b c titled none);
    }
group_of source element (d ∷ ds) html a b c e titled rows closed =
    let heading = group_heading element (length (d ∷ ds)) in
    record {
      texts = heading ∷ rows.rows;
      are = (rows.rows, rows.are, refl);
      adds = adds_behind (heading ∷ rows.rows) html a c e closed
          (adds_then (heading ∷ []) rows.rows a b c (one_text heading a b titled) rows.adds);
    }

pub group_added : (source : TableSource) (element : Element) (ds : List RawDeclared) (html a b c e : List ℕ)
    → b ≡ a ++ group_heading element (length ds) → AddsRows source element (map raw_declaration_of ds) b c → e ≡ c ++ html
    → AddsGroup source element (map raw_declaration_of ds) a e
group_added source element ds html a b c e titled rows closed =
    group_of source element (map raw_declaration_of ds) html a b c e
    (titled ∙ ap (λ n. a ++ group_heading element n) (sym (length-map ds raw_declaration_of))) rows closed

-- all kinds
pub table_added : (source : TableSource) (x : Elements) (is os ns cs : List RawDeclared) (a b c d e : List ℕ)
    → is ≡ x.inputs.items → os ≡ x.outputs.items → ns ≡ x.internals.items → cs ≡ x.constants.items
    → AddsGroup source Input (map raw_declaration_of is) a b → AddsGroup source Output (map raw_declaration_of os) b c
    → AddsGroup source Internal (map raw_declaration_of ns) c d → AddsGroup source Constant (map raw_declaration_of cs) d e
    → AddsTable source (tree_of x) a e
table_added source x is os ns cs a b c d e is_i is_o is_n is_c first second third fourth =
    record {
      texts = first.texts ++ (second.texts ++ (third.texts ++ fourth.texts));
      are = record {
        inputs = first.texts;
        outputs = second.texts;
        internals = third.texts;
        constants = fourth.texts;
        are_inputs = subst (λ l. IsGroup source Input (map raw_declaration_of l) first.texts) is_i first.are;
        are_outputs = subst (λ l. IsGroup source Output (map raw_declaration_of l) second.texts) is_o second.are;
        are_internals = subst (λ l. IsGroup source Internal (map raw_declaration_of l) third.texts) is_n third.are;
        are_constants = subst (λ l. IsGroup source Constant (map raw_declaration_of l) fourth.texts) is_c fourth.are;
        is = refl;
      };
      adds = adds_then first.texts (second.texts ++ (third.texts ++ fourth.texts)) a b e first.adds
          (adds_then second.texts (third.texts ++ fourth.texts) b c e second.adds
          (adds_then third.texts fourth.texts c d e third.adds fourth.adds));
    }

-- the table between what stands before it and behind it
pub table_inside : (source : TableSource) (tree : ElementTree) (before behind a b c d : List ℕ) → b ≡ a ++ before
    → AddsTable source tree b c → d ≡ c ++ behind → AddsTable source tree a d
table_inside source tree before behind a b c d is_b table is_d = record {
  texts = table.texts;
  are = table.are;
  adds = adds_behind table.texts behind a c d is_d (adds_before table.texts before a b c is_b table.adds);
}
