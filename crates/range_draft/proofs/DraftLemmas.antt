-- The draft grows by its parts.
use Rattle.std.proofs.Common.{◌≡◌, ◌&&◌, ◌||◌, not, ℕ, zero, suc, ◌<◌, ◌≤◌, ◌+◌, ◌-◌, ◌*◌, inl, inr, Bor, Bool, true, false, cond, Result, Ok, Err, List, [], ◌∷◌, ◌++◌, take, get_or, length, refl, sym, ap, subst, ◌∙◌, append_assoc, length-append, length-take, arith}
use Rattle.std.specs.Prelude.{OnOk, IsTrue, is_ok, if◌then◌else◌, map, find, nat_lt, nat_le, codes, encode_utf8}
use Rattle.std.specs.Fmt.{decimal}
use Rattle.std.specs.Char.{len_utf8}
use Rattle.std.specs.Str.{bytes_eq, chars, IsUtf8}
use Rattle.std.specs.Ordering.{nat_cmp}
use Rattle.std.specs.Cmp.Lexicographic.{slice_cmp, texts_ties}
use Rattle.std.specs.List.{list_any}
use Rattle.std.specs.BTreeMap.{is_at}
use Rattle.std.specs.BTreeSet.{BTreeSet, contains, Updates}
use Rattle.std.proofs.lemmas.Bool.{false≢true, cases_Bool, cases_lt, lt-ltb, le-ltb, ltb-false, leb-true}
use Rattle.std.proofs.lemmas.List.{append-nil, length-map, map-append, take_more}
use Rattle.std.proofs.lemmas.List.Folds.{list_any-append}
use Rattle.std.proofs.lemmas.Str.{chars_past_char, length-encode, len_utf8_bounds}
use Rattle.std.proofs.lemmas.Fmt.{length-decimal-le}
use Rattle.pap_tree.specs.Names.{is_name, longest_name}
use Rattle.pap_tree.specs.declared.declaration.Kind.{Kind}
use Rattle.pap_tree.specs.declared.declaration.Kind.TheVariants.{Int, Long, Factor, Big, Table}
use Rattle.pap_reader.specs.declared.element.Element.TheVariants.{Input}
use Rattle.pap_reader.specs.declared.elements.RawDeclared.{RawDeclared}
use Rattle.pap_reader.specs.Trees.{RawDeclaration, raw_declaration_of}
use Rattle.plan_notes.specs.declared.tag.Starts.TheVariants.{Of}
use Rattle.plan_notes.specs.declared.notes.Notes.{Notes}
use Rattle.plan_notes.specs.declared.notes.Walk.{Walk}
use Rattle.plan_notes.specs.Walks.{notes_of, marks_left, is_start, behind_start, behind_starts, comments_of}
use Rattle.plan_notes.proofs.Laws.{comments_found}
use Rattle.range_draft.specs.Bounds.{least_of_kind, greatest_of_kind, advice}
use Rattle.range_draft.specs.Draft.{head, table, comment_char, front, comment_line, comment_lines, longest_comment, input_comments, entry_of, declares, none, again, entry, IsDraft}
use Rattle.range_draft.specs.private.DraftViews.{texts_of}

-- ---- a line

-- what is left of a comment, as it is shown
abbrev pub left_front : ℕ → List ℕ → List ℕ
left_front room rest = front room (map comment_char (chars rest))

-- a character that has room
pub front_more : (old whole text new rest more : List ℕ) (c shown room less : ℕ) → IsUtf8 rest
    → rest ≡ encode_utf8 c ++ more → 4 ≤ room → text ++ left_front room rest ≡ old ++ whole
    → shown ≡ comment_char c → new ≡ text ++ encode_utf8 shown → less ≡ room - len_utf8 shown
    → new ++ left_front less more ≡ old ++ whole
front_more old whole text new rest more c shown room less utf8 is some so_far show pushed rest_room =
    let one = encode_utf8 (comment_char c) in
    let left = left_front (room - length one) more in
    let step : left_front room rest ≡ one ++ left =
    ap (λ cs. front room (map comment_char cs)) (chars_past_char rest more c utf8 is)
    ∙ ap (λ b. cond b (codes "..") (one ++ left)) (le-ltb room 4 some) in
    let less_is : less ≡ room - length one =
    rest_room ∙ ap (λ n. room - n) (sym (length-encode shown) ∙ ap (λ n. length (encode_utf8 n)) show) in
    ap (λ n. new ++ left_front n more) less_is
    ∙ ap (λ z. z ++ left) (pushed ∙ ap (λ n. text ++ encode_utf8 n) show) ∙ append_assoc text one left
    ∙ sym (ap (λ z. text ++ z) step) ∙ so_far

-- one that has none
pub front_end : (old whole text new rest more : List ℕ) (c room : ℕ) → IsUtf8 rest → rest ≡ encode_utf8 c ++ more
    → room < 4 → text ++ left_front room rest ≡ old ++ whole → new ≡ text ++ codes ".."
    → new ≡ old ++ whole
front_end old whole text new rest more c room utf8 is full so_far pushed =
    let one = encode_utf8 (comment_char c) in
    let step : left_front room rest ≡ codes ".." =
    ap (λ cs. front room (map comment_char cs)) (chars_past_char rest more c utf8 is)
    ∙ ap (λ b. cond b (codes "..") (one ++ left_front (room - length one) more)) (lt-ltb room 4 full) in
    pushed ∙ sym (ap (λ z. text ++ z) step) ∙ so_far

-- nothing is left
pub front_all : (old whole text rest : List ℕ) (room : ℕ) → rest ≡ [] → text ++ left_front room rest ≡ old ++ whole
    → text ≡ old ++ whole
unfolding chars
front_all old whole text rest room empty so_far =
    sym (ap (λ z. text ++ left_front room z) empty ∙ append-nil text) ∙ so_far

-- ---- what is written, where that is Ok

pub on_ok : {A E : Type 0} (r : Result A E) (P Q : Type 0) → OnOk r P → (P → Q) → OnOk r Q
on_ok (Ok v) P Q h f = f h
on_ok (Err e) P Q h f = h

-- the same of a text that is appended
pub on_written : {A E : Type 0} (r : Result A E) (new text more : List ℕ) (Q : Type 0)
    → new ≡ (if is_ok r then text ++ more else text) → (new ≡ text ++ more → Q) → OnOk r Q
on_written (Ok v) new text more Q e f = f e
on_written (Err x) new text more Q e f = tt

line_end : encode_utf8 10 ≡ codes "\n"
unfolding lib.Utf8.encode
line_end = refl

-- ---- the lines of comments

pub comment_written : (old sign text new comment : List ℕ) (room : ℕ) → 0 < room → sign ≡ old ++ codes "# "
    → text ≡ sign ++ front room (map comment_char (chars comment)) → new ≡ text ++ encode_utf8 10
    → new ≡ old ++ comment_line room comment
comment_written old sign text new comment zero some began fronted ended = absurd (omega (arith, some))
comment_written old sign text new comment (suc n) some began fronted ended =
    let line = front (suc n) (map comment_char (chars comment)) in
    ended ∙ ap (λ z. text ++ z) line_end
    ∙ ap (λ z. z ++ codes "\n") (fronted ∙ ap (λ z. z ++ line) began ∙ append_assoc old (codes "# ") line)
    ∙ append_assoc old (codes "# " ++ line) (codes "\n")

pub no_comment : (old comment : List ℕ) (room : ℕ) → room ≡ 0 → old ≡ old ++ comment_line room comment
no_comment old comment room full = sym (ap (λ n. old ++ comment_line n comment) full ∙ append-nil old)

-- the comments that are left have the room up to an end
abbrev pub AreBefore : List ℕ → List ℕ → List (List ℕ) → ℕ → List (List ℕ) → Type 0
AreBefore old text left end comments =
    text ++ comment_lines (end - length text) left ≡ old ++ comment_lines longest_comment comments

pub comments_start : (old : List ℕ) (comments : List (List ℕ)) (end : ℕ) → end ≡ length old + longest_comment
    → AreBefore old old comments end comments
comments_start old comments end is =
    let room : end - length old ≡ longest_comment = omega (arith, is) in
    ap (λ n. old ++ comment_lines n comments) room

pub comments_more : (old text new comment : List ℕ) (left comments : List (List ℕ)) (end room : ℕ)
    → room ≡ end - length text → new ≡ text ++ comment_line room comment
    → AreBefore old text (comment ∷ left) end comments → AreBefore old new left end comments
comments_more old text new comment left comments end room is written so_far =
    let line = comment_line room comment in
    let lines = λ (n : ℕ). comment_lines n left in
    let rest : end - length new ≡ room - length line =
    (let l = ap length written ∙ length-append text line in omega (arith, l, is)) in
    ap (λ n. new ++ lines n) rest ∙ ap (λ z. z ++ lines (room - length line)) written
    ∙ append_assoc text line (lines (room - length line))
    ∙ ap (λ n. text ++ comment_lines n (comment ∷ left)) is ∙ so_far

pub comments_end : (old text : List ℕ) (comments : List (List ℕ)) (end : ℕ) → AreBefore old text [] end comments
    → text ≡ old ++ comment_lines longest_comment comments
comments_end old text comments end so_far = sym (append-nil text) ∙ so_far

-- ---- entries

pub entry_written : (old empty text new : List ℕ) (input : RawDeclaration) (comments : List (List ℕ))
    → empty ≡ old ++ encode_utf8 10 → text ≡ empty ++ comment_lines longest_comment comments
    → new ≡ text ++ table input.name input.kind → new ≡ old ++ entry_of input comments
entry_written old empty text new input comments began lines ended =
    let commented = comment_lines longest_comment comments in
    let tabled = table input.name input.kind in
    ended ∙ ap (λ z. z ++ tabled) (lines ∙ ap (λ z. z ++ commented) (began ∙ ap (λ z. old ++ z) line_end))
    ∙ append_assoc (old ++ codes "\n") commented tabled
    ∙ append_assoc old (codes "\n") (commented ++ tabled)

-- ---- how long the parts are

-- so many bytes at most: as much room as there is, and three bytes and `..` more
front_length : (room : ℕ) (text : List ℕ) → length (front room text) ≤ room + 2
front_length room [] = omega arith
front_length room (c ∷ text) = elim (cases_Bool (nat_lt room 4)) [
  | inl full ↦
      let is : front room (c ∷ text) ≡ codes ".." =
      ap (λ b. cond b (codes "..") (encode_utf8 c ++ front (room - length (encode_utf8 c)) text)) full in
      let two = ap length is in omega (arith, two)
  | inr some ↦
      let one = encode_utf8 c in
      let is : front room (c ∷ text) ≡ one ++ front (room - length one) text =
      ap (λ b. cond b (codes "..") (one ++ front (room - length one) text)) some in
      let whole = ap length is ∙ length-append one (front (room - length one) text) in
      let small = (len_utf8_bounds c).1 in
      let size = length-encode c in
      let at_least = ltb-false room 4 some in
      let rest = front_length (room - length one) text in
      omega (arith, whole, small, size, at_least, rest)
]

line_length : (room : ℕ) (comment : List ℕ) → length (comment_line room comment) ≤ room + 5
line_length zero comment = omega arith
line_length (suc room) comment =
    let shown = front (suc room) (map comment_char (chars comment)) in
    let begun = length-append (codes "# ") (shown ++ codes "\n") in
    let ended = length-append shown (codes "\n") in
    let short = front_length (suc room) (map comment_char (chars comment)) in
    omega (arith, begun, ended, short)

no_lines : (comments : List (List ℕ)) → comment_lines 0 comments ≡ []
no_lines [] = refl
no_lines (comment ∷ comments) = no_lines comments

lines_length : (room : ℕ) (comments : List (List ℕ)) → length (comment_lines room comments) ≤ room + 5
lines_length room [] = omega arith
lines_length room (comment ∷ comments) =
    let line = comment_line room comment in
    let whole = length-append line (comment_lines (room - length line) comments) in
    let short = line_length room comment in
    elim (cases_lt room (length line)) [
      | inl over ↦
          let left : room - length line ≡ 0 = omega (arith, over) in
          let empty = ap length (ap (λ n. comment_lines n comments) left ∙ no_lines comments) in
          omega (arith, whole, short, empty)
      | inr within ↦
          let rest = lines_length (room - length line) comments in
          omega (arith, whole, short, within, rest)
    ]

-- the table of any bounds, with one digit of places
parts_length : (told name low high : List ℕ) (places : ℕ) → places < 10
    → length (codes "# " ++ (told ++ (codes "\n[input." ++ (name ++ (codes "]\nlow = " ++ (low ++ (codes "\nhigh = "
    ++ (high ++ (codes "\nplaces = " ++ (decimal places ++ codes "\n"))))))))))
    ≤ 38 + (length told + (length name + (length low + length high)))
parts_length told name low high places small =
    let rest = codes "\nplaces = " ++ (decimal places ++ codes "\n") in
    let behind_low = codes "\nhigh = " ++ (high ++ rest) in
    let behind_name = codes "]\nlow = " ++ (low ++ behind_low) in
    let a = length-append told (codes "\n[input." ++ (name ++ behind_name)) in
    let b = length-append name behind_name in
    let c = length-append low behind_low in
    let d = length-append high rest in
    let e = length-append (decimal places) (codes "\n") in
    let digit = length-decimal-le 1 places (omega arith) (omega (arith, small)) (omega (arith, small)) in
    omega (arith, a, b, c, d, e, digit)

table_length : (name : List ℕ) (kind : Kind) → length (table name kind) ≤ 150 + length name
table_length name Int =
    let whole = parts_length (advice Int) name (least_of_kind Int) (greatest_of_kind Int) 0 (omega arith) in omega (arith, whole)
table_length name Long =
    let whole = parts_length (advice Long) name (least_of_kind Long) (greatest_of_kind Long) 0 (omega arith) in omega (arith, whole)
table_length name Factor =
    let whole = parts_length (advice Factor) name (least_of_kind Factor) (greatest_of_kind Factor) 3 (omega arith) in omega (arith, whole)
table_length name Big =
    let whole = parts_length (advice Big) name (least_of_kind Big) (greatest_of_kind Big) 2 (omega arith) in omega (arith, whole)
table_length name Table =
    let whole = parts_length (advice Table) name (least_of_kind Table) (greatest_of_kind Table) 2 (omega arith) in omega (arith, whole)

entry_length : (input : RawDeclaration) (comments : List (List ℕ)) → length input.name ≤ longest_name
    → length (entry_of input comments) ≤ 400
entry_length input comments named =
    let lines = comment_lines longest_comment comments in
    let empty = length-append (codes "\n") (lines ++ table input.name input.kind) in
    let both = length-append lines (table input.name input.kind) in
    let commented = lines_length longest_comment comments in
    let tabled = table_length input.name input.kind in
    omega (arith, empty, both, commented, tabled, named)

first : (a b : Bool) → (a && b) ≡ true → a ≡ true
first true b h = refl
first false b h = h

second : (a b : Bool) → (a && b) ≡ true → b ≡ true
second true b h = h
second false b h = absurd cc

short_name : (name : List ℕ) → IsTrue (is_name name) → length name ≤ longest_name
short_name name form =
    leb-true (length name) longest_name
    (second (nat_lt 0 (length name)) (nat_le (length name) longest_name) (first _ _ (first _ _ form)))

-- ---- inputs, one after the other

-- the names of inputs, in a set
abbrev pub Names : Type 0
Names = BTreeSet (Bor (List ℕ))

abbrev pub holds : Names → Bor (List ℕ) → Bool
holds names name = contains (λ x y. slice_cmp nat_cmp x.now y.now) names name

-- the set has the names of these inputs
abbrev pub HasNames : Names → List RawDeclaration → Type 0
HasNames names inputs = (q : Bor (List ℕ)) → holds names q ≡ declares inputs q.now

-- the draft of so many of the inputs
abbrev pub before : List RawDeclared → ℕ → List RawDeclaration
before inputs number = map raw_declaration_of (take number inputs)

-- how far the draft has come: so many inputs
pub record IsDrafted (inputs : List RawDeclared) (notes : Notes) (number : ℕ) (walk : Walk) (names : Names)
    (text : List ℕ) : Type 0 where
  pub draft : IsDraft (before inputs number) notes text
  pub left : marks_left walk ≡ behind_starts (Of Input) number notes.marks.items
  pub same : notes_of walk ≡ notes
  pub known : HasNames names (before inputs number)
  pub short : length text ≤ 353 + number * 400

pub no_names : (names : Names) → names.keys ≡ [] → (q : Bor (List ℕ)) → holds names q ≡ false
no_names names empty q = ap (λ keys. list_any (is_at (λ (y : Bor (List ℕ)). slice_cmp nat_cmp q.now y.now)) keys) empty

pub was_there : (added b : Bool) → added ≡ false → added ≡ not b → b ≡ true
was_there added true e h = refl
was_there added false e h = absurd (false≢true (sym e ∙ h))

pub was_new : (added b : Bool) → added ≡ true → added ≡ not b → b ≡ false
was_new added false e h = refl
was_new added true e h = absurd (false≢true (sym h ∙ e))

pub drafted_start : (inputs : List RawDeclared) (notes : Notes) (walk : Walk) (names : Names) (text : List ℕ)
    → text ≡ head → marks_left walk ≡ notes.marks.items → notes_of walk ≡ notes → ((q : Bor (List ℕ)) → holds names q ≡ false)
    → IsDrafted inputs notes 0 walk names text
drafted_start inputs notes walk names text is left same empty = record {
  draft = record { entries = []; is = is ∙ sym (append-nil head); have = none };
  left = left;
  same = same;
  known = empty;
  short = (let size = ap length is in let begun : length head ≡ 353 = refl in omega (arith, size, begun));
}

-- one input more
before_more : (inputs : List RawDeclared) (i : ℕ) (input : RawDeclared) → i < length inputs
    → input ≡ get_or inputs i input → before inputs (i + 1) ≡ before inputs i ++ (raw_declaration_of input ∷ [])
before_more inputs i input some is =
    ap (λ z. map raw_declaration_of z)
    (take_more inputs i input some ∙ ap (λ z. take i inputs ++ (z ∷ [])) (sym is))
    ∙ map-append raw_declaration_of (take i inputs) (input ∷ [])

before_length : (inputs : List RawDeclared) (i : ℕ) → i < length inputs → length (before inputs i) ≡ i
before_length inputs i some =
    let mapped = length-map (take i inputs) raw_declaration_of in
    let taken = length-take i inputs in omega (arith, some, mapped, taken)

one_more : (b x y : Bool) → cond b true x ≡ (x || (b || false))
one_more true true y = refl
one_more true false y = refl
one_more false true y = refl
one_more false false y = refl

names_more : (old new : Names) (name : Bor (List ℕ)) (inputs : List RawDeclaration) (input : RawDeclaration)
    → name.now ≡ input.name → HasNames old inputs → Updates (λ x y. slice_cmp nat_cmp x.now y.now) old new name true
    → HasNames new (inputs ++ (input ∷ []))
names_more old new name inputs input is known updates q =
    updates.0 q
    ∙ ap (λ b. cond b true (holds old q))
    (sym (texts_ties name.now q.now) ∙ ap (λ n. bytes_eq n q.now) is)
    ∙ one_more (bytes_eq input.name q.now) (holds old q) true
    ∙ ap (λ b. b || (bytes_eq input.name q.now || false)) (known q)
    ∙ sym (list_any-append (λ (d : RawDeclaration). bytes_eq d.name q.now) inputs (input ∷ []))

-- the comments that are found
found_comments : (notes : Notes) (walk : Walk) (i : ℕ) → marks_left walk ≡ behind_starts (Of Input) i notes.marks.items
    → notes_of walk ≡ notes
    → texts_of (comments_of (notes_of walk) (find (is_start (Of Input)) (marks_left walk))) ≡ input_comments notes i
found_comments notes walk i left same = ap texts_of (comments_found notes walk Input i same left)

module _ (inputs : List RawDeclared) (notes : Notes) (i : ℕ) (walk after : Walk) (names more : Names)
    (name : Bor (List ℕ)) (input : RawDeclared) (text : List ℕ) (so_far : IsDrafted inputs notes i walk names text) (some : i < length inputs)
    (item : input ≡ get_or inputs i input) (named : name.now ≡ input.name)
    (left : marks_left after ≡ behind_start (Of Input) (marks_left walk)) (same : notes_of after ≡ notes_of walk)
    (updates : Updates (λ x y. slice_cmp nat_cmp x.now y.now) names more name true) where
  walked : marks_left after ≡ behind_starts (Of Input) (i + 1) notes.marks.items
  walked =
      let next : suc i ≡ i + 1 = omega arith in
      left ∙ ap (behind_start (Of Input)) so_far.left ∙ ap (λ n. behind_starts (Of Input) n notes.marks.items) next

  known : HasNames more (before inputs (i + 1))
  known = subst (HasNames more) (sym (before_more inputs i input some item))
      (names_more names more name (before inputs i) (raw_declaration_of input) named so_far.known updates)

  pub drafted_again : holds names name ≡ true → IsDrafted inputs notes (i + 1) after more text
  drafted_again there = record {
    draft = subst (λ z. IsDraft z notes text) (sym (before_more inputs i input some item)) (record {
      entries = so_far.draft.entries;
      is = so_far.draft.is;
      have = again (raw_declaration_of input) so_far.draft.have
          (sym (ap (declares (before inputs i)) named) ∙ sym (so_far.known name) ∙ there);
    });
    left = walked;
    same = same ∙ so_far.same;
    known = known;
    short = (let short = so_far.short in omega (arith, short));
  }

  pub drafted_new : (new : List ℕ) (comments : List (List ℕ)) → holds names name ≡ false
      → comments ≡ texts_of (comments_of (notes_of walk) (find (is_start (Of Input)) (marks_left walk)))
      → IsTrue (is_name input.name) → new ≡ text ++ entry_of (raw_declaration_of input) comments
      → IsDrafted inputs notes (i + 1) after more new
  drafted_new new comments fresh found form written =
      let one = entry_of (raw_declaration_of input) comments in
      let own : comments ≡ input_comments notes (length (before inputs i)) =
      found ∙ found_comments notes walk i so_far.left so_far.same
      ∙ ap (input_comments notes) (sym (before_length inputs i some)) in
      let whole : new ≡ head ++ (so_far.draft.entries ++ one) =
      written ∙ ap (λ z. z ++ one) so_far.draft.is ∙ append_assoc head so_far.draft.entries one in
      record {
        draft = subst (λ z. IsDraft z notes new) (sym (before_more inputs i input some item)) (record {
          entries = so_far.draft.entries
              ++ entry_of (raw_declaration_of input) (input_comments notes (length (before inputs i)));
          is = whole ∙ ap (λ c. head ++ (so_far.draft.entries ++ entry_of (raw_declaration_of input) c)) own;
          have = entry (raw_declaration_of input) so_far.draft.have
              (sym (ap (declares (before inputs i)) named) ∙ sym (so_far.known name) ∙ fresh);
        });
        left = walked;
        same = same ∙ so_far.same;
        known = known;
        short = (
            let short = so_far.short in
            let size = ap length written ∙ length-append text one in
            let more = entry_length (raw_declaration_of input) comments (short_name input.name form) in
            omega (arith, short, size, more)
            );
      }
