-- The captions of methods, one method more.
use Rattle.std.proofs.Common.{◌≡◌, ℕ, suc, Option, ◌+◌, ◌<◌, ◌≤◌, List, [], ◌∷◌, ◌++◌, length, take, map, get_or, refl, sym, ap, subst, ◌∙◌, append_assoc, arith, Global}
use Rattle.std.specs.Prelude.{String, find}
use Rattle.std.specs.List.{flat_map}
use Rattle.std.proofs.lemmas.List.{append-nil, flat_map_more, length-map, length-take-le, map_push, take_more, take_all}
use Rattle.pap_reader.specs.declared.elements.RawMethod.{RawMethod}
use Rattle.pap_reader.specs.declared.elements.RawStmt.{RawStmt}
use Rattle.pap_reader.specs.Trees.{RawRoutine, raw_body_of, raw_routine_of}
use Rattle.pap_reader.specs.declared.element.Element.TheVariants.{Main, Method}
use Rattle.plan_notes.specs.declared.tag.Starts.TheVariants.{Of}
use Rattle.plan_notes.specs.declared.notes.Notes.{Notes}
use Rattle.plan_notes.specs.declared.notes.Walk.{Walk}
use Rattle.plan_notes.specs.Walks.{notes_of, marks_left, is_start, behind_starts, comments_of}
use Rattle.plan_notes.proofs.Laws.{comments_found}
use Rattle.chart_layout.specs.Drawn.{body_statements}
use Rattle.chart_layout.specs.Statements.{statements_of}
use Rattle.chart_layout.specs.Counts.{count_of}
use Rattle.flowchart_methods.specs.declared.chapter.Chapter.{Chapter}
use Rattle.flowchart_methods.specs.Turns.{AddsInTurn}
use Rattle.flowchart_methods.specs.Sites.{NamedStatement, number_in}
use Rattle.flowchart_methods.specs.Conditions.{conditions_of}
use Rattle.flowchart_methods.specs.Marks.{Marked, marks_at}
use Rattle.flowchart_methods.specs.Captions.{heading, Beside, statement_captions, method_captions, beside_of, AreCaptionsFrom, AreCaptions}
use Rattle.flowchart_methods.specs.Chapters.{chapter_captions, method_comments, AreCommented}
use Rattle.flowchart_methods.specs.private.Chapters.{IsChapter}
use Rattle.flowchart_methods.proofs.Laws.{adds_behind, adds_then}

captions_push : (k : ℕ) (refused : Option NamedStatement) (marks : List (List Marked)) (ms : List RawRoutine) (m : RawRoutine)
    (captions more : List (List ℕ)) → AreCaptionsFrom k refused marks ms captions
    → AreCaptionsFrom (k + length ms) refused marks (m ∷ []) more
    → AreCaptionsFrom k refused marks (ms ++ m ∷ []) (captions ++ more)
captions_push k refused marks [] m captions more first second =
    let same : k + 0 ≡ k = omega arith in
    subst (λ n. AreCaptionsFrom n refused marks (m ∷ []) (captions ++ more)) same
    (subst (λ l. AreCaptionsFrom (k + 0) refused marks (m ∷ []) (l ++ more)) (sym first) second)
captions_push k refused marks (n ∷ ms) m captions more first second =
    let same : k + suc (length ms) ≡ k + 1 + length ms = omega arith in (
      first.0,
      first.1,
      (
        first.2.0 ++ more,
        captions_push (k + 1) refused marks ms m first.2.0 more first.2.1
            (subst (λ j. AreCaptionsFrom j refused marks (m ∷ []) more) same second),
        ap (λ l. l ++ more) first.2.2
            ∙ append_assoc (method_captions n.name (beside_of n.body (marks_at marks k)) first.0) first.2.0 more,
      ),
    )

-- what stands beside the statements of a chapter
abbrev pub beside_chapter : Chapter → Beside
beside_chapter c = record { conditions = c.conditions.items; marks = c.marks.now }

one_chapter : (k : ℕ) (refused : Option NamedStatement) (marks : List (List Marked)) (m : RawRoutine) (c : Chapter)
    → IsChapter (number_in refused m.name) m.name m.body (marks_at marks k) c
    → AreCaptionsFrom k refused marks (m ∷ []) (chapter_captions c)
one_chapter k refused marks m c is = (
  body_statements c.text.body,
  is.1,
  (
    [],
    refl,
    ap (λ n. method_captions n (beside_chapter c) (body_statements c.text.body)) is.0
        ∙ ap (λ cs. method_captions m.name (record { conditions = cs; marks = c.marks.now }) (body_statements c.text.body)) is.2
        ∙ ap (λ l. method_captions m.name (record { conditions = conditions_of m.body; marks = l }) (body_statements c.text.body)) is.3
        ∙ sym (append-nil (method_captions m.name (beside_of m.body (marks_at marks k)) (body_statements c.text.body))),
  ),
)

-- the first method
pub first_chapter : (refused : Option NamedStatement) (marks : List (List Marked)) (own : List Marked) (name main : List ℕ)
    (statements body : List RawStmt) (c : Chapter) (old new : List Chapter) → old ≡ [] → new ≡ old ++ c ∷ [] → name ≡ main
    → statements ≡ body → own ≡ marks_at marks 0
    → IsChapter (number_in refused name) name (raw_body_of statements) own c
    → AreCaptions refused marks (record { name = main; body = raw_body_of body } ∷ []) (flat_map chapter_captions new)
first_chapter refused marks own name main statements body c old new none is named same marked chapter =
    let m : RawRoutine = record { name = main; body = raw_body_of body } in
    subst (λ l. AreCaptions refused marks (m ∷ []) (flat_map chapter_captions l)) (sym (is ∙ ap (λ l. l ++ c ∷ []) none))
    (subst (λ l. AreCaptions refused marks (m ∷ []) l) (sym (append-nil (chapter_captions c)))
    (one_chapter 0 refused marks m c
    (subst (λ n. IsChapter (number_in refused n) n (raw_body_of body) (marks_at marks 0) c) named
    (subst (λ b. IsChapter (number_in refused name) name (raw_body_of b) (marks_at marks 0) c) same
    (subst (λ l. IsChapter (number_in refused name) name (raw_body_of statements) l c) marked chapter)))))

routines_more : (ms : List RawMethod) (i : ℕ) (m : RawMethod) → i < length ms → m ≡ get_or ms i m
    → map raw_routine_of (take (i + 1) ms) ≡ map raw_routine_of (take i ms) ++ raw_routine_of m ∷ []
routines_more ms i m some at =
    ap (map raw_routine_of) (take_more ms i m some)
    ∙ map_push raw_routine_of (take i ms) (get_or ms i m)
    ∙ ap (λ x. map raw_routine_of (take i ms) ++ raw_routine_of x ∷ []) (sym at)

-- one method more
pub next_chapter : (refused : Option NamedStatement) (marks : List (List Marked)) (own : List Marked) (k : ℕ) (main : RawRoutine)
    (ms : List RawMethod) (i : ℕ) (m : RawMethod) (statements : List RawStmt) (c : Chapter) (old new : List Chapter)
    → i < length ms → m ≡ get_or ms i m → new ≡ old ++ c ∷ [] → statements ≡ m.body.items → own ≡ marks_at marks k → k ≡ i + 1
    → IsChapter (number_in refused m.name) m.name (raw_body_of statements) own c
    → AreCaptions refused marks (main ∷ map raw_routine_of (take i ms)) (flat_map chapter_captions old)
    → AreCaptions refused marks (main ∷ map raw_routine_of (take (i + 1) ms)) (flat_map chapter_captions new)
next_chapter refused marks own k main ms i m statements c old new some at is same marked number chapter before =
    let few : i ≤ length ms = omega (arith, some) in
    let many = length-map (take i ms) raw_routine_of ∙ length-take-le i ms few in
    let place : k ≡ 0 + suc (length (map raw_routine_of (take i ms))) = omega (arith, number, many) in
    subst (λ l. AreCaptions refused marks (main ∷ l) (flat_map chapter_captions new))
    (sym (routines_more ms i m some at))
    (subst (λ l. AreCaptions refused marks (main ∷ (map raw_routine_of (take i ms) ++ raw_routine_of m ∷ [])) l)
    (flat_map_more chapter_captions [] old c ∙ ap (flat_map chapter_captions) (sym is))
    (captions_push 0 refused marks (main ∷ map raw_routine_of (take i ms)) (raw_routine_of m) (flat_map chapter_captions old)
    (chapter_captions c) before
    (subst (λ n. AreCaptionsFrom n refused marks (raw_routine_of m ∷ []) (chapter_captions c)) place
    (one_chapter k refused marks (raw_routine_of m) c
    (subst (λ b. IsChapter (number_in refused m.name) m.name (raw_body_of b) (marks_at marks k) c) same
    (subst (λ l. IsChapter (number_in refused m.name) m.name (raw_body_of statements) l c) marked chapter))))))

pub all_chapters : (refused : Option NamedStatement) (marks : List (List Marked)) (main : RawRoutine) (ms : List RawMethod) (i : ℕ)
    (captions : List (List ℕ))
    → length ms ≤ i → AreCaptions refused marks (main ∷ map raw_routine_of (take i ms)) captions
    → AreCaptions refused marks (main ∷ map raw_routine_of ms) captions
all_chapters refused marks main ms i captions all are =
    subst (λ l. AreCaptions refused marks (main ∷ map raw_routine_of l) captions) (take_all i ms all) are

-- ---- how many statements they have

-- the first method
pub first_count : (main : RawRoutine) (c : Chapter) (old new : List Chapter) → old ≡ [] → new ≡ old ++ c ∷ []
    → c.text.count ≡ count_of (statements_of main.body)
    → map (λ (c : Chapter). c.text.count) new ≡ map (λ (m : RawRoutine). count_of (statements_of m.body)) (main ∷ [])
first_count main c old new none is counted =
    ap (map (λ (c : Chapter). c.text.count)) (is ∙ ap (λ l. l ++ c ∷ []) none) ∙ ap (λ n. n ∷ []) counted

-- one method more
pub next_count : (main : RawRoutine) (ms : List RawMethod) (i : ℕ) (m : RawMethod) (statements : List RawStmt)
    (c : Chapter) (old new : List Chapter) → i < length ms → m ≡ get_or ms i m → new ≡ old ++ c ∷ []
    → statements ≡ m.body.items → c.text.count ≡ count_of (statements_of (raw_body_of statements))
    → map (λ (c : Chapter). c.text.count) old
    ≡ map (λ (m : RawRoutine). count_of (statements_of m.body)) (main ∷ map raw_routine_of (take i ms))
    → map (λ (c : Chapter). c.text.count) new
    ≡ map (λ (m : RawRoutine). count_of (statements_of m.body)) (main ∷ map raw_routine_of (take (i + 1) ms))
next_count main ms i m statements c old new some at is same counted before =
    let count = λ (c : Chapter). c.text.count in
    let number = λ (m : RawRoutine). count_of (statements_of m.body) in
    ap (map count) is
    ∙ map_push count old c
    ∙ ap (λ n. map count old ++ n ∷ []) (counted ∙ ap (λ b. count_of (statements_of (raw_body_of b))) same)
    ∙ ap (λ l. l ++ number (raw_routine_of m) ∷ []) before
    ∙ sym (map_push number (main ∷ map raw_routine_of (take i ms)) (raw_routine_of m))
    ∙ ap (λ l. map number (main ∷ l)) (sym (routines_more ms i m some at))

-- ---- their comments

commented_push : (notes : Notes) (from : ℕ) (cs : List Chapter) (c : Chapter) → AreCommented notes from cs
    → c.comments.now ≡ method_comments notes (from + length cs) → AreCommented notes from (cs ++ c ∷ [])
commented_push notes from [] c all is =
    let same : from + 0 ≡ from = omega arith in (is ∙ ap (method_comments notes) same, tt)
commented_push notes from (x ∷ cs) c all is =
    let same : from + suc (length cs) ≡ from + 1 + length cs = omega arith in
    (all.0, commented_push notes (from + 1) cs c all.1 (is ∙ ap (method_comments notes) same))

-- those of MAIN
pub first_commented : (notes : Notes) (walk : Walk) (comments : List (String Global)) (c : Chapter)
    (old new : List Chapter) → old ≡ [] → new ≡ old ++ c ∷ [] → c.comments.now ≡ comments
    → comments ≡ comments_of (notes_of walk) (find (is_start (Of Main)) (marks_left walk)) → notes_of walk ≡ notes
    → marks_left walk ≡ notes.marks.items → AreCommented notes 0 new
first_commented notes walk comments c old new none is has found same left =
    subst (AreCommented notes 0) (sym (is ∙ ap (λ l. l ++ c ∷ []) none))
    (has ∙ found ∙ comments_found notes walk Main 0 same left, tt)

-- those of one method more
pub next_commented : (notes : Notes) (walk : Walk) (i : ℕ) (comments : List (String Global)) (c : Chapter)
    (old new : List Chapter) → new ≡ old ++ c ∷ [] → length old ≡ i + 1 → c.comments.now ≡ comments
    → comments ≡ comments_of (notes_of walk) (find (is_start (Of Method)) (marks_left walk)) → notes_of walk ≡ notes
    → marks_left walk ≡ behind_starts (Of Method) i notes.marks.items → AreCommented notes 0 old
    → AreCommented notes 0 new
next_commented notes walk i comments c old new is many has found same left all =
    let number : suc i ≡ 0 + length old = omega (arith, many) in
    subst (AreCommented notes 0) (sym is)
    (commented_push notes 0 old c all
    (has ∙ found ∙ comments_found notes walk Method i same left ∙ ap (method_comments notes) number))

-- a section: its heading, the captions of its drawing, and HTML
pub adds_chapter : (chapter : Chapter) (html a b c d : List ℕ) → AddsInTurn (heading chapter.text.name ∷ []) a b
    → AddsInTurn (statement_captions chapter.text.name (beside_chapter chapter) (body_statements chapter.text.body)) b c
    → d ≡ c ++ html
    → AddsInTurn (chapter_captions chapter) a d
adds_chapter chapter html a b c d titled drawn behind =
    adds_behind (chapter_captions chapter) html a c d behind
    (adds_then (heading chapter.text.name ∷ [])
    (statement_captions chapter.text.name (beside_chapter chapter) (body_statements chapter.text.body)) a b c titled drawn)
