-- Nested marks say one thing, and it is what is built from them.
use Rattle.std.proofs.Common.{◌≡◌, Option, Some, None, List, [], ◌∷◌, ◌++◌, map, refl, sym, ap, subst, ◌∙◌, append_assoc}
use Rattle.std.proofs.lemmas.List.{append-nil}
use Rattle.pap_reader.specs.declared.element.Element.{Element}
use Rattle.pap_reader.specs.Structure as structure
use Rattle.pap_reader.specs.Structure.{Shape, opens, closes, Nodes}
use Rattle.pap_reader.specs.Tags.{Attribute}
use Rattle.pap_reader.specs.Marks.{Mark, begins, ends, alien, shape}
use Rattle.pap_reader.specs.Trees.{RawBody, done, eval, branch, execute}
use Rattle.pap_reader.specs.Meaning.{join, Piece, nothing, both, later, says, ElementsSay, none, node}
use Rattle.pap_reader.specs.private.VerdictDecisions.{Work, with_piece, build, builds, begun}

-- ---- pieces one after the other

pub join-done : (b : RawBody) → join b done ≡ b
join-done done = refl
join-done (eval x a) = ap (eval x) (join-done a)
join-done (branch x y n a) = ap (branch x y n) (join-done a)
join-done (execute x a) = ap (execute x) (join-done a)

pub join-assoc : (a b c : RawBody) → join (join a b) c ≡ join a (join b c)
join-assoc done b c = refl
join-assoc (eval x a) b c = ap (eval x) (join-assoc a b c)
join-assoc (branch x y n a) b c = ap (branch x y n) (join-assoc a b c)
join-assoc (execute x a) b c = ap (execute x) (join-assoc a b c)

pub later-assoc : (a b c : Option RawBody) → later (later a b) c ≡ later a (later b c)
later-assoc a b None = refl
later-assoc a b (Some c) = refl

pub both-nothing : (p : Piece) → both p nothing ≡ p
both-nothing p = λ i. record {
  inputs = append-nil p.inputs i;
  outputs = append-nil p.outputs i;
  internals = append-nil p.internals i;
  constants = append-nil p.constants i;
  main = p.main;
  methods = append-nil p.methods i;
  statements = join-done p.statements i;
  yes = p.yes;
  no = p.no;
}

none_later : (a : Option RawBody) → later None a ≡ a
none_later None = refl
none_later (Some a) = refl

pub nothing-both : (p : Piece) → both nothing p ≡ p
nothing-both p = λ i. record {
  inputs = p.inputs;
  outputs = p.outputs;
  internals = p.internals;
  constants = p.constants;
  main = none_later p.main i;
  methods = p.methods;
  statements = p.statements;
  yes = none_later p.yes i;
  no = none_later p.no i;
}

pub both-assoc : (p q r : Piece) → both (both p q) r ≡ both p (both q r)
both-assoc p q r = λ i. record {
  inputs = append_assoc p.inputs q.inputs r.inputs i;
  outputs = append_assoc p.outputs q.outputs r.outputs i;
  internals = append_assoc p.internals q.internals r.internals i;
  constants = append_assoc p.constants q.constants r.constants i;
  main = later-assoc p.main q.main r.main i;
  methods = append_assoc p.methods q.methods r.methods i;
  statements = join-assoc p.statements q.statements r.statements i;
  yes = later-assoc p.yes q.yes r.yes i;
  no = later-assoc p.no q.no r.no i;
}

-- ---- what is built

pub said : {ms : List Mark} {q : Piece} → ElementsSay ms q → (w : Work) (ws : List Work) (rest : List Mark) → builds (w ∷ ws) (ms ++ rest) ≡ builds (with_piece w q ∷ ws) rest
said none w ws rest = ap (λ p. builds (record { attributes = w.attributes; piece = p } ∷ ws) rest) (sym (both-nothing w.piece))
said (node {inside} {rest = after} {p} {q} e attributes i r) w ws rest =
    let v : Work = record { attributes = attributes; piece = nothing } in
    let regroup : builds (v ∷ w ∷ ws) ((inside ++ (ends e ∷ after)) ++ rest) ≡ builds (v ∷ w ∷ ws) (inside ++ (ends e ∷ (after ++ rest)))
    = ap (builds (v ∷ w ∷ ws)) (append_assoc inside (ends e ∷ after) rest) in
    let first = said i v (w ∷ ws) (ends e ∷ (after ++ rest)) in
    let plain : builds (with_piece w (says e attributes (both nothing p)) ∷ ws) (after ++ rest) ≡ builds (with_piece w (says e attributes p) ∷ ws) (after ++ rest)
    = ap (λ x. builds (with_piece w (says e attributes x) ∷ ws) (after ++ rest)) (nothing-both p) in
    let second = said r (with_piece w (says e attributes p)) ws rest in
    let last : builds (with_piece (with_piece w (says e attributes p)) q ∷ ws) rest ≡ builds (with_piece w (both (says e attributes p) q) ∷ ws) rest
    = ap (λ x. builds (record { attributes = w.attributes; piece = x } ∷ ws) rest) (both-assoc w.piece (says e attributes p) q) in
    regroup ∙ first ∙ plain ∙ second ∙ last

abbrev pub saying : Piece → List Work
saying p = record { attributes = []; piece = p } ∷ []

pub said_whole : (ms : List Mark) (q : Piece) → ElementsSay ms q → builds begun ms ≡ saying q
said_whole ms q h =
    ap (builds begun) (sym (append-nil ms)) ∙ said h (record { attributes = []; piece = nothing }) [] []
    ∙ ap (λ x. record { attributes = []; piece = x } ∷ []) (nothing-both q)

abbrev first_piece : List Work → Piece
first_piece [] = nothing
first_piece (w ∷ ws) = w.piece

piece_is : (p q : Piece) → saying p ≡ saying q → p ≡ q
piece_is p q e = ap first_piece e

pub one_piece : (ms : List Mark) (p q : Piece) → ElementsSay ms p → ElementsSay ms q → p ≡ q
one_piece ms p q h k = piece_is p q (sym (said_whole ms p h) ∙ said_whole ms q k)

pub builds-append : (ms ns : List Mark) (ws : List Work) → builds ws (ms ++ ns) ≡ builds (builds ws ms) ns
builds-append [] ns ws = refl
builds-append (m ∷ ms) ns ws = builds-append ms ns (build ws m)

-- ---- nested marks say something

record Cut (ms : List Mark) (a b : List Shape) : Type 0 where
  front : List Mark
  back : List Mark
  whole : ms ≡ front ++ back
  front_is : map shape front ≡ a
  back_is : map shape back ≡ b

cut : (a b : List Shape) (ms : List Mark) → map shape ms ≡ a ++ b → Cut ms a b
cut [] b ms e = record { front = []; back = ms; whole = refl; front_is = refl; back_is = e }
cut (s ∷ a) b [] e = absurd cc
cut (s ∷ a) b (m ∷ ms) e =
    let head : shape m ≡ s = cc in
    let tail : map shape ms ≡ a ++ b = cc in
    let c = cut a b ms tail in
    record { front = m ∷ c.front; back = c.back; whole = ap (λ x. m ∷ x) c.whole; front_is = ap (λ x. x ∷ map shape c.front) head ∙ ap (λ x. s ∷ x) c.front_is; back_is = c.back_is }

begins_is : (m : Mark) (e : Element) → shape m ≡ opens e → (attributes : List Attribute) × (m ≡ begins e attributes)
begins_is (begins f attributes) e h = let i : f ≡ e = cc in (attributes, ap (λ g. begins g attributes) i)
begins_is (ends f) e h = absurd cc
begins_is alien e h = absurd cc

ends_is : (m : Mark) (e : Element) → shape m ≡ closes e → m ≡ ends e
ends_is (begins f attributes) e h = absurd cc
ends_is (ends f) e h = let i : f ≡ e = cc in ap ends i
ends_is alien e h = absurd cc

no_marks : (ms : List Mark) → map shape ms ≡ [] → ms ≡ []
no_marks [] e = refl
no_marks (m ∷ ms) e = absurd cc

one_end : (ms : List Mark) (e : Element) → map shape ms ≡ closes e ∷ [] → ms ≡ ends e ∷ []
one_end [] e h = absurd cc
one_end (m ∷ ms) e h =
    let head : shape m ≡ closes e = cc in
    let tail : map shape ms ≡ [] = cc in
    ap (λ x. x ∷ ms) (ends_is m e head) ∙ ap (λ x. ends e ∷ x) (no_marks ms tail)

pub says_some : {ss : List Shape} {kinds : List Element} → Nodes ss kinds → (ms : List Mark) → map shape ms ≡ ss → (q : Piece) × ElementsSay ms q
says_some structure.none ms e = (nothing, subst (λ x. ElementsSay x nothing) (sym (no_marks ms e)) none)
says_some (structure.node {inside} {rest} f i fit r) [] e = absurd cc
says_some (structure.node {inside} {rest} f i fit r) (m ∷ ms) e =
    let head : shape m ≡ opens f = cc in
    let tail : map shape ms ≡ inside ++ (closes f ∷ rest) = cc in
    let b = begins_is m f head in
    let c = cut inside (closes f ∷ rest) ms tail in
    let d = cut (closes f ∷ []) rest c.back c.back_is in
    let p = says_some i c.front c.front_is in
    let q = says_some r d.back d.back_is in
    let closing : d.front ≡ ends f ∷ [] = one_end d.front f d.front_is in
    let whole : m ∷ ms ≡ begins f b.0 ∷ (c.front ++ (ends f ∷ d.back)) =
    ap (λ x. x ∷ ms) b.1 ∙ ap (λ x. begins f b.0 ∷ x) (c.whole ∙ ap (λ x. c.front ++ x) (d.whole ∙ ap (λ x. x ++ d.back) closing)) in
    (both (says f b.0 p.0) q.0, subst (λ x. ElementsSay x (both (says f b.0 p.0) q.0)) (sym whole) (node {inside = c.front} {rest = d.back} {p = p.0} {q = q.0} f b.0 p.1 q.1))
