-- The trail of a reading, from its first token to its last.
use Rattle.std.proofs.Common.{◌≡◌, ℕ, Bool, true, Option, Some, None, Result, Ok, Err, IfOk, List, [], ◌∷◌, ◌++◌, length, refl, sym, ap, subst, ◌∙◌, append_assoc}
use Rattle.std.proofs.lemmas.List.{append-nil}
use Rattle.std.specs.Prelude.{IsTrue}
use Rattle.pap_tree.specs.Names.{is_name}
use Rattle.pap_tree.specs.Tokens.{Spot, Word, Mark, Equals, Tokens}
use Rattle.pap_tree.specs.Grammar.{LineMeaning}
use Rattle.pap_tree.specs.declared.name.Name.{Name}
use Rattle.expr_tokens.specs.declared.token.Placed.{Placed}
use Rattle.expr_tokens.specs.Spots.{token_of, spot_of, spots_of}
use Rattle.expr_grammar.specs.Machine.{State, Want, step, finish}
use Rattle.pap_expr.specs.declared.fault.ExprFault.{ExprFault}
use Rattle.pap_expr.specs.declared.reading.Reading.{Reading}
use Rattle.pap_expr.specs.declared.stretch.Stretch.{Stretch}
use Rattle.pap_expr.specs.declared.trail.Trail.{Trail}
use Rattle.pap_expr.specs.NodeBytes.{PlacedToken, StandsOn, HaveBytes, stretch, black_end, next_place, placed_tokens}
use Rattle.pap_expr.specs.private.Answers.{base_of, meaning_of}
use Rattle.pap_expr.specs.private.Tracks.{track_of, no_track, next_track, last_track}
use Rattle.pap_expr.specs.private.Traces.{IsBefore, Traces}
use Rattle.pap_expr.proofs.Holding.{Holds}
use Rattle.pap_expr.proofs.Closing.{last_holds}
use Rattle.pap_expr.proofs.Following.{step_holds}

-- these tokens are left, and of those before them the trail tells where the nodes stand
abbrev pub Traced : Trail → List PlacedToken → State → Trail → List Spot → Type 0
Traced old tokens s new left =
    old.is_kept ≡ true → track_of old ≡ no_track → (a : List PlacedToken) × (tokens ≡ a ++ placed_tokens old.text.now left) × Holds s (track_of new) a

base_holds : (target : Option Name) (before : List PlacedToken) → IsBefore target before → Holds (Want (base_of target)) no_track before
base_holds None before h = (refl, h, refl)
base_holds (Some w) before h = (refl, refl, h.0, refl, h.1)

pub traced_start : (old : Trail) (target : Option Name) (before : List PlacedToken) (left : List Spot) → IsBefore target before
    → Traced old (before ++ placed_tokens old.text.now left) (Want (base_of target)) old left
traced_start old target before left h k e = (before, refl, subst (λ r. Holds (Want (base_of target)) r before) (sym e) (base_holds target before h))

pub traced_at : (old : Trail) (tokens : List PlacedToken) (s : State) (new : Trail) (left rest : List Placed) (x : Placed) → left ≡ x ∷ rest → Traced old tokens s new (spots_of left)
    → Traced old tokens s new (spot_of x ∷ spots_of rest)
traced_at old tokens s new left rest x e t = subst (λ (z : List Placed). Traced old tokens s new (spots_of z)) e t

pub traced_none : (old : Trail) (tokens : List PlacedToken) (s : State) (new : Trail) (left : List Placed) → left ≡ [] → Traced old tokens s new (spots_of left) → Traced old tokens s new []
traced_none old tokens s new left e t = subst (λ (z : List Placed). Traced old tokens s new (spots_of z)) e t

pub traced_more : (old : Trail) (tokens : List PlacedToken) (s st : State) (new newer : Trail) (x : Placed) (rest : List Spot) → Traced old tokens s new (spot_of x ∷ rest)
    → step s (token_of x.token) ≡ Some st → new.text ≡ old.text → new.is_kept ≡ old.is_kept
    → (new.is_kept ≡ true → track_of newer ≡ next_track s (token_of x.token) (stretch x.at (black_end new.text.now (next_place (length new.text.now) rest))) (track_of new))
    → Traced old tokens st newer rest
traced_more old tokens s st new newer x rest t q te ke n k e =
    let (a, f, h) = t k e in
    let on : List ℕ → Stretch = λ text. stretch x.at (black_end text (next_place (length text) rest)) in
    let y : PlacedToken = record { token = token_of x.token; on = on old.text.now } in
    let now : track_of newer ≡ next_track s (token_of x.token) (on old.text.now) (track_of new) = n (ke ∙ k) ∙ ap (λ text. next_track s (token_of x.token) (on text.now) (track_of new)) te in
    (a ++ (y ∷ []), f ∙ sym (append_assoc a (y ∷ []) (placed_tokens old.text.now rest)), subst (λ r. Holds st r (a ++ (y ∷ []))) (sym now) (step_holds s (token_of x.token) st (track_of new) a y refl h q))

pub traced_end : (old : Trail) (tokens : List PlacedToken) (s : State) (new last : Trail) (x : LineMeaning) → Traced old tokens s new [] → finish s ≡ Some x → new.is_kept ≡ old.is_kept
    → (new.is_kept ≡ true → track_of last ≡ last_track s (track_of new)) → old.is_kept ≡ true → track_of old ≡ no_track → StandsOn tokens x last.made.items
traced_end old tokens s new last x t q ke n k e =
    let (a, f, h) = t k e in
    let made : last.made.items ≡ (last_track s (track_of new)).made = ap (λ r. r.made) (n (ke ∙ k)) in
    subst (λ z. StandsOn z x last.made.items) (sym (f ∙ append-nil a)) (subst (λ z. StandsOn a x z) (sym made) (last_holds s x (track_of new) a h q))

-- the tokens of an assignment are its target, `=`, and those that are read behind them
pub traced_tail : (old new : Trail) (w : Name) (front behind rest : List Placed) (x y : Placed) (r : Result Reading ExprFault) → front ≡ x ∷ behind → behind ≡ y ∷ rest → IsTrue (is_name w)
    → token_of x.token ≡ Word w → token_of y.token ≡ Mark Equals
    → ((before : List PlacedToken) → IsBefore (Some w) before → Traces old (before ++ placed_tokens old.text.now (spots_of rest)) new r)
    → Traces old (placed_tokens old.text.now (spots_of front)) new r
traced_tail old new w front behind rest x y r e f name is equals h =
    let text = old.text.now in
    let all : front ≡ x ∷ y ∷ rest = e ∙ ap (λ z. x ∷ z) f in
    let s : PlacedToken = record { token = token_of x.token; on = stretch x.at (black_end text y.at) } in
    let t : PlacedToken = record { token = token_of y.token; on = stretch y.at (black_end text (next_place (length text) (spots_of rest))) } in
    subst (λ (z : List Placed). Traces old (placed_tokens text (spots_of z)) new r) (sym all) (h (s ∷ t ∷ []) (name, (s, t, refl, is, equals)))

-- what is never read tells nothing
pub no_reading : (r : Result Reading ExprFault) (P : Reading → Type 0) → IfOk r (λ _. ⊥) → IfOk r P
no_reading (Ok x) P h = absurd h
no_reading (Err e) P h = tt

-- the bytes of the nodes of a text that is read, where its trail is kept
pub have_bytes : (bytes : List ℕ) (spots : List Spot) (old new : Trail) (kept : Bool) (x : Reading) (made : List Stretch) → Tokens 0 bytes spots → old.text.now ≡ bytes → track_of old ≡ no_track
    → old.is_kept ≡ kept → new.made.items ≡ made → Traces old (placed_tokens old.text.now spots) new (Ok x) → kept ≡ true → HaveBytes bytes (meaning_of x) made
have_bytes bytes spots old new kept x made t te ne ke me h k = record {
  spots = spots;
  tokens = t;
  stands = subst (λ z. StandsOn (placed_tokens bytes spots) (meaning_of x) z) me (subst (λ b. StandsOn (placed_tokens b spots) (meaning_of x) new.made.items) te (h (ke ∙ k) ne));
}
