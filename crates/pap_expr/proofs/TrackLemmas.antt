-- The track when a frame is opened or taken.
use Rattle.std.proofs.Common.{◌≡◌, ℕ, zero, suc, ◌-◌, ◌<◌, true, false, cond, Result, Ok, Err, IfOk, Bor, List, [], ◌∷◌, ◌++◌, refl, sym, ap, ◌∙◌, arith}
use Rattle.expr_grammar.specs.Machine.{closes, binds}
use Rattle.pap_expr.specs.declared.fault.ExprFault.{ExprFault}
use Rattle.pap_expr.specs.declared.frame.Frame.{Frame}
use Rattle.pap_expr.specs.NodeBytes.{is_white_at, black_end}
use Rattle.pap_expr.specs.private.Frames.{frame_of, frames_of}
use Rattle.pap_expr.proofs.FrameLemmas.{pushed}
use Rattle.pap_expr.specs.declared.stretch.Stretch.{Stretch}
use Rattle.pap_expr.specs.private.Tracks.{Track, inner_first, opened, taken, noted, close_track}
use Rattle.pap_expr.proofs.Closing.{track}

-- the innermost stands last
inner_more : (bs : List ℕ) (b : ℕ) → inner_first (bs ++ (b ∷ [])) ≡ b ∷ inner_first bs
inner_more [] b = refl
inner_more (c ∷ bs) b = ap (λ z. z ++ (c ∷ [])) (inner_more bs b)

pub open_track : (bs cs : List ℕ) (first end : ℕ) (made : List Stretch) → cs ≡ bs ++ (first ∷ []) → track (inner_first cs) first end made ≡ opened (track (inner_first bs) first end made)
open_track bs cs first end made e = ap (λ z. track z first end made) (ap inner_first e ∙ inner_more bs first)

pub take_track : (bs cs : List ℕ) (b first end : ℕ) (made : List Stretch) → bs ≡ cs ++ (b ∷ []) → track (inner_first cs) b end made ≡ taken (track (inner_first bs) first end made)
take_track bs cs b first end made e = sym (ap (λ z. taken (track z first end made)) (ap inner_first e ∙ inner_more cs b))

-- ---- the frames that are closed

pub close_none : (n : ℕ) (fs : List Frame) (r : Track) → fs ≡ [] → close_track n (frames_of fs) r ≡ (r, frames_of fs)
close_none n fs r e = ap (λ z. close_track n (frames_of z) r) e ∙ sym (ap (λ z. (r, frames_of z)) e)

last_first : (fs outer : List Frame) (f : Frame) → fs ≡ outer ++ (f ∷ []) → frames_of fs ≡ frame_of f ∷ frames_of outer
last_first fs outer f e = ap frames_of e ∙ pushed outer f

pub close_off : (n : ℕ) (fs outer : List Frame) (f : Frame) (r : Track) → fs ≡ outer ++ (f ∷ []) → closes n (binds (frame_of f)) ≡ false → close_track n (frames_of fs) r ≡ (r, frames_of fs)
close_off n fs outer f r e off =
    let g = last_first fs outer f e in
    let k = frames_of outer in
    ap (λ z. close_track n z r) g ∙ ap (λ c. cond c (close_track n k (noted r.end (taken r))) (r, frame_of f ∷ k)) off ∙ sym (ap (λ z. (r, z)) g)

pub close_on : (n : ℕ) (fs outer : List Frame) (f : Frame) (r : Track) → fs ≡ outer ++ (f ∷ []) → closes n (binds (frame_of f)) ≡ true
    → close_track n (frames_of fs) r ≡ close_track n (frames_of outer) (noted r.end (taken r))
close_on n fs outer f r e on =
    let g = last_first fs outer f e in
    let k = frames_of outer in
    ap (λ z. close_track n z r) g ∙ ap (λ c. cond c (close_track n k (noted r.end (taken r))) (r, frame_of f ∷ k)) on

-- ---- white space

pub still_white : (bytes : List ℕ) (end : ℕ) → 0 < end → is_white_at bytes (end - 1) ≡ true → black_end bytes end ≡ black_end bytes (end - 1)
still_white bytes zero lt e = absurd (omega (arith, lt))
still_white bytes (suc n) lt e =
    let d : suc n - 1 ≡ n = omega arith in
    let g : is_white_at bytes n ≡ true = sym (ap (is_white_at bytes) d) ∙ e in
    ap (λ c. cond c (black_end bytes n) (suc n)) g ∙ sym (ap (black_end bytes) d)

pub not_white : (bytes : List ℕ) (end : ℕ) → 0 < end → is_white_at bytes (end - 1) ≡ false → black_end bytes end ≡ end
not_white bytes zero lt e = absurd (omega (arith, lt))
not_white bytes (suc n) lt e =
    let d : suc n - 1 ≡ n = omega arith in
    let g : is_white_at bytes n ≡ false = sym (ap (is_white_at bytes) d) ∙ e in
    ap (λ c. cond c (black_end bytes n) (suc n)) g

same_end : (bs : List ℕ) (first end : ℕ) (made : List Stretch) → (taken (track bs first end made)).end ≡ end
same_end [] first end made = refl
same_end (b ∷ bs) first end made = refl

-- the outer frames are closed too
pub closed_by : (n : ℕ) (fs outer : List Frame) (f : Frame) (r s t u : Track) (left : Result (Bor (List Frame)) ExprFault) → fs ≡ outer ++ (f ∷ []) → closes n (binds (frame_of f)) ≡ true
    → s ≡ taken r → t ≡ noted s.end s → IfOk left (λ left. close_track n (frames_of outer) t ≡ (u, frames_of left.now)) → IfOk left (λ left. close_track n (frames_of fs) r ≡ (u, frames_of left.now))
closed_by n fs outer f r s t u (Ok left) e on es et h =
    let made : t ≡ noted r.end (taken r) = et ∙ ap (λ z. noted z.end z) es ∙ ap (λ z. noted z (taken r)) (same_end r.begins r.first r.end r.made) in
    close_on n fs outer f r e on ∙ sym (ap (close_track n (frames_of outer)) made) ∙ h
closed_by n fs outer f r s t u (Err x) e on es et h = tt
