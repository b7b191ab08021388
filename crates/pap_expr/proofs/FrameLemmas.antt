-- A frame on the stack, and the frame that binds.
use Rattle.std.proofs.Common.{◌≡◌, ℕ, ◌+◌, ◌-◌, ◌<◌, ◌≤◌, true, false, cond, Option, Some, None, List, [], ◌∷◌, ◌++◌, length, take, get_or, Bor, IfSome, MatchOption, refl, sym, ap, ◌∙◌, arith}
use Rattle.std.proofs.lemmas.List.{nil_from_length, take_more, take_all}
use Rattle.pap_tree.specs.Term.{Term}
use Rattle.expr_grammar.specs.Machine as machine
use Rattle.expr_grammar.specs.Machine.{close, closes, binds, made}
use Rattle.pap_expr.specs.declared.frame.Frame.{Frame}
use Rattle.pap_expr.specs.private.Frames.{frame_of, frames_of}

-- the innermost frame stands last
pub pushed : (fs : List Frame) (f : Frame) → frames_of (fs ++ (f ∷ [])) ≡ frame_of f ∷ frames_of fs
pushed [] f = refl
pushed (g ∷ fs) f = ap (λ ms. ms ++ (frame_of g ∷ [])) (pushed fs f)

-- so the last of some frames is the innermost
pub innermost : (fs : List Frame) (n : ℕ) (f : Frame) → fs ≡ take n fs ++ (f ∷ []) → frames_of fs ≡ frame_of f ∷ frames_of (take n fs)
innermost fs n f e = ap frames_of e ∙ pushed (take n fs) f

-- a frame that doesn't bind so tightly stays
pub stays : (n : ℕ) (x : Term) (m : machine.Frame) (k : List machine.Frame) → closes n (binds m) ≡ false → close n x (m ∷ k) ≡ (x, m ∷ k)
stays n x m k e = ap (λ c. cond c (close n (made m x) k) (x, m ∷ k)) e

pub closed : (n : ℕ) (x : Term) (m : machine.Frame) (k : List machine.Frame) → closes n (binds m) ≡ true → close n x (m ∷ k) ≡ close n (made m x) k
closed n x m k e = ap (λ c. cond c (close n (made m x) k) (x, m ∷ k)) e

last_parts : (fs : List Frame) (f : Frame) → 0 < length fs → f ≡ get_or fs (length fs - 1) f → fs ≡ take (length fs - 1) fs ++ (f ∷ [])
last_parts fs f lt e =
    let n : ℕ = length fs - 1 in
    let more : take (n + 1) fs ≡ take n fs ++ (get_or fs n f ∷ []) = take_more fs n f (omega arith) in
    let all : take (n + 1) fs ≡ fs = take_all (n + 1) fs (omega arith) in
    sym all ∙ more ∙ ap (λ g. take n fs ++ (g ∷ [])) (sym e)

-- what `last` gives is the innermost frame
pub top_is : (fs : List Frame) (P : Bor Frame → Type 0) (r : Option (Bor Frame)) → IfSome r (λ x. x.now ≡ get_or fs (length fs - 1) x.now) → MatchOption r (length fs ≤ 0) (λ x. (0 < length fs) × P x)
    → MatchOption r (frames_of fs ≡ []) (λ f. (k : List machine.Frame) × (frames_of fs ≡ frame_of f.now ∷ k))
top_is fs P None h m = ap frames_of (nil_from_length fs (omega arith))
top_is fs P (Some f) h m = (frames_of (take (length fs - 1) fs), innermost fs (length fs - 1) f.now (last_parts fs f.now m.0 h))
