-- The laws of words, for crates above.
use Rattle.std.proofs.Common.{◌≡◌, ℕ, ◌+◌, inl, inr, List, length, drop, ap, sym, ◌∙◌, arith}
use Rattle.plain_words.specs.Strays.{IsStray, IsStrayAt, IsStopByte}
use Rattle.plain_words.proofs.StopLemmas.{one_value}

-- A tag has at most one sign in a value at which it stops.
pub one_stray : (tag a b : List ℕ) → IsStray tag a → IsStray tag b → a ≡ b
one_stray tag a b h k = (one_value tag h.quote k.quote h.text k.text a b h.stops k.stops).same_left

-- What isn't read is shown at one byte.
pub one_stop : (plan : List ℕ) (at a b : ℕ) → IsStopByte plan at a → IsStopByte plan at b → a ≡ b
one_stop plan at a b (inl h) (inl k) =
    let same = ap length (one_stray (drop at plan) h.left k.left h.stray k.stray) in
    let first = h.place in
    let second = k.place in
    omega arith
one_stop plan at a b (inl h) (inr k) = absurd (k.1 a h)
one_stop plan at a b (inr h) (inl k) = absurd (h.1 b k)
one_stop plan at a b (inr h) (inr k) = h.0 ∙ sym k.0
