-- Where the words of a reason turn to what helps.
use Rattle.std.proofs.Common.{◌≡◌, ℕ, ◌+◌, ◌<◌, not, if◌then◌else◌, List, [], ◌∷◌, ◌++◌, length, take, drop, get_or, refl, sym, ap, subst, ◌∙◌, arith, length-drop}
use Rattle.std.specs.Prelude.{◌==◌, codes}
use Rattle.std.proofs.lemmas.List.{take_more, get_or-drop, length-take-le, take-append-drop}
use Rattle.std.specs.Str.{IsCharBoundary, IsUtf8}
use Rattle.std.proofs.lemmas.Str.{IsCharBoundary-after_ascii}
use Rattle.messages.specs.Turns.{is_quoted, IsFirstTurn, IsTurn}

-- one byte more opens or ends a quotation where it is a backtick
pub quoted_push : (bytes : List ℕ) (byte : ℕ)
    → is_quoted (bytes ++ byte ∷ []) ≡ (if byte == 0x60 then not (is_quoted bytes) else is_quoted bytes)
quoted_push [] byte = refl
quoted_push (first ∷ rest) byte = grind (arith, quoted_push rest byte)

-- the same of the bytes of a text so far
pub quoted_more : (reason : List ℕ) (at : ℕ) → at < length reason
    → is_quoted (take (at + 1) reason)
    ≡ (if get_or reason at 0 == 0x60 then not (is_quoted (take at reason)) else is_quoted (take at reason))
quoted_more reason at within = ap is_quoted (take_more reason at 0 within) ∙ quoted_push (take at reason) (get_or reason at 0)

-- a turn begins with a semicolon within the text
pub turn_begins : (reason : List ℕ) (at : ℕ) → IsTurn reason at → get_or reason at 0 ≡ 0x3B
turn_begins reason at turn =
    let same : at + 0 ≡ at = omega arith in
    sym (ap (λ k. get_or reason k 0) same) ∙ sym (get_or-drop at reason 0 0) ∙ ap (λ rest. get_or rest 0 0) turn.mark

-- and goes on with a space
pub turn_goes_on : (reason : List ℕ) (at : ℕ) → IsTurn reason at → get_or reason (at + 1) 0 ≡ 0x20
turn_goes_on reason at turn = sym (get_or-drop at reason 1 0) ∙ ap (λ rest. get_or rest 1 0) turn.mark

-- both stand within the text
pub turn_ends_within : (reason : List ℕ) (at : ℕ) → IsTurn reason at → at + 1 < length reason
turn_ends_within reason at turn = omega (arith, length-drop at reason, ap length turn.mark)

pub turn_within : (reason : List ℕ) (at : ℕ) → IsTurn reason at → at < length reason
turn_within reason at turn = omega (arith, length-drop at reason, ap length turn.mark)

-- a reason is what stands before a turn, a semicolon and a space, and what stands behind them
pub turn_parts : (reason : List ℕ) (at : ℕ) → IsTurn reason at
    → reason ≡ take at reason ++ (codes "; " ++ drop (at + 2) reason)
turn_parts reason at turn = sym (take-append-drop at reason) ∙ ap (λ rest. take at reason ++ rest) turn.mark

-- so it is cut at its first turn
pub cut_at_turn : (reason : List ℕ) (at : ℕ) → at < length reason → IsFirstTurn reason at
    → IsFirstTurn (take at reason ++ (codes "; " ++ drop (at + 2) reason)) (length (take at reason))
cut_at_turn reason at within first =
    subst (λ words. IsFirstTurn words (length (take at reason))) (turn_parts reason at first.turn)
    (subst (IsFirstTurn reason) (sym (length-take-le at reason (omega arith))) first)

-- behind a turn a character begins
pub boundary_behind : (reason : List ℕ) (at : ℕ) → IsUtf8 reason → IsTurn reason at → IsCharBoundary reason (at + 2)
boundary_behind reason at utf8 turn =
    let space : get_or reason (at + 1) 0 < 128 = omega (arith, turn_goes_on reason at turn) in
    let same : at + 1 + 1 ≡ at + 2 = omega arith in
    subst (IsCharBoundary reason) same
    (IsCharBoundary-after_ascii reason (at + 1) utf8 (turn_ends_within reason at turn) space)
