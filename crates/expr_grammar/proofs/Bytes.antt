-- The laws of tokens as laws of bytes, where each text has one list of tokens.
use Rattle.std.proofs.Common.{◌≡◌, ℕ, ◌⊎◌, inl, inr, List, subst, length}
use Rattle.pap_tree.specs.Tokens.{Spot, plain, Tokens}
use Rattle.pap_tree.specs.Grammar.{Line, LineMeaning}
use Rattle.pap_tree.specs.Texts.{Derives}
use Rattle.pap_tree.specs.Stopping.{Cause, IsRead, IsRefusedAt}
use Rattle.pap_tree.specs.Expressions.{IsText, IsAccepted, IsWrong}
use Rattle.expr_grammar.specs.Lines.{IsWholeLine}
use Rattle.expr_grammar.specs.GrammarLaws.{IsTakenAs}
use Rattle.expr_grammar.proofs.Decided.{one_meaning, text_or_refusal, one_refusal, one_of_two}

-- a text has one list of tokens at most, and one at least
abbrev pub HasOneReading : Type 0
HasOneReading = (bytes : List ℕ) (a b : List Spot) → Tokens 0 bytes a → Tokens 0 bytes b → a ≡ b

abbrev pub HasReading : Type 0
HasReading = (bytes : List ℕ) → (ts : List Spot) × Tokens 0 bytes ts

pub one_text : HasOneReading → (l : Line) → IsWholeLine l → (bytes : List ℕ) (x y : LineMeaning) → IsText l bytes x → IsText l bytes y → x ≡ y
one_text one l w bytes x y h k =
    let e = one bytes h.spots k.spots h.tokens k.tokens in
    one_meaning l w (plain k.spots) x y (subst (λ ts. Derives l (plain ts) x) e h.text) k.text

pub accepted_or_wrong : HasOneReading → (l : Line) → IsWholeLine l → (bytes : List ℕ) (x : LineMeaning) (c : Cause) (at : ℕ) → IsAccepted l bytes x → IsWrong l bytes c at → ⊥
accepted_or_wrong one l w bytes x c at h k =
    let e = one bytes h.spots k.spots h.tokens k.tokens in
    text_or_refusal l k.spots (length bytes) x c at (subst (λ ts. Derives l (plain ts) x) e h.text) (subst (λ ts. IsRead l (plain ts)) e h.read) k.refused

pub one_wrong : HasOneReading → (l : Line) → IsWholeLine l → (bytes : List ℕ) (c d : Cause) (m n : ℕ) → IsWrong l bytes c m → IsWrong l bytes d n → (c ≡ d) × (m ≡ n)
one_wrong one l w bytes c d m n h k =
    let e = one bytes h.spots k.spots h.tokens k.tokens in
    one_refusal l k.spots (length bytes) c d m n (subst (λ ts. IsRefusedAt l ts (length bytes) c m) e h.refused) k.refused

said : (l : Line) (bytes : List ℕ) (ts : List Spot) → Tokens 0 bytes ts → ((x : LineMeaning) × IsTakenAs l ts x) ⊎ ((c : Cause) × (at : ℕ) × IsRefusedAt l ts (length bytes) c at)
    → ((x : LineMeaning) × IsAccepted l bytes x) ⊎ ((c : Cause) × (at : ℕ) × IsWrong l bytes c at)
said l bytes ts t (inl h) = inl (h.0, record { spots = ts; tokens = t; text = h.1.0; read = h.1.1 })
said l bytes ts t (inr h) = inr (h.0, h.1, record { spots = ts; tokens = t; refused = h.2 })

pub always_said : HasReading → (l : Line) → IsWholeLine l → (bytes : List ℕ) → ((x : LineMeaning) × IsAccepted l bytes x) ⊎ ((c : Cause) × (at : ℕ) × IsWrong l bytes c at)
always_said some l w bytes = let r = some bytes in said l bytes r.0 r.1 (one_of_two l w (length bytes) r.0)
