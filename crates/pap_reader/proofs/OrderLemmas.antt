-- The tokens of a file stand in its order, each behind the one before.
use Rattle.std.proofs.Common.{◌≡◌, ℕ, ◌-◌, ◌<◌, ◌≤◌, inl, inr, List, [], ◌∷◌, length, map, ap, arith}
use Rattle.pap_reader.specs.Skipped.{IsAfterMark, IsAfterDeclaration, IsAfterProlog}
use Rattle.pap_reader.specs.Contents.{Token, remark, tagged, IsToken, Tells, nothing, white, token, AreTokens, token_byte, StandInOrder}
use Rattle.pap_reader.proofs.Decided.{past_shorter, passed_shorter, tag_shorter}
use Rattle.pap_reader.proofs.TokenLemmas.{comment_passed}

-- ---- what is left is shorter

mark_shorter : (bytes rest : List ℕ) → IsAfterMark bytes rest → length rest ≤ length bytes
mark_shorter bytes rest (inl is) = let l = ap length is in omega arith
mark_shorter bytes rest (inr none) = let l = ap length none.1 in omega arith

declaration_shorter : (bytes rest : List ℕ) → IsAfterDeclaration bytes rest → length rest ≤ length bytes
declaration_shorter bytes rest (inl some) =
    let l = ap length some.1 in let m = past_shorter some.2 in omega arith
declaration_shorter bytes rest (inr none) = let l = ap length none.1 in omega arith

prolog_shorter : (file body : List ℕ) → IsAfterProlog file body → length body ≤ length file
prolog_shorter file body p =
    let l = mark_shorter file p.0 p.1 in let m = declaration_shorter p.0 body p.2 in omega arith

token_shorter : (at : ℕ) (bytes rest : List ℕ) (t : Token) → IsToken at bytes t rest → length rest < length bytes
token_shorter at bytes rest (remark from inside) i = passed_shorter bytes rest (comment_passed bytes inside rest i.1)
token_shorter at bytes rest (tagged t) i = tag_shorter bytes t.tag rest i.1

-- ---- their order

token_there : (at : ℕ) (bytes rest : List ℕ) (t : Token) → IsToken at bytes t rest → token_byte t ≡ at
token_there at bytes rest (remark from inside) i = i.0
token_there at bytes rest (tagged t) i = i.0

pub order_from : (from at end : ℕ) (bytes : List ℕ) → from ≤ at → StandInOrder at bytes end → StandInOrder from bytes end
order_from from at end [] le h = tt
order_from from at end (b ∷ bytes) le h = ((let first = h.0 in omega arith), h.1)

order_told : {n : ℕ} {bytes rest : List ℕ} {ts : List Token} → Tells n bytes ts rest → length bytes ≤ n
    → StandInOrder (n - length bytes) (map token_byte ts) n
order_told nothing le = tt
order_told {n} (white {b} {next} {ts} w h) le =
    order_from (n - length (b ∷ next)) (n - length next) n (map token_byte ts) (omega arith) (order_told h (omega arith))
order_told {n} (token {bytes} {next} {ts} t i h) le =
    let there = token_there (n - length bytes) bytes next t i in
    let less = token_shorter (n - length bytes) bytes next t i in (
      omega arith,
      (
        omega arith,
        order_from (token_byte t) (n - length next) n (map token_byte ts) (omega arith) (order_told h (omega arith)),
      ),
    )

pub tokens_in_order : (file rest : List ℕ) (ts : List Token) → AreTokens file ts rest
    → StandInOrder 0 (map token_byte ts) (length file)
tokens_in_order file rest ts h =
    let body = h.read.body in
    order_from 0 (length file - length body) (length file) (map token_byte ts) (omega arith)
    (order_told h.read.tells (prolog_shorter file body h.read.prolog))
