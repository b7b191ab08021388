use Rattle.std.proofs.Common.{◌≡◌, ◌≤◌, ◌<◌, length, drop, ℕ, ◌-◌, not, true, false, List, get_or, ap, sym, ◌∙◌, arith}
use Rattle.std.proofs.lemmas.List.Sums.{suffix_len_is}
use Rattle.std.specs.List.{after_last, suffix_len}
use Rattle.plain_words.specs.Positions.{is_line_feed}
use Rattle.plain_words.proofs.counting.line_start.Goals as goal

-- the part behind the last line feed, by where it begins
last_line_from : (bytes : List ℕ) (n : ℕ) → n ≤ length bytes
    → ((k : ℕ) → n ≤ k → k < length bytes → is_line_feed (get_or bytes k 0) ≡ false)
    → (0 < n → is_line_feed (get_or bytes (n - 1) 0) ≡ true) → drop n bytes ≡ after_last is_line_feed bytes
last_line_from bytes n within none last =
    let behind : suffix_len (λ b. not (is_line_feed b)) bytes ≡ length bytes - n =
    suffix_len_is _ bytes n 0 within (λ k above below. ap not (none k above below)) (λ some. ap not (last some)) in
    let front : n ≡ length bytes - (length bytes - n) = omega arith in
    ap (λ m. drop m bytes) front ∙ ap (λ m. drop (length bytes - m) bytes) (sym behind)

pub returns-clause-start : goal.returns-clause-start
returns-clause-start c =
    last_line_from _ _ (omega arith)
    (λ k above below. c.loop-i.invariant.none k above (omega arith))
    c.loop-i.invariant.last
