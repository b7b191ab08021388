-- Where the first line feed stands.
use Rattle.std.proofs.Common.{◌≡◌, ◌≢◌, ◌==◌, ℕ, zero, suc, ◌+◌, ◌-◌, ◌<◌, ◌≤◌, Bool, true, false, cond, inl, inr, List, [], ◌∷◌, ◌++◌, length, take, drop, get_or, refl, sym, ap, ◌∙◌, subst, arith, add-one}
use Rattle.std.specs.Prelude.{Some, None, position, nat_lt}
use Rattle.std.specs.List.{position_or_len}
use denote.Ref.{Bor}
use Rattle.std.proofs.Math.Seq.{drop-cons}
use Rattle.std.proofs.lemmas.Bool.{false≢true, eqb-true, lt-ltb, cases_lt}
use Rattle.std.proofs.lemmas.List.{take-append-drop, take_all, take_rest}
use Rattle.std.proofs.lemmas.List.Quantifiers.{position-Some}
use Rattle.std.proofs.lemmas.List.Sums.{fails_before_first}
use Rattle.payroll_records.specs.Tables.{Text}
use Rattle.saved_items.specs.private.LineViews.{Misses, IsLine, texts}

abbrev is_feed : ℕ → Bool
is_feed b = b == 10

other_byte : (b : ℕ) → (b == 10) ≡ false → b ≢ 10
other_byte b f e = let t = subst (λ (x : ℕ). (x == 10) ≡ false) e f in cc

misses_take : (bytes : Text) (n : ℕ) → ((k : ℕ) → k < n → is_feed (get_or bytes k 0) ≡ false) → Misses 10 (take n bytes)
misses_take bytes zero h = tt
misses_take [] (suc n) h = tt
misses_take (b ∷ bytes) (suc n) h = (
  other_byte b (h 0 (omega arith)),
  misses_take bytes n
      (λ k lt. h (suc k) (omega arith)),
)

no_place : (b : Bool) (n : ℕ) → cond b (Some n) None ≡ None → b ≡ false
no_place true n e = cc
no_place false n e = refl

pub no_feed : (bytes : Text) → position is_feed bytes ≡ None → Misses 10 bytes
no_feed bytes none =
    let off = no_place (nat_lt (position_or_len is_feed bytes) (length bytes)) _ none in
    subst (Misses 10) (take_all (length bytes) bytes (omega arith))
    (misses_take bytes (length bytes) (λ k lt. fails_before_first is_feed bytes k 0 (far off k lt)))
  where
    far : nat_lt (position_or_len is_feed bytes) (length bytes) ≡ false → (k : ℕ) → k < length bytes →
        k < position_or_len is_feed bytes
    far off k lt = elim (cases_lt (position_or_len is_feed bytes) (length bytes)) [
      | inl within ↦ absurd (false≢true (sym off ∙ lt-ltb _ _ within))
      | inr past ↦ omega (arith, past, lt)
    ]

pub feed_at : (bytes : Text) (at : ℕ) → position is_feed bytes ≡ Some at →
    IsLine bytes (take at bytes) (take (length bytes - (at + 1)) (drop (at + 1) bytes))
feed_at bytes at found =
    let seen = position-Some is_feed bytes at 0 found in
    let is = eqb-true (get_or bytes at 0) 10 seen.1 in
    record {
      cut = sym (take-append-drop at bytes) ∙ ap (λ x. take at bytes ++ x) (drop-cons bytes at 0 seen.0)
          ∙ ap (λ b. take at bytes ++ (b ∷ drop (suc at) bytes)) is
          ∙ ap (λ n. take at bytes ++ (10 ∷ drop n bytes)) (sym (add-one at))
          ∙ ap (λ x. take at bytes ++ (10 ∷ x)) (sym (take_rest bytes (at + 1)));
      ends = misses_take bytes at seen.2;
    }

pub behind_is : (words : List (Bor Text)) (d : Bor Text) (first : Text) → 1 ≤ length words →
    (get_or words 0 d).now ≡ first → texts words ≡ first ∷ texts (take (length words - 1) (drop 1 words))
behind_is [] d first some is = absurd (omega (arith, some))
behind_is (w ∷ ws) d first some is =
    let whole : take (length (w ∷ ws) - 1) ws ≡ ws = take_all (length (w ∷ ws) - 1) ws (omega arith) in
    ap (λ t. t ∷ texts ws) is ∙ ap (λ x. first ∷ texts x) (sym whole)
