-- A word that names a file is text.
use Rattle.std.proofs.Common.{◌≡◌, ℕ, zero, suc, ◌<◌, Bool, true, false, List, [], ◌∷◌, get_or, arith, refl, sym}
use Rattle.std.specs.Prelude.{◌&&◌, IsTrue, Result, Ok, Err, Option, MatchResult, MatchOption}
use Rattle.std.specs.List.{list_all}
use Rattle.std.specs.Result.{result_ok}
use denote.Ref.{Bor}
use Rattle.std.specs.Str.{IsUtf8}
use Rattle.std.proofs.lemmas.Bool.{leb-true}
use Rattle.std.proofs.lemmas.Str.{IsUtf8-from_ascii}
use Rattle.script_lang.specs.Words.{is_file, is_visible}

pub and_first : (a b : Bool) → (a && b) ≡ true → a ≡ true
and_first true b h = cc
and_first false b h = cc

pub and_second : (a b : Bool) → (a && b) ≡ true → b ≡ true
and_second true b h = h
and_second false b h = cc

pub both_true : (a b : Bool) → IsTrue a → IsTrue b → IsTrue (a && b)
both_true true true h k = refl
both_true true false h k = k
both_true false b h k = h

visible_ascii : (bs : List ℕ) → list_all is_visible bs ≡ true → (i : ℕ) → get_or bs i 0 < 128
visible_ascii [] h i = omega arith
visible_ascii (b ∷ bs) h zero = let small = leb-true b 126 (and_second _ _ (and_first _ _ h)) in omega arith
visible_ascii (b ∷ bs) h (suc i) = visible_ascii bs (and_second _ _ h) i

pub file_is_text : (word : List ℕ) → IsTrue (is_file word) → IsUtf8 word
file_is_text word h = IsUtf8-from_ascii word (visible_ascii word (and_second _ _ h))

-- its bytes are read as text
pub file_read : {E : Type 0} (Q : E → Type 0) (word : List ℕ) (r : Result (Bor (List ℕ)) E) (o : Option (Bor (List ℕ))) → o ≡ result_ok r →
    MatchResult r (λ s. (s.now ≡ word) × IsUtf8 word) (λ e. ¬ (IsUtf8 word) × Q e) → true ≡ is_file word →
    MatchOption o (is_file word ≡ false) (λ name. (name.now ≡ word) × IsTrue (is_file word))
file_read Q word (Ok s) o e h is = rw e (h.0, sym is)
file_read Q word (Err f) o e h is = absurd (h.0 (file_is_text word (sym is)))
