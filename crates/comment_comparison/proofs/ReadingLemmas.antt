-- The comments among a file's tokens, one token after the other.
use Rattle.std.proofs.Common.{◌≡◌, ℕ, zero, suc, ◌+◌, ◌-◌, ◌≤◌, List, [], ◌∷◌, ◌++◌, length, take, drop, cond, refl, sym, ap, subst, ◌∙◌, arith}
use Rattle.std.specs.List.{flat_map, sum_by, count_by}
use Rattle.std.proofs.lemmas.List.{append-nil, append_assoc}
use Rattle.std.proofs.lemmas.List.Sums.{sum_by-append, count_by-le-length}
use Rattle.pap_reader.specs.Contents.{Token, remark, tagged, Tells, nothing, token, AreTokens}
use Rattle.pap_reader.specs.Contents as contents
use Rattle.plain_words.specs.Positions.{is_line_feed, line_of}
use Rattle.plan_notes.specs.Lines.{line_text}
use Rattle.comment_comparison.specs.Comments.{LineComment, line_comment, found_comment, HasPassed, prolog, white, comment, tag, HasComments}

-- ---- the comments among tokens

abbrev pub comment_in : List ℕ → Token → List LineComment
comment_in file (remark at inside) = line_comment (line_of file at) (line_text inside) ∷ []
comment_in file (tagged t) = []

abbrev pub comments_in : List ℕ → List Token → List LineComment
comments_in file ts = flat_map (comment_in file) ts

-- those before some tokens, and then those among them
passed_told : (file : List ℕ) (n : ℕ) {bytes rest : List ℕ} {ts : List Token} (cs : List LineComment) → n ≡ length file
    → HasPassed file cs bytes → Tells n bytes ts rest → HasPassed file (cs ++ comments_in file ts) rest
passed_told file n {bytes} cs e h nothing = subst (λ z. HasPassed file z bytes) (sym (append-nil cs)) h
passed_told file n cs e h (contents.white w t) = passed_told file n cs e (white h w) t
passed_told file n {rest} cs e h (token {bytes} {ts} (remark at inside) i t) =
    let there : length file - length bytes ≡ at = sym (i.0 ∙ ap (λ m. m - length bytes) e) in
    let found : LineComment = found_comment file bytes inside in
    subst (λ z. HasPassed file z rest)
    (append_assoc cs (found ∷ []) (comments_in file ts)
    ∙ ap (λ place. cs ++ (line_comment (line_of file place) (line_text inside) ∷ comments_in file ts)) there)
    (passed_told file n (cs ++ (found ∷ [])) e (comment h i.1) t)
passed_told file n cs e h (token (tagged u) i t) = passed_told file n cs e (tag u.tag h i.1) t

pub comments_whole : (file rest : List ℕ) (ts : List Token) (comments : List LineComment) → AreTokens file ts rest
    → comments ≡ comments_in file ts → HasComments file comments
comments_whole file rest ts comments h e = subst (HasComments file) (sym e) (record {
  rest = rest;
  passed = passed_told file (length file) [] refl (prolog h.read.prolog) h.read.tells;
  ended = h.ended;
})

-- ---- lines

abbrev no_bytes : List ℕ
no_bytes = []

take_nil : (n : ℕ) → take n no_bytes ≡ no_bytes
take_nil zero = refl
take_nil (suc n) = refl

take_two : (from more : ℕ) (xs : List ℕ) → take (from + more) xs ≡ take from xs ++ take more (drop from xs)
take_two zero more xs = let e : 0 + more ≡ more = omega arith in ap (λ n. take n xs) e
take_two (suc from) more [] =
    let e : suc from + more ≡ suc (from + more) = omega arith in
    ap (λ n. take n []) e ∙ sym (take_nil more)
take_two (suc from) more (x ∷ xs) =
    let e : suc from + more ≡ suc (from + more) = omega arith in
    ap (λ n. take n (x ∷ xs)) e ∙ ap (λ l. x ∷ l) (take_two from more xs)

moved_one : (a b : ℕ) → a + b + 1 ≡ a + 1 + b
moved_one a b = omega arith

-- the line of a later byte
pub line_counted : (file : List ℕ) (from to : ℕ) → from ≤ to
    → line_of file from + count_by is_line_feed (take (to - from) (drop from file)) ≡ line_of file to
line_counted file from to le =
    let feed : ℕ → ℕ = λ b. cond (is_line_feed b) 1 0 in
    let e : to ≡ from + (to - from) = omega (arith, le) in
    let sums = ap (sum_by feed) (ap (λ n. take n file) e ∙ take_two from (to - from) file)
    ∙ sum_by-append feed (take from file) (take (to - from) (drop from file)) in
    sym (ap (λ n. n + 1) sums ∙ moved_one (sum_by feed (take from file)) (sum_by feed (take (to - from) (drop from file))))

few_taken : (n : ℕ) (xs : List ℕ) → length (take n xs) ≤ length xs
few_taken zero xs = omega arith
few_taken (suc n) [] = omega arith
few_taken (suc n) (x ∷ xs) = let h = few_taken n xs in omega (arith, h)

pub few_lines : (file : List ℕ) (at : ℕ) → line_of file at ≤ length file + 1
few_lines file at =
    let few = count_by-le-length is_line_feed (take at file) in
    let short = few_taken at file in
    omega (arith, few, short)
