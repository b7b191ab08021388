use Rattle.std.proofs.Common.{◌≡◌, ◌++◌, ◌∙◌, ℕ, List, Bool, true, false, codes, refl, sym, ap}
use Rattle.std.specs.Prelude.{not}
use Rattle.std.specs.Str.{bytes_eq, trim_end}
use Rattle.std.proofs.lemmas.Slice.Eq.{bytes_eq-Decides}
use Rattle.trial_rows.proofs.rows.check_row.Goals as goal

not_false : (b : Bool) → false ≡ not b → b ≡ true
not_false true e = refl
not_false false e = cc

equal_texts : (a b : List ℕ) → false ≡ not (bytes_eq a b) → a ≡ b
equal_texts a b e = (bytes_eq-Decides a b).0 (not_false (bytes_eq a b) e)

pub returns : goal.returns
returns g c =
    let same = equal_texts c.trim_end.result.now c.in_ok-asked.wanted.now c.if-ne.ensures in
    let given = c.trim_end.ensures.trim ∙ ap trim_end c.as_str-2.ensures.value in
    record {
      asked = _;
      empty = _;
      written = _;
      called = rw c.in_ok-answer.was at c.answer.ensures;
      begins_empty = c.clear-2.ensures.bytes;
      front = c.in_ok-asked.asked.now;
      is = c.in_ok-asked.ensures ∙ ap (λ w. c.in_ok-asked.asked.now ++ (codes " => " ++ w)) (sym same ∙ given);
    }
