-- A text that `split_once` cuts is cut at the first mark.
use Rattle.std.proofs.Common.{◌≡◌, ℕ, ◌+◌, ◌≤◌, List, ◌++◌, length, take, drop, Option, None, Some, refl, ap, ◌∙◌, arith}
use Rattle.std.specs.Prelude.{MatchOption}
use Rattle.std.specs.Borrow.{Bor}
use Rattle.std.specs.Str.Pattern.{FindsText}
use Rattle.std.proofs.lemmas.List.{drop_at}
use Rattle.std.proofs.lemmas.Str.Pattern.{split_text_parts}
use Rattle.messages.specs.Fields.{IsFreeOf}
use Rattle.messages.specs.private.Cuts.{IsFirstCut}

pub split_first : (mark text : List ℕ) (parts : Option (Bor (List ℕ) × Bor (List ℕ)))
    → MatchOption parts (FindsText mark text None) (λ x. (i : ℕ) × (j : ℕ) × FindsText mark text (Some (i, j))
    × (x.0.now ≡ take i text) × (x.1.now ≡ drop j text) × (i ≤ j) × (length x.0.now ≡ i) × (length x.1.now + j ≡ length text))
    → MatchOption parts (IsFreeOf text mark) (λ x. IsFirstCut mark text x.0.now x.1.now)
split_first mark text None found = split_text_parts mark text None found
split_first mark text (Some x) found = record {
  parts = split_text_parts mark text (Some x) found;
  first = λ before behind below is. found.2.0 (length before) (omega (arith, found.6)) behind
      (ap (drop (length before)) is ∙ drop_at before (mark ++ behind) (length before) refl);
}
