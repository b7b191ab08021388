use Rattle.std.proofs.Common.{◌+◌, ◌++◌, ◌∙◌, ℕ, List, ap, drop}
use Rattle.std.specs.Prelude.{codes}
use Rattle.std.proofs.lemmas.Bool.Decides.{Decides-eqb}
use Rattle.std.proofs.lemmas.Slice.Eq.{starts_is}
use Rattle.std.proofs.lemmas.List.{drop-drop, take_rest}
use Rattle.messages.proofs.reading.begins_help.Goals as goal

pub returns : goal.returns
returns c =
    let reason : List ℕ = c.args.reason.now in
    let s : List ℕ = drop c.args.at reason in
    let value = rw (take_rest reason c.args.at) at c.starts_with.ensures.value in
    let is = starts_is Decides-eqb s (codes "; ") c.starts_with.result value in
    let same = ap (λ (rest : List ℕ). codes "; " ++ rest) (drop-drop 2 c.args.at reason) in
    record {
      marked = λ yes. is.0 yes ∙ same;
      alone = λ mark. is.1 (drop (c.args.at + 2) reason) mark;
    }
