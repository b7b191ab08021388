-- The findings of outputs that are carried over, one after the other.
use Rattle.std.proofs.Common.{◌≡◌, ℕ, ◌+◌, ◌<◌, List, ◌++◌, length, map, drop, get_or, sym, ap, ◌∙◌, append_assoc}
use Rattle.std.specs.List.{flat_map}
use Rattle.limits_file.specs.declared.limits.Binding.{Binding}
use Rattle.limits_file.specs.declared.limits.Limits.{Limits}
use Rattle.interval_analysis.specs.declared.verdict.OutputRange.{OutputRange}
use Rattle.interval_analysis.specs.Answers.{named_range}
use Rattle.flowchart_findings.specs.declared.finding.DeclarationSite.{DeclarationSite}
use Rattle.flowchart_findings.specs.declared.finding.Finding.{Finding}
use Rattle.flowchart_findings.specs.Carries.{carry_finding, output_findings, carry_findings}
use Rattle.flowchart_findings.proofs.FindingLemmas.{from_item}

-- one more binding
pub one_binding : (limits : Limits) (site : DeclarationSite) (places : ℕ) (bs : List Binding) (i : ℕ) (b : Binding)
    (out out' whole : List Finding) → b ≡ get_or bs i b → i < length bs
    → out ++ flat_map (carry_finding limits site places) (drop i bs) ≡ whole
    → out' ≡ out ++ carry_finding limits site places b
    → out' ++ flat_map (carry_finding limits site places) (drop (i + 1) bs) ≡ whole
one_binding limits site places bs i b out out' whole is lt so_far added =
    let found = carry_finding limits site places in
    let rest = flat_map found (drop (i + 1) bs) in
    ap (λ l. l ++ rest) added ∙ append_assoc out (found b) rest
    ∙ ap (λ l. out ++ flat_map found l) (sym (from_item bs i b is lt))
    ∙ so_far

-- one more output
pub one_output : (limits : Limits) (os : List OutputRange) (i : ℕ) (o : OutputRange) (out out' whole : List Finding)
    → o ≡ get_or os i o → i < length os → out ++ carry_findings limits i (map named_range (drop i os)) ≡ whole
    → out' ≡ out ++ output_findings limits i (named_range o)
    → out' ++ carry_findings limits (i + 1) (map named_range (drop (i + 1) os)) ≡ whole
one_output limits os i o out out' whole is lt so_far added =
    let rest = carry_findings limits (i + 1) (map named_range (drop (i + 1) os)) in
    ap (λ l. l ++ rest) added ∙ append_assoc out (output_findings limits i (named_range o)) rest
    ∙ ap (λ l. out ++ carry_findings limits i (map named_range l)) (sym (from_item os i o is lt))
    ∙ so_far
