-- Lines of findings, one after the other.
use Rattle.std.proofs.Common.{◌≡◌, ℕ, ◌+◌, ◌<◌, List, [], ◌∷◌, ◌++◌, length, take, get_or, Option, sym, ap, ◌∙◌, append_assoc}
use Rattle.std.specs.List.{flat_map}
use Rattle.std.proofs.lemmas.List.{flat_map_more, take_more}
use Rattle.plan_notes.specs.declared.tag.Mark.{Mark}
use Rattle.plain_words.specs.Places.{NamedText, place_text}
use Rattle.flowchart_findings.specs.declared.finding.Finding.{Finding}
use Rattle.flowchart_findings.specs.Places.{TagBytes, tag_places, finding_byte}
use Rattle.flowchart_findings.specs.Texts.{words_line, finding_line, finding_lines}

pub one_line : (file : NamedText) (marks : List Mark) (places : TagBytes) (fs : List Finding) (i : ℕ) (f : Finding) (at : Option ℕ)
    (out0 out1 out2 : List ℕ) → f ≡ get_or fs i f → i < length fs → places ≡ tag_places marks → at ≡ finding_byte places f
    → out0 ≡ finding_lines file marks (take i fs) → out1 ≡ out0 ++ place_text file at → out2 ≡ out1 ++ words_line f
    → out2 ≡ finding_lines file marks (take (i + 1) fs)
one_line file marks places fs i f at out0 out1 out2 is lt known byte so_far one two =
    let g = finding_line file (tag_places marks) in
    let here : at ≡ finding_byte (tag_places marks) f = byte ∙ ap (λ p. finding_byte p f) known in
    two ∙ ap (λ l. l ++ words_line f) (one ∙ ap (λ o. out0 ++ place_text file o) here)
    ∙ append_assoc out0 (place_text file (finding_byte (tag_places marks) f)) (words_line f)
    ∙ ap (λ l. l ++ g f) so_far
    ∙ flat_map_more g [] (take i fs) f
    ∙ ap (flat_map g) (ap (λ x. take i fs ++ x ∷ []) is ∙ sym (take_more fs i f lt))
