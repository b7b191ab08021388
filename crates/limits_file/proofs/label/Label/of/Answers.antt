use Rattle.std.proofs.Common.{◌≡◌, length, take, arith, subst, sym, ap, ◌∙◌}
use Rattle.std.proofs.lemmas.List.{length-set, length-take}
use Rattle.pap_tree.specs.ShortText.{IsShortText}
use Rattle.limits_file.specs.Labels.{label_of}
use Rattle.limits_file.proofs.LabelLemmas.{label_short, label_step, label_done}
use Rattle.limits_file.proofs.label.Label.of.Goals as goal

pub loop-i-preserved : goal.loop-i-preserved
loop-i-preserved c = record {
  long = length-set c.loop-i.label c.loop-i.i c.shown.result ∙ c.loop-i.invariant.long;
  shown = label_step c.loop-i.label _ c.loop-i.i c.shown.result (let long = c.loop-i.invariant.long in omega (arith, length-take c.min.result c.as_bytes-bytes.result.now)) (omega arith) c.loop-i.invariant.shown c.shown.ensures;
}

pub unwrap-requires : goal.unwrap-requires
unwrap-requires c =
    let i : c.loop-i.i ≡ length (take c.min.result c.as_bytes-bytes.result.now) = omega arith in
    let done = label_done c.as_bytes-bytes.result.now c.loop-i.label c.min.result c.loop-i.i c.min.ensures i c.loop-i.invariant.shown in
    let text = ap (λ n. take n c.loop-i.label) (sym i) ∙ done in
    c.read.ensures.exact.1 (subst IsShortText (sym text) (label_short c.as_bytes-bytes.result.now))

pub returns : goal.returns
returns c =
    let i : c.loop-i.i ≡ length (take c.min.result c.as_bytes-bytes.result.now) = omega arith in
    let done = label_done c.as_bytes-bytes.result.now c.loop-i.label c.min.result c.loop-i.i c.min.ensures i c.loop-i.invariant.shown in
    let text = ap (λ n. take n c.loop-i.label) (sym i) ∙ done in
    let read = rw c.unwrap.ensures at c.read.ensures.read in
    read ∙ text ∙ ap label_of c.as_bytes-bytes.ensures.value
