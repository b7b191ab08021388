use Rattle.std.proofs.Common.{◌≡◌, [], map, length, arith, sym, ap, subst, ◌∙◌, eqb}
use Rattle.std.proofs.lemmas.Result.{err_from_is_err_and}
use Rattle.std.proofs.lemmas.Bool.{both_ways, eqb-true}
use Rattle.std.proofs.lemmas.List.{append-nil, nil_from_length, take_all}
use Rattle.pap_reader.specs.declared.fault.ReadFault.TheVariants as faults
use Rattle.pap_reader.specs.Tags.{tag_of}
use Rattle.pap_reader.specs.Tokens.{PlacedTag}
use Rattle.pap_reader.specs.Contents.{token_meant, tokens_of, tags_of}
use Rattle.pap_reader.specs.Elements.{IsFaultOrMemory}
use Rattle.pap_reader.proofs.TokenLemmas.{tags_before, tags_more, reached_at, reads_told}
use Rattle.pap_reader.proofs.Whole.{Going, going_start, going_more, wrong_tag, wrong_text, ends}
use Rattle.pap_reader.proofs.text.elements_of.Goals as goal

pub loop-token-init : goal.loop-token-init
loop-token-init c = going_start c.new-reader.result c.new-reader.ensures

pub loop-token-preserved-in_default : goal.loop-token-preserved-in_default
loop-token-preserved-in_default c =
    let xs = c.args.tokens.now.items.items in
    let i = c.loop-token.token-index in
    let more = tags_more xs _ i c.token-item.result _ c.deref-token-items.ensures.value c.loop-token-test.true c.token-item.is c.in_default.is in
    subst (Going c.loop-token.reader) (sym (more ∙ append-nil (tags_before xs i))) c.loop-token.invariant

pub returns-in_err-take-clause-refused : goal.returns-in_err-take-clause-refused
returns-in_err-take-clause-refused c =
    let x = c.args.tokens.now in
    let i = c.loop-token.token-index in
    let g = c.loop-token.invariant in
    let t : PlacedTag = record { at = c.in-Tag.at; tag = tag_of c.in-Tag.tag } in
    let r = reached_at c.args.file.now x.left.now x.items.items _ i c.token-item.result t c.requires.read c.deref-token-items.ensures.value c.loop-token-test.true c.token-item.is (ap token_meant c.in-Tag.is) in
    let p = err_from_is_err_and c.from_residual.result c.from_residual.ensures.1 in
    rw (p.1, p.2)
    (wrong_tag c.loop-token.reader c.take.new.self c.args.file.now (tags_before x.items.items i) t c.take.result c.in_err-take.field-0.0 g (omega arith) r c.in_err-take.was (c.take.ensures _ g.os g.ws g.stands))

pub loop-token-preserved : goal.loop-token-preserved
loop-token-preserved c =
    let xs = c.args.tokens.now.items.items in
    let i = c.loop-token.token-index in
    let g = c.loop-token.invariant in
    let t : PlacedTag = record { at = c.in-Tag.at; tag = tag_of c.in-Tag.tag } in
    let more = tags_more xs _ i c.token-item.result _ c.deref-token-items.ensures.value c.loop-token-test.true c.token-item.is c.in-Tag.is in
    subst (Going c.take.new.self) (sym more)
    (going_more c.loop-token.reader c.take.new.self (tags_before xs i) t c.take.result c.in_ok-take.field-0 g c.in_ok-take.was (c.take.ensures _ g.os g.ws g.stands))

pub returns-then-not-is_empty-clause-refused : goal.returns-then-not-is_empty-clause-refused
returns-then-not-is_empty-clause-refused c =
    let x = c.args.tokens.now in
    let all = take_all c.loop-token.token-index x.items.items (omega (arith, ap length c.deref-token-items.ensures.value)) in
    let g = subst (λ z. Going c.loop-token.reader (tags_of (map token_meant z))) all c.loop-token.invariant in
    let read = reads_told c.args.file.now x.left.now (tokens_of x) c.requires.read in
    let some : x.left.now ≡ [] → ⊥ = λ e. both_ways (eqb (length x.left.now) 0) (sym c.is_empty.ensures ∙ c.if-not-is_empty.true) (ap (λ z. eqb (length z) 0) e) in
    subst (λ n. IsFaultOrMemory c.args.file.now (faults.Text n)) (sym c.saturating_sub.ensures)
    (wrong_text c.loop-token.reader c.args.file.now x.left.now (tags_of (tokens_of x)) g (omega arith) read some c.requires.ended)

pub returns : goal.returns
returns c =
    let x = c.args.tokens.now in
    let all = take_all c.loop-token.token-index x.items.items (omega (arith, ap length c.deref-token-items.ensures.value)) in
    let g = subst (λ z. Going c.loop-token.reader (tags_of (map token_meant z))) all c.loop-token.invariant in
    let n = nil_from_length x.left.now (eqb-true _ 0 (sym c.is_empty.ensures ∙ c.if-not-is_empty.false)) in
    let read = reads_told c.args.file.now x.left.now (tokens_of x) c.requires.read in
    let e = ends c.loop-token.reader c.args.file.now x.left.now (tags_of (tokens_of x)) c.finish.result g (omega arith) read n (c.finish.ensures _ g.os g.ws g.stands) in
    record { read = e.0; refused = e.1 }
