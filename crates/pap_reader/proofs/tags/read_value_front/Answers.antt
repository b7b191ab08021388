use Rattle.std.proofs.Common.{refl, sym, ap, ◌∙◌}
use Rattle.pap_reader.specs.Bytes.{is_inner, drop_while}
use Rattle.std.specs.List.{take_while}
use Rattle.pap_tree.specs.White.{is_white}
use Rattle.pap_reader.proofs.Lexing.{no_front, a_front}
use Rattle.pap_reader.proofs.tags.read_value_front.Goals as goal

pub returns-in_err-quote-clause-found : goal.returns-in_err-quote-clause-found
returns-in_err-quote-clause-found c =
    rw c.from_residual-in_err-quote.ensures
    (no_front c.args.bytes.now c.after_white-named.result.now c.after_white.result.now c.in_ok-value.value.now c.after_white-2.result.now c.after_white-named.ensures.left
    (c.after_white.ensures.left ∙ ap (drop_while is_white) c.split_name.ensures.left) c.in_ok-value.ensures.found c.after_white-2.ensures.left c.in_err-quote.ensures.found)

pub returns-clause-found : goal.returns-clause-found
returns-clause-found c = (
  a_front c.args.bytes.now c.after_white-named.result.now c.after_white.result.now c.in_ok-value.value.now c.after_white-2.result.now c.in_ok-quote.text.now c.in_ok-quote.quote
      (sym c.begins_with_white.ensures ∙ c.if-not-begins_with_white.false) (sym c.begins_with_first.ensures ∙ c.if-not-begins_with_first.false) c.after_white-named.ensures.left
      (c.after_white.ensures.left ∙ ap (drop_while is_white) c.split_name.ensures.left) c.in_ok-value.ensures.found c.after_white-2.ensures.left c.in_ok-quote.ensures.found.0 c.in_ok-quote.ensures.found.1,
  c.split_name.ensures.name ∙ ap (take_while is_inner) c.after_white-named.ensures.left,
  refl,
  refl,
)
