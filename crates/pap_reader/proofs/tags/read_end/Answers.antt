use Rattle.std.proofs.Common.{sym, ap, ◌∙◌}
use Rattle.pap_reader.specs.Bytes.{drop_while}
use Rattle.pap_tree.specs.White.{is_white}
use Rattle.pap_reader.specs.Tags.{attributes_of}
use Rattle.pap_reader.proofs.Passing.{a_closing}
use Rattle.pap_reader.proofs.tags.read_end.Goals as goal

pub returns-clause-found : goal.returns-clause-found
returns-clause-found c =
    a_closing c.args.bytes.now c.split_letters.result.0.now c.after_white.result.now c.in_ok-rest.rest.now (attributes_of c.new-attributes.result.items) (sym c.begins_with_letter.ensures ∙ c.if-not-begins_with_letter.false)
    c.split_letters.ensures.letters (ap attributes_of c.new-attributes.ensures.items) (c.after_white.ensures.left ∙ ap (drop_while is_white) c.split_letters.ensures.left) c.in_ok-rest.ensures.found
