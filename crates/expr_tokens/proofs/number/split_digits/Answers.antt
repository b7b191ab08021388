use Rattle.std.specs.Char.{is_ascii_digit}
use Rattle.expr_tokens.proofs.FrontLemmas.{longest_by}
use Rattle.expr_tokens.proofs.number.split_digits.Goals as goal

pub returns : goal.returns
returns c =
    longest_by is_ascii_digit c.args.bytes.now c.split_at.result.0.now c.split_at.result.1.now c.digits_len.result c.digits_len.ensures.count c.split_at.ensures.front c.split_at.ensures.back
