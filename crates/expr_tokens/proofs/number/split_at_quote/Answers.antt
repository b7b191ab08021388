use Rattle.std.proofs.Common.{subst}
use Rattle.expr_tokens.specs.private.Views.{IsLongest, is_no_quote}
use Rattle.expr_tokens.proofs.FrontLemmas.{longest_by}
use Rattle.expr_tokens.proofs.StringLemmas.{no_quote_left}
use Rattle.expr_tokens.proofs.number.split_at_quote.Goals as goal

pub returns-in_err-rest : goal.returns-in_err-rest
returns-in_err-rest c =
    let inner = c.split_at.result.0.now in
    let rest = c.split_at.result.1.now in
    let split : IsLongest is_no_quote c.args.bytes.now inner rest = longest_by is_no_quote c.args.bytes.now inner rest c.inner_len.result c.inner_len.ensures.count c.split_at.ensures.front c.split_at.ensures.back in
    rw c.from_residual.ensures (no_quote_left c.args.bytes.now inner rest split c.in_err-rest.ensures)

pub returns : goal.returns
returns c =
    let inner = c.split_at.result.0.now in
    let rest = c.split_at.result.1.now in
    let split : IsLongest is_no_quote c.args.bytes.now inner rest = longest_by is_no_quote c.args.bytes.now inner rest c.inner_len.result c.inner_len.ensures.count c.split_at.ensures.front c.split_at.ensures.back in
    subst (IsLongest is_no_quote c.args.bytes.now inner) c.in_ok-rest.ensures split
