use Rattle.std.proofs.Common.{subst}
use Rattle.plain_words.specs.Places.{named_text}
use Rattle.plan_answers.proofs.Laws.{if_ok_map}
use Rattle.table_coverage.specs.TableCoverages.{IsCoverRefused}
use Rattle.author_cli.specs.Covered.{cover_files, IsUncovered, IsUnreadTable, IsLongTable}
use Rattle.author_cli.specs.Ends.{words_of}
use Rattle.author_cli.specs.Traced.{IsRefusedAs}
use Rattle.author_cli.proofs.CoveredLemmas.{or_memory, plan_told, table_told, many_told}
use Rattle.author_cli.proofs.covered.answer_uncovered.Goals as goal

pub answer_refused-requires : goal.answer_refused-requires
answer_refused-requires c =
    let files = cover_files (named_text c.args.plan) (named_text c.args.limits) c.args.table.bytes.now in
    or_memory c.args.plan.bytes.now c.args.limits.bytes.now c.in-Plan.fault
    (subst (λ why. IsCoverRefused files why) c.in-Plan.is c.requires)

pub returns-in-Plan : goal.returns-in-Plan
returns-in-Plan c =
    let plan = named_text c.args.plan in
    let limits = named_text c.args.limits in
    let table = c.args.table.bytes.now in
    let r = c.in-Plan.fault in
    if_ok_map c.answer_refused.result (λ answer. IsRefusedAs r plan limits answer.text.items (words_of answer.reason))
    (λ answer. IsUncovered plan limits table answer.text.items (words_of answer.reason))
    (λ answer h. plan_told plan limits table answer.text.items (words_of answer.reason) r h) c.answer_refused.ensures

pub returns-in-Table : goal.returns-in-Table
returns-in-Table c =
    let plan = named_text c.args.plan in
    let limits = named_text c.args.limits in
    let table = c.args.table.bytes.now in
    let fault = c.in-Table.fault in
    if_ok_map c.answer_unread_table.result (λ answer. IsUnreadTable fault answer.text.items (words_of answer.reason))
    (λ answer. IsUncovered plan limits table answer.text.items (words_of answer.reason))
    (λ answer h. table_told plan limits table answer.text.items (words_of answer.reason) fault
    (subst (λ why. IsCoverRefused (cover_files plan limits table) why) c.in-Table.is c.requires) h) c.answer_unread_table.ensures

pub returns-in-Records : goal.returns-in-Records
returns-in-Records c =
    let plan = named_text c.args.plan in
    let limits = named_text c.args.limits in
    let table = c.args.table.bytes.now in
    if_ok_map c.answer_long_table.result (λ answer. IsLongTable answer.text.items (words_of answer.reason))
    (λ answer. IsUncovered plan limits table answer.text.items (words_of answer.reason))
    (λ answer h. many_told plan limits table answer.text.items (words_of answer.reason)
    (subst (λ why. IsCoverRefused (cover_files plan limits table) why) c.in-Records.is c.requires) h) c.answer_long_table.ensures
