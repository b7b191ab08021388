use Rattle.std.proofs.Common.{◌≡◌, ◌<◌, ◌∷◌, ◌++◌, length, refl, ap, ◌∙◌, arith}
use Rattle.std.specs.Option.{option_to_list}
use Rattle.book_edits.specs.private.Groups.{put_runs}
use Rattle.book_edits.proofs.NextLemmas.{ahead_first, ahead_from, next_old, tied_first, tied_from}
use Rattle.book_edits.proofs.merge.next_year.Goals as goal

pub returns-in-Less-clause-first : goal.returns-in-Less-clause-first
returns-in-Less-clause-first c =
    let pop = c.pop_front-in-Less in
    let any : 0 < length c.args.drafts.now.items = omega (arith, c.in-Some.ensures.variant.0 refl, c.args.drafts.now.ok.0) in
    next_old c.args.olds.now.items pop.new.self.items c.args.drafts.now.items c.in-Some.draft.now c.front-2.result c.order.result pop.result
    c.front-2.ensures.lookup c.order.ensures c.in-Less.is c.in-Some.ensures.lookup any pop.ensures.items c.requires

pub returns-in-Equal-clause-first : goal.returns-in-Equal-clause-first
returns-in-Equal-clause-first c =
    let olds' = c.pop_front-in-Equal.new.self.items in
    let drafts' = c.pop_front-in-Equal-2.new.self.items in
    let y = c.unwrap-old.result in
    let d = c.unwrap-draft.result in
    let os : c.args.olds.now.items ≡ y ∷ olds' = c.pop_front-in-Equal.ensures.items ∙ ap (λ t. option_to_list t ++ olds') c.unwrap-old.ensures in
    let ds : c.args.drafts.now.items ≡ d ∷ drafts' = c.pop_front-in-Equal-2.ensures.items ∙ ap (λ t. option_to_list t ++ drafts') c.unwrap-draft.ensures in
    let tied = tied_from c.args.olds.now.items olds' c.args.drafts.now.items drafts' y d c.in-Some.draft.now c.front-2.result c.order.result c.requires c.front-2.ensures.lookup c.order.ensures c.in-Equal.is c.in-Some.ensures.lookup os ds in
    tied_first c.args.olds.now.items olds' c.args.drafts.now.items drafts' y d tied c.finished.result
    (record { key = c.finished.ensures.key; records = c.finished.ensures.records; outcomes = c.finished.ensures.outcomes })

pub returns-in-Greater-clause-first : goal.returns-in-Greater-clause-first
returns-in-Greater-clause-first c =
    let olds = c.args.olds.now in
    let drafts' = c.pop_front-in-Greater.new.self.items in
    let d = c.unwrap-draft-in-Greater.result in
    let done = c.finished-in-Greater in
    let ds : c.args.drafts.now.items ≡ d ∷ drafts' = c.pop_front-in-Greater.ensures.items ∙ ap (λ t. option_to_list t ++ drafts') c.unwrap-draft-in-Greater.ensures in
    let ahead = ahead_from olds.items c.args.drafts.now.items drafts' d c.in-Some.draft.now c.front-2.result c.order.result c.requires c.front-2.ensures.lookup (λ l. c.front-2.ensures.variant.1 (omega (arith, olds.ok.0))) c.order.ensures c.in-Greater.is c.in-Some.ensures.lookup ds in
    ahead_first c.args.drafts.now.items drafts' d olds.items done.result ahead
    (record { key = done.ensures.key; records = done.ensures.records ∙ ap (put_runs d.items.items) c.new.ensures.items; outcomes = done.ensures.outcomes })
