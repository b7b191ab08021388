use Rattle.std.proofs.Common.{rules, refl, ◌+◌, ◌≤◌, IsNone, arith}
use Rattle.payroll_records.specs.Tables.{key_of}
use Rattle.book_year.specs.Accepted.{plans_in}
use Rattle.book_edits.specs.Books.{run_at}
use Rattle.book_edits.specs.Kept.{years_of}
use Rattle.book_edits.specs.Refusals.{most_records}
use Rattle.book_edits.proofs.DoneLemmas.{add_done, in_order}
use Rattle.book_edits.proofs.years.Years.add.Goals as goal

pub find-requires : goal.find-requires
find-requires g c = in_order (plans_in c.args.plans.now) c.args.self.now c.requires

pub returns-clause-ok : goal.returns-clause-ok
returns-clause-ok g c =
    let old = c.args.self.now in
    let free : IsNone (run_at (years_of old) (key_of c.args.item)) = search rules in
    let room : old.count + 1 ≤ most_records = omega arith in
    add_done (plans_in c.args.plans.now) old _ c.requires c.args.item c.in_ok-work.work free room c.in_ok-work.ensures.ok refl
