use Rattle.std.proofs.Common.{◌≡◌, refl, rules, ◌+◌, ◌++◌, ◌∷◌, [], length, vec_len, arith, ap, length-append}
use Rattle.payroll_records.proofs.TableLemmas.{none_read, row_broken, row_repeated, row_added}
use Rattle.payroll_records.proofs.table.read_records.Goals as goal

pub rows-init : goal.rows-init
rows-init g c =
    let none : c.new-records.result.items ≡ [] = search rules in
    record {
      reader = c.requires.reader;
      done = [];
      parts = refl;
      are_records = none_read c.args.header.now.names.items c.new-records.result.items none;
      counted = search rules;
      known = search rules;
    }

pub returns-in-Err : goal.returns-in-Err
returns-in-Err g c =
    let l = c.rows in
    let taken = rw c.if-not-branch.false at c.in_ok-next_row.ensures in
    let count : vec_len l.records ≡ length l.records.items = omega (arith, c.deref.ensures.len, ap length c.deref.ensures.value) in
    rw (c.fault_at.ensures, c.len.ensures, count)
    (row_broken g.R.Read.remaining c.args.header.now.names.items c.args.reader.now l.reader l.records.items l.keys (length l.records.items + 1) l.invariant c.next_row.new.reader _ c.in-Err.fault taken c.in-Err.ensures.err)

pub returns-then-not-branch-2 : goal.returns-then-not-branch-2
returns-then-not-branch-2 g c =
    let l = c.rows in
    let taken = rw c.if-not-branch.false at c.in_ok-next_row.ensures in
    let added = rw (c.if-not-branch-2.true, c.key.ensures) at c.in_ok-insert.ensures.added in
    let count : vec_len l.records ≡ length l.records.items = omega (arith, c.deref.ensures.len, ap length c.deref.ensures.value) in
    rw (c.len.ensures, count)
    (row_repeated g.R.Read.remaining c.args.header.now.names.items c.args.reader.now l.reader l.records.items l.keys (length l.records.items + 1) l.invariant c.next_row.new.reader _ c.in-Ok.record taken c.in-Ok.ensures.ok added)

pub rows-preserved : goal.rows-preserved
rows-preserved g c =
    let l = c.rows in
    let taken = rw c.if-not-branch.false at c.in_ok-next_row.ensures in
    let added = rw (c.if-not-branch-2.false, c.key.ensures) at c.in_ok-insert.ensures.added in
    let updates = rw c.key.ensures at c.in_ok-insert.ensures.updates in
    let items : c.push.new.self.items ≡ l.records.items ++ (c.in-Ok.record ∷ []) = search rules in
    rw (items, length-append l.records.items (c.in-Ok.record ∷ []))
    (row_added g.R.Read.remaining c.args.header.now.names.items c.args.reader.now l.reader l.records.items l.keys (length l.records.items + 1) l.invariant c.next_row.new.reader _ c.in-Ok.record c.insert.new.self taken c.in-Ok.ensures.ok added updates)
