use Rattle.std.proofs.Common.{◌≡◌, ◌+◌, ap, sym, subst, length, arith, [], ◌∷◌}
use Rattle.pap_tree.specs.Term.{term_of}
use Rattle.pap_tree.specs.Flowchart.{body_of, stmt_then, done}
use Rattle.pap_tree.proofs.Laws.{branch_is}
use Rattle.pap_machine.specs.declared.code.Instr.TheVariants as i
use Rattle.pap_compiler.specs.CodeDecisions.{term_length, term_code, body_length}
use Rattle.pap_compiler.specs.private.EmitViews.{IsAppended}
use Rattle.pap_compiler.specs.private.NameViews.{scope_of_names}
use Rattle.pap_compiler.specs.private.StatementViews.{code_in}
use Rattle.pap_compiler.proofs.EmitLemmas.{jumps_whole, length_patched}
use Rattle.pap_compiler.proofs.SizeLemmas.{size_at}
use Rattle.pap_compiler.proofs.StatementLemmas.{if_whole, led_as, one_more}
use Rattle.pap_compiler.proofs.statements.+emit_body.Goals as goal

pub emit_if-returns : goal.emit_if-returns
emit_if-returns t c =
    let n = c.args.names.now in
    let scope = scope_of_names n in
    let old = c.args.code.now.items in
    let test = term_of c.args.test.now in
    let yes = body_of c.args.yes.now in
    let no = body_of c.args.no.now in
    let c2 = c.put.new.code.items in
    let c3 = c.emit_body.new.code.items in
    let c5 = c.patch.new.code.items in
    let c6 = c.emit_body-2.new.code.items in
    let p = length old + term_length test + 1 in
    let q = p + body_length yes + 1 in
    let h1 : IsAppended old (term_code scope (length old) test) (term_length test) c.emit_term.new.code.items = c.in_ok-emit_term.ensures in
    let h2 : IsAppended c.emit_term.new.code.items (i.JumpFalse 0 ∷ []) 1 c2 = c.in_ok-put.ensures in
    let place : length c2 ≡ p = omega (arith, h1.place, h2.place) in
    let h3 = subst (λ k. IsAppended c2 (code_in n k yes) (body_length yes) c3) place c.in_ok-emit_body.ensures in
    let h4 : IsAppended c3 (i.Jump 0 ∷ []) 1 c.put-2.new.code.items = c.in_ok-put-2.ensures in
    let l = length_patched c.put-2.new.code.items c5 (i.JumpFalse c.place-no_at.result) c.place-to_no.result c.patch.ensures in
    let place2 : length c5 ≡ q = omega (arith, l, h1.place, h2.place, h3.place, h4.place) in
    let h6 = subst (λ k. IsAppended c5 (code_in n k no) (body_length no) c6) place2 c.in_ok-emit_body-2.ensures in
    if_whole n test yes no old c.patch-2.new.code.items
    (jumps_whole old c.emit_term.new.code.items c2 c3 c.put-2.new.code.items c5 c6 c.patch-2.new.code.items (term_code scope (length old) test) (code_in n p yes) (code_in n q no) (term_length test) (body_length yes) (body_length no)
    c.place-to_no.result c.place-to_end.result c.place-no_at.result c.place-end.result h1 h2 h3 h4 c.place-to_no.ensures c.place-no_at.ensures c.patch.ensures h6 c.place-to_end.ensures c.place-end.ensures c.patch-2.ensures)

pub emit_stmt-emit_if-requires : goal.emit_stmt-emit_if-requires
emit_stmt-emit_if-requires t c =
    let same = branch_is c.args.s.now c.in-If.test c.in-If.yes c.in-If.no c.deref.result.now c.deref-in-If.result.now c.in-If.is c.deref.ensures.value c.deref-in-If.ensures.value done in
    let w = ap body_length same in
    (omega (arith, w), (c.requires.made, omega (arith, w, c.requires.room)))

pub emit_stmt-returns-in-If : goal.emit_stmt-returns-in-If
emit_stmt-returns-in-If t c =
    let same = branch_is c.args.s.now c.in-If.test c.in-If.yes c.in-If.no c.deref.result.now c.deref-in-If.result.now c.in-If.is c.deref.ensures.value c.deref-in-If.ensures.value in
    led_as c.args.names.now c.emit_if.result _ (stmt_then c.args.s.now) c.args.code.now.items c.emit_if.new.code.items (λ rest. sym (same rest)) c.emit_if.ensures

pub emit_body-emit_stmt-requires : goal.emit_body-emit_stmt-requires
emit_body-emit_stmt-requires t c =
    let h = size_at c.args.body.now c.loop-s.s-index c.s-item.result c.s-item.is c.loop-s-test.true in
    let inv = c.loop-s.invariant in
    (omega (arith, h.length, inv.place, inv.grown), (c.requires.made, omega (arith, h.length, inv.place, c.requires.room)))

pub emit_body-loop-s-preserved : goal.emit_body-loop-s-preserved
emit_body-loop-s-preserved t c =
    one_more c.args.names.now c.args.body.now c.loop-s.s-index c.s-item.result c.args.code.now.items c.loop-s.code.items c.emit_stmt.new.code.items c.s-item.is c.loop-s-test.true c.loop-s.invariant c.in_ok-emit_stmt.ensures
