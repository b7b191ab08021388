use Rattle.std.proofs.Common.{◌≡◌, ◌+◌, subst, length, arith, [], ◌∷◌}
use Rattle.std.specs.Prelude.{slice_set}
use Rattle.pap_tree.specs.Term.{term_of}
use Rattle.pap_machine.specs.declared.code.Instr.TheVariants as i
use Rattle.pap_compiler.specs.CodeDecisions.{term_length, term_code}
use Rattle.pap_compiler.specs.private.EmitViews.{IsAppended}
use Rattle.pap_compiler.specs.private.NameViews.{scope_of_names}
use Rattle.pap_compiler.proofs.EmitLemmas.{joined_whole, jumps_whole, length_patched}
use Rattle.pap_compiler.proofs.emit.+emit.Goals as goal

pub emit_joined-returns : goal.emit_joined-returns
emit_joined-returns t c =
    let scope = scope_of_names c.args.names.now in
    joined_whole scope c.args.op (term_of c.args.left.now) (term_of c.args.right.now) c.args.code.now.items c.emit_term.new.code.items c.put.new.code.items c.emit_term-2.new.code.items c.patch.new.code.items c.place-skip.result c.place-end.result c.skip_to.result
    c.in_ok-emit_term.ensures c.in_ok-put.ensures c.in_ok-emit_term-2.ensures c.place-skip.ensures c.place-end.ensures
    (subst (λ j. c.patch.new.code.items ≡ slice_set c.emit_term-2.new.code.items c.place-skip.result j) c.skip_to-2.ensures c.patch.ensures)

pub emit_choice-returns : goal.emit_choice-returns
emit_choice-returns t c =
    let scope = scope_of_names c.args.names.now in
    let old = c.args.code.now.items in
    let test = term_of c.args.test.now in
    let first = term_of c.args.first.now in
    let second = term_of c.args.second.now in
    let c2 = c.put.new.code.items in
    let c3 = c.emit_term-2.new.code.items in
    let c5 = c.patch.new.code.items in
    let c6 = c.emit_term-3.new.code.items in
    let p = length old + term_length test + 1 in
    let q = p + term_length first + 1 in
    let h1 : IsAppended old (term_code scope (length old) test) (term_length test) c.emit_term.new.code.items = c.in_ok-emit_term.ensures in
    let h2 : IsAppended c.emit_term.new.code.items (i.JumpFalse 0 ∷ []) 1 c2 = c.in_ok-put.ensures in
    let place : length c2 ≡ p = omega (arith, h1.place, h2.place) in
    let h3 = subst (λ k. IsAppended c2 (term_code scope k first) (term_length first) c3) place c.in_ok-emit_term-2.ensures in
    let h4 : IsAppended c3 (i.Jump 0 ∷ []) 1 c.put-2.new.code.items = c.in_ok-put-2.ensures in
    let l = length_patched c.put-2.new.code.items c5 (i.JumpFalse c.place-second_at.result) c.place-to_second.result c.patch.ensures in
    let place2 : length c5 ≡ q = omega (arith, l, h1.place, h2.place, h3.place, h4.place) in
    let h6 = subst (λ k. IsAppended c5 (term_code scope k second) (term_length second) c6) place2 c.in_ok-emit_term-3.ensures in
    jumps_whole old c.emit_term.new.code.items c2 c3 c.put-2.new.code.items c5 c6 c.patch-2.new.code.items (term_code scope (length old) test) (term_code scope p first) (term_code scope q second) (term_length test) (term_length first) (term_length second)
    c.place-to_second.result c.place-to_end.result c.place-second_at.result c.place-end.result h1 h2 h3 h4 c.place-to_second.ensures c.place-second_at.ensures c.patch.ensures h6 c.place-to_end.ensures c.place-end.ensures c.patch-2.ensures
