use Rattle.std.proofs.Common.{◌+◌, ◌&&◌, refl, sym, ap, ap₂, ◌∙◌, arith}
use Rattle.std.proofs.lemmas.List.{append_assoc}
use Rattle.pap_tree.specs.Term.{term_of, leaf, named, item, one, two, choice, unary, value_of, value_of_scaled, new_big, set_scale, operator, method, divide}
use Rattle.pap_tree.specs.Numbering.{nodes}
use Rattle.pap_types.specs.Kinds.{kind_of, kind_of_one, kind_of_operator, wider, are_parts, is_convertible, is_int, is_whole, is_big, is_truth, is_table, takes_one, takes_operator, takes_two}
use Rattle.pap_types.specs.private.CheckViews.{scope_of_statement, checks_in, checks_of_two}
use Rattle.pap_types.proofs.CheckLemmas.{front, early, own_answer, pair_early, second_checks, checks_of_three, three_then, later_checks}
use Rattle.pap_types.proofs.nodes.Statement.+check.Goals as goal

pub check_value_of-returns-in_err-inner : goal.check_value_of-returns-in_err-inner
check_value_of-returns-in_err-inner t c =
    let s = c.args.self.now in
    let e = term_of c.args.operand.now in
    early s (one value_of e) c.args.at (checks_in s e c.args.at) _ c.from_residual.result c.in_err-inner.field-0.0 refl c.in_err-inner.ensures c.from_residual.ensures.1

pub check_value_of-returns : goal.check_value_of-returns
check_value_of-returns t c =
    let s = c.args.self.now in
    let e = term_of c.args.operand.now in
    let inner = c.in_ok-inner.ensures in
    own_answer s (one value_of e) c.args.at c.in_ok-inner.inner.next (c.args.at + nodes e) (checks_in s e c.args.at) _ (is_convertible (kind_of (scope_of_statement s) e)) _ c.own.result refl inner.0 (c.is_convertible.ensures ∙ ap is_convertible inner.1) inner.2 (refl) (omega arith) c.own.ensures

pub check_scaled-returns-in_err-inner : goal.check_scaled-returns-in_err-inner
check_scaled-returns-in_err-inner t c =
    let s = c.args.self.now in
    let e = term_of c.args.operand.now in
    early s (one (value_of_scaled c.args.scale) e) c.args.at (checks_in s e c.args.at) _ c.from_residual.result c.in_err-inner.field-0.0 refl c.in_err-inner.ensures c.from_residual.ensures.1

pub check_scaled-returns : goal.check_scaled-returns
check_scaled-returns t c =
    let s = c.args.self.now in
    let e = term_of c.args.operand.now in
    let inner = c.in_ok-inner.ensures in
    own_answer s (one (value_of_scaled c.args.scale) e) c.args.at c.in_ok-inner.inner.next (c.args.at + nodes e) (checks_in s e c.args.at) _ (is_whole (kind_of (scope_of_statement s) e)) _ c.own.result refl inner.0 (c.is_whole.ensures ∙ ap is_whole inner.1) inner.2 (refl) (omega arith) c.own.ensures

pub check_new-returns-in_err-inner : goal.check_new-returns-in_err-inner
check_new-returns-in_err-inner t c =
    let s = c.args.self.now in
    let e = term_of c.args.operand.now in
    early s (one new_big e) c.args.at (checks_in s e c.args.at) _ c.from_residual.result c.in_err-inner.field-0.0 refl c.in_err-inner.ensures c.from_residual.ensures.1

pub check_new-returns : goal.check_new-returns
check_new-returns t c =
    let s = c.args.self.now in
    let e = term_of c.args.operand.now in
    let inner = c.in_ok-inner.ensures in
    own_answer s (one new_big e) c.args.at c.in_ok-inner.inner.next (c.args.at + nodes e) (checks_in s e c.args.at) _ (is_whole (kind_of (scope_of_statement s) e)) _ c.own.result refl inner.0 (c.is_whole.ensures ∙ ap is_whole inner.1) inner.2 (refl) (omega arith) c.own.ensures

pub check_unary-returns-in_err-inner : goal.check_unary-returns-in_err-inner
check_unary-returns-in_err-inner t c =
    let s = c.args.self.now in
    let e = term_of c.args.operand.now in
    early s (one (unary c.args.op) e) c.args.at (checks_in s e c.args.at) _ c.from_residual.result c.in_err-inner.field-0.0 refl c.in_err-inner.ensures c.from_residual.ensures.1

pub check_unary-returns : goal.check_unary-returns
check_unary-returns t c =
    let s = c.args.self.now in
    let e = term_of c.args.operand.now in
    let inner = c.in_ok-inner.ensures in
    own_answer s (one (unary c.args.op) e) c.args.at c.in_ok-inner.inner.next (c.args.at + nodes e) (checks_in s e c.args.at) _ (takes_one (unary c.args.op) (kind_of (scope_of_statement s) e)) _ c.own.result refl inner.0 (c.takes_unary.ensures ∙ ap (takes_one (unary c.args.op)) inner.1) inner.2 (c.kind_of_unary.ensures ∙ ap (kind_of_one (unary c.args.op)) inner.1) (omega arith) c.own.ensures

pub check_set_scale-returns-in_err-inner : goal.check_set_scale-returns-in_err-inner
check_set_scale-returns-in_err-inner t c =
    let s = c.args.self.now in
    let e = term_of c.args.operand.now in
    early s (one (set_scale c.args.scale c.args.mode) e) c.args.at (checks_in s e c.args.at) _ c.from_residual.result c.in_err-inner.field-0.0 refl c.in_err-inner.ensures c.from_residual.ensures.1

pub check_set_scale-returns : goal.check_set_scale-returns
check_set_scale-returns t c =
    let s = c.args.self.now in
    let e = term_of c.args.operand.now in
    let inner = c.in_ok-inner.ensures in
    own_answer s (one (set_scale c.args.scale c.args.mode) e) c.args.at c.in_ok-inner.inner.next (c.args.at + nodes e) (checks_in s e c.args.at) _ (is_big (kind_of (scope_of_statement s) e)) _ c.own.result refl inner.0 (c.is_big.ensures ∙ ap is_big inner.1) inner.2 (refl) (omega arith) c.own.ensures

pub check_operator-returns-in_err-both : goal.check_operator-returns-in_err-both
check_operator-returns-in_err-both t c =
    let s = c.args.self.now in
    let a = term_of c.args.left.now in
    let b = term_of c.args.right.now in
    early s (two (operator c.args.op) a b) c.args.at (checks_of_two s a b c.args.at) _ c.from_residual.result c.in_err-both.field-0.0 (sym (append_assoc (checks_in s a c.args.at) (checks_in s b (c.args.at + nodes a)) _)) c.in_err-both.ensures c.from_residual.ensures.1

pub check_operator-returns : goal.check_operator-returns
check_operator-returns t c =
    let s = c.args.self.now in
    let a = term_of c.args.left.now in
    let b = term_of c.args.right.now in
    let both = c.in_ok-both.ensures in
    own_answer s (two (operator c.args.op) a b) c.args.at c.in_ok-both.both.second.next (c.args.at + nodes a + nodes b) (checks_of_two s a b c.args.at) _ (takes_operator c.args.op a (kind_of (scope_of_statement s) a) b (kind_of (scope_of_statement s) b)) _ c.own.result (sym (append_assoc (checks_in s a c.args.at) (checks_in s b (c.args.at + nodes a)) _)) both.0 (c.takes_operator.ensures ∙ ap₂ (λ j k. takes_operator c.args.op a j b k) both.1 both.2) both.3 (c.kind_of_operator.ensures ∙ ap₂ (kind_of_operator c.args.op) both.1 both.2) (omega arith) c.own.ensures

pub check_call-returns-in_err-both : goal.check_call-returns-in_err-both
check_call-returns-in_err-both t c =
    let s = c.args.self.now in
    let a = term_of c.args.left.now in
    let b = term_of c.args.right.now in
    early s (two (method c.args.call) a b) c.args.at (checks_of_two s a b c.args.at) _ c.from_residual.result c.in_err-both.field-0.0 (sym (append_assoc (checks_in s a c.args.at) (checks_in s b (c.args.at + nodes a)) _)) c.in_err-both.ensures c.from_residual.ensures.1

pub check_call-returns : goal.check_call-returns
check_call-returns t c =
    let s = c.args.self.now in
    let a = term_of c.args.left.now in
    let b = term_of c.args.right.now in
    let both = c.in_ok-both.ensures in
    own_answer s (two (method c.args.call) a b) c.args.at c.in_ok-both.both.second.next (c.args.at + nodes a + nodes b) (checks_of_two s a b c.args.at) _ (takes_two (scope_of_statement s) (method c.args.call) a (kind_of (scope_of_statement s) a) b (kind_of (scope_of_statement s) b)) _ c.own.result (sym (append_assoc (checks_in s a c.args.at) (checks_in s b (c.args.at + nodes a)) _)) both.0 (c.takes_call.ensures a ∙ ap₂ (λ j k. takes_two (scope_of_statement s) (method c.args.call) a j b k) both.1 both.2) both.3 (c.kind_of_call.ensures _ _) (omega arith) c.own.ensures

pub check_divide-returns-in_err-both : goal.check_divide-returns-in_err-both
check_divide-returns-in_err-both t c =
    let s = c.args.self.now in
    let a = term_of c.args.left.now in
    let b = term_of c.args.right.now in
    early s (two (divide c.args.scale c.args.mode) a b) c.args.at (checks_of_two s a b c.args.at) _ c.from_residual.result c.in_err-both.field-0.0 (sym (append_assoc (checks_in s a c.args.at) (checks_in s b (c.args.at + nodes a)) _)) c.in_err-both.ensures c.from_residual.ensures.1

pub check_divide-returns : goal.check_divide-returns
check_divide-returns t c =
    let s = c.args.self.now in
    let a = term_of c.args.left.now in
    let b = term_of c.args.right.now in
    let both = c.in_ok-both.ensures in
    own_answer s (two (divide c.args.scale c.args.mode) a b) c.args.at c.in_ok-both.both.second.next (c.args.at + nodes a + nodes b) (checks_of_two s a b c.args.at) _ (is_big (kind_of (scope_of_statement s) a) && is_big (kind_of (scope_of_statement s) b)) _ c.own.result (sym (append_assoc (checks_in s a c.args.at) (checks_in s b (c.args.at + nodes a)) _)) both.0 (c.are_big.ensures ∙ ap₂ (λ j k. is_big j && is_big k) both.1 both.2) both.3 (refl) (omega arith) c.own.ensures

pub check_two-returns-in_err-first : goal.check_two-returns-in_err-first
check_two-returns-in_err-first t c =
    let s = c.args.self.now in
    let a = term_of c.args.left.now in
    let b = term_of c.args.right.now in
    pair_early s a b c.args.at c.from_residual.result c.in_err-first.field-0.0 (front (checks_in s a c.args.at) _ c.in_err-first.field-0.0 c.in_err-first.ensures) c.from_residual.ensures.1

pub check_two-returns-in_err-second : goal.check_two-returns-in_err-second
check_two-returns-in_err-second t c =
    let s = c.args.self.now in
    let a = term_of c.args.left.now in
    let b = term_of c.args.right.now in
    let first = c.in_ok-first.ensures in
    pair_early s a b c.args.at c.from_residual-in_err-second.result c.in_err-second.field-0.0 (second_checks s a b c.args.at c.in_ok-first.first.next first.0 first.2 ∙ c.in_err-second.ensures) c.from_residual-in_err-second.ensures.1

pub check_two-returns : goal.check_two-returns
check_two-returns t c =
    let s = c.args.self.now in
    let a = term_of c.args.left.now in
    let b = term_of c.args.right.now in
    let first = c.in_ok-first.ensures in
    let second = c.in_ok-second.ensures in
    (second_checks s a b c.args.at c.in_ok-first.first.next first.0 first.2 ∙ second.0, first.1, second.1, omega arith)

pub check_choice-returns-in_err-tested : goal.check_choice-returns-in_err-tested
check_choice-returns-in_err-tested t c =
    let s = c.args.self.now in
    let x = term_of c.args.test.now in
    let a = term_of c.args.first.now in
    let b = term_of c.args.second.now in
    early s (choice x a b) c.args.at (checks_in s x c.args.at) _ c.from_residual.result c.in_err-tested.field-0.0 refl c.in_err-tested.ensures c.from_residual.ensures.1

pub check_choice-returns-in_err-parts : goal.check_choice-returns-in_err-parts
check_choice-returns-in_err-parts t c =
    let s = c.args.self.now in
    let x = term_of c.args.test.now in
    let a = term_of c.args.first.now in
    let b = term_of c.args.second.now in
    let test = c.in_ok-tested.ensures in
    early s (choice x a b) c.args.at (checks_of_three s x a b c.args.at) _ c.from_residual-in_err-parts.result c.in_err-parts.field-0.0 (three_then s x a b c.args.at _) (later_checks s x a b c.args.at c.in_ok-tested.tested.next test.0 test.2 ∙ c.in_err-parts.ensures) c.from_residual-in_err-parts.ensures.1

pub check_choice-returns : goal.check_choice-returns
check_choice-returns t c =
    let s = c.args.self.now in
    let x = term_of c.args.test.now in
    let a = term_of c.args.first.now in
    let b = term_of c.args.second.now in
    let test = c.in_ok-tested.ensures in
    let parts = c.in_ok-parts.ensures in
    own_answer s (choice x a b) c.args.at c.in_ok-parts.parts.second.next (c.args.at + nodes x + nodes a + nodes b) (checks_of_three s x a b c.args.at) _ (is_truth (kind_of (scope_of_statement s) x) && are_parts (kind_of (scope_of_statement s) a) (kind_of (scope_of_statement s) b)) _ c.own.result (three_then s x a b c.args.at _) (later_checks s x a b c.args.at c.in_ok-tested.tested.next test.0 test.2 ∙ parts.0) (c.takes_parts-passes.ensures ∙ ap₂ (λ i k. is_truth i && k) test.1 (ap₂ are_parts parts.1 parts.2)) (omega arith) (c.wider.ensures ∙ ap₂ wider parts.1 parts.2) (omega arith) c.own.ensures

pub check_item-returns-in_err-inner : goal.check_item-returns-in_err-inner
check_item-returns-in_err-inner t c =
    let s = c.args.self.now in
    let e = term_of c.args.index.now in
    early s (item c.args.table.now e) c.args.at (checks_in s e c.args.at) _ c.from_residual.result c.in_err-inner.field-0.0 refl c.in_err-inner.ensures c.from_residual.ensures.1

pub check_item-returns-in_err-named : goal.check_item-returns-in_err-named
check_item-returns-in_err-named t c =
    let s = c.args.self.now in
    let e = term_of c.args.index.now in
    let x = leaf (named c.args.table.now) in
    let inner = c.in_ok-inner.ensures in
    early s (item c.args.table.now e) c.args.at (checks_of_two s e x c.args.at) _ c.from_residual-in_err-named.result c.in_err-named.field-0.0 (sym (append_assoc (checks_in s e c.args.at) (checks_in s x (c.args.at + nodes e)) _)) (second_checks s e x c.args.at c.in_ok-inner.inner.next inner.0 inner.2 ∙ c.in_err-named.ensures) c.from_residual-in_err-named.ensures.1

pub check_item-returns : goal.check_item-returns
check_item-returns t c =
    let s = c.args.self.now in
    let e = term_of c.args.index.now in
    let x = leaf (named c.args.table.now) in
    let inner = c.in_ok-inner.ensures in
    let name = c.in_ok-named.ensures in
    own_answer s (item c.args.table.now e) c.args.at c.in_ok-inner.inner.next (c.args.at + nodes e) (checks_of_two s e x c.args.at) _ (is_table (kind_of (scope_of_statement s) x) && is_int (kind_of (scope_of_statement s) e)) _ c.own.result (sym (append_assoc (checks_in s e c.args.at) (checks_in s x (c.args.at + nodes e)) _)) (second_checks s e x c.args.at c.in_ok-inner.inner.next inner.0 inner.2 ∙ name.0) (c.takes_index-passes.ensures ∙ ap₂ (λ i k. is_table i && is_int k) name.1 inner.1) inner.2 refl (omega arith) c.own.ensures
