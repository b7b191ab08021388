use Rattle.std.proofs.Common.{map, subst}
use Rattle.pap_reader.specs.Trees.{raw_body_of, raw_declaration_of, raw_routine_of, tree_of}
use Rattle.plan_text.specs.Sites.{body_sites, declared_sites, routine_sites}
use Rattle.diagnostics.specs.private.FaultViews.{Finds}
use Rattle.diagnostics.proofs.FindLemmas.{all_found}
use Rattle.diagnostics.proofs.expressions.faults_of.Goals as goal

pub returns : goal.returns
returns c =
    let x = c.args.elements.now in
    let none = c.new.result.items in
    let inputs = c.find_declared.new.self.faults.items in
    let outputs = c.find_declared-2.new.self.faults.items in
    let internals = c.find_declared-3.new.self.faults.items in
    let constants = c.find_declared-4.new.self.faults.items in
    let main = c.find_in_body.new.self.faults.items in
    let methods = c.find_in_methods.new.self.faults.items in
    all_found (tree_of x) none inputs outputs internals constants main methods c.new.ensures.items
    (subst (λ l. Finds (declared_sites (map raw_declaration_of l)) none inputs) c.deref.ensures.value c.in_ok-find_declared.ensures)
    (subst (λ l. Finds (declared_sites (map raw_declaration_of l)) inputs outputs) c.deref-2.ensures.value c.in_ok-find_declared-2.ensures)
    (subst (λ l. Finds (declared_sites (map raw_declaration_of l)) outputs internals) c.deref-3.ensures.value c.in_ok-find_declared-3.ensures)
    (subst (λ l. Finds (declared_sites (map raw_declaration_of l)) internals constants) c.deref-4.ensures.value c.in_ok-find_declared-4.ensures)
    (subst (λ n. Finds (body_sites n 0 (raw_body_of x.main.items)) constants main) c.main.ensures
    (subst (λ l. Finds (body_sites c.main.result 0 (raw_body_of l)) constants main) c.deref-5.ensures.value c.in_ok-find_in_body.ensures.finds))
    (subst (λ l. Finds (routine_sites (map raw_routine_of l)) main methods) c.deref-6.ensures.value c.in_ok-find_in_methods.ensures)
