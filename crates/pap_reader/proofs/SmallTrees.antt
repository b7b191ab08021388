-- The tree of a text within the limits is within them.
use Rattle.std.proofs.Common.{◌≤◌, ℕ, List, [], sym, subst, arith}
use Rattle.std.proofs.lemmas.List.{append-nil}
use Rattle.pap_reader.specs.declared.fault.Which.{Which}
use Rattle.pap_reader.specs.declared.fault.Which.TheVariants as which
use Rattle.pap_reader.specs.Marks.{shapes}
use Rattle.pap_reader.specs.Limits.{amount, most}
use Rattle.pap_reader.specs.Trees.{ElementTree}
use Rattle.pap_reader.specs.Elements.{IsElements}
use Rattle.pap_reader.specs.TreeLimits.{IsSmallTree}
use Rattle.pap_reader.proofs.Sizes.{measured, inputs_size, outputs_size, internals_size, constants_size, methods_size, all_written, statements_size}
use Rattle.pap_reader.proofs.Depths.{deep, bounded}

pub small_tree : (bytes : List ℕ) (x : ElementTree) → IsElements bytes x → IsSmallTree x
small_tree bytes x h =
    let t = h.text.tree in
    let few : (w : Which) → amount w (shapes h.text.tags) ≤ most w = λ w. h.few h.text.tags [] w (sym (append-nil h.text.tags)) in
    let p = t.piece in
    let deepest = deep t.says 0 (bounded h.text.tags t.document h.few) in
    subst IsSmallTree t.tree (record {
      inputs = let a = measured which.Inputs _ inputs_size t.says in let b = few which.Inputs in omega arith;
      outputs = let a = measured which.Outputs _ outputs_size t.says in let b = few which.Outputs in omega arith;
      internals = let a = measured which.Internals _ internals_size t.says in let b = few which.Internals in omega arith;
      constants = let a = measured which.Constants _ constants_size t.says in let b = few which.Constants in omega arith;
      methods = let a = measured which.Methods _ methods_size t.says in let b = few which.Methods in omega arith;
      statements = let a = measured which.Statements all_written statements_size t.says in let b = few which.Statements in omega arith;
      main_nesting = let a = deepest.main in omega arith;
      nesting = let a = deepest.methods in omega arith;
    })
