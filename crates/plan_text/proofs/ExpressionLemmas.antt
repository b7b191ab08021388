-- The parts of a plan, one after the other.
use Rattle.std.proofs.Common.{◌≡◌, ℕ, suc, ◌+◌, ◌<◌, ◌≤◌, List, [], ◌∷◌, ◌++◌, length, map, drop, get_or, append-nil, sym, ap, ◌∙◌, arith, subst}
use Rattle.std.proofs.Math.Seq.{append_snoc, drop-cons}
use Rattle.pap_tree.specs.Declarations.{Declaration}
use Rattle.pap_tree.specs.Flowchart.{Body, Routine}
use Rattle.pap_reader.specs.declared.elements.RawMethod.{RawMethod}
use Rattle.pap_reader.specs.Trees.{RawRoutine, raw_routine_of, ElementTree}
use Rattle.pap_reader.specs.TreeLimits.{raw_written, methods_written}
use Rattle.plan_text.specs.declared.fault.PlanFault.{PlanFault}
use Rattle.plan_text.specs.Sites.{Site, declared_sites, body_sites, routine_sites, sites_of}
use Rattle.pap_tree.specs.Names.{main_name}
use Rattle.plan_text.specs.Plans.{AreDeclarations, IsBody, AreRoutines}
use Rattle.plan_text.specs.private.Views.{TellsFault}
use Rattle.plan_text.proofs.SiteLemmas.{earlier, later}
use Rattle.plan_text.proofs.ReadLemmas.{declared_readable, body_readable}

-- ---- methods, as far as they are read

pub record AreRead (all left : List RawRoutine) (so_far : List Routine) : Type 0 where
  pub is : (more : List Routine) → AreRoutines left more → AreRoutines all (so_far ++ more)
  pub later : (f : PlanFault) → TellsFault (routine_sites left) f → TellsFault (routine_sites all) f
  pub room : methods_written left ≤ methods_written all

pub none_yet : (all : List RawRoutine) → AreRead all all []
none_yet all = record { is = λ more h. h; later = λ f h. h; room = omega arith }

pub method_fails : (all : List RawRoutine) (r : RawRoutine) (left : List RawRoutine) (so_far : List Routine) (f : PlanFault)
    → AreRead all (r ∷ left) so_far → TellsFault (body_sites r.name 0 r.body) f → TellsFault (routine_sites all) f
method_fails all r left so_far f h k = h.later f (earlier (body_sites r.name 0 r.body) (routine_sites left) f k)

pub one_more : (all : List RawRoutine) (r : RawRoutine) (left : List RawRoutine) (so_far : List Routine) (m : Routine)
    → AreRead all (r ∷ left) so_far → m.name ≡ r.name → IsBody r.body m.body → AreRead all left (so_far ++ (m ∷ []))
one_more all r left so_far m h name k = record {
  is = λ more own. subst (AreRoutines all) (sym (append_snoc so_far m more)) (h.is (m ∷ more) (name, k, own));
  later = λ f own. h.later f (later (body_sites r.name 0 r.body) (routine_sites left) f (body_readable r.name 0 r.body m.body k) own);
  room = omega (arith, h.room);
}

pub all_read : (all left : List RawRoutine) (ms : List Routine) → left ≡ [] → AreRead all left ms → AreRoutines all ms
all_read all left ms e h =
    subst (AreRoutines all) (append-nil ms) (h.is [] (subst (λ l. AreRoutines l []) (sym e) tt))

pub method_from : (rs : List RawMethod) (i : ℕ) (r : RawMethod) → r ≡ get_or rs i r → i < length rs → map raw_routine_of (drop i rs) ≡ raw_routine_of r ∷ map raw_routine_of (drop (i + 1) rs)
method_from rs i r is less =
    let next : suc i ≡ i + 1 = omega arith in
    ap (map raw_routine_of) (drop-cons rs i r less ∙ ap (λ x. x ∷ drop (suc i) rs) (sym is) ∙ ap (λ k. r ∷ drop k rs) next)

pub method_room : (all : List RawRoutine) (r : RawRoutine) (left : List RawRoutine) (so_far : List Routine) → AreRead all (r ∷ left) so_far → raw_written r.body ≤ methods_written all
method_room all r left so_far h = omega (arith, h.room)

-- ---- a fault of one part, behind those that are read

abbrev of_main : ElementTree → List Site
of_main x = body_sites main_name 0 x.main ++ routine_sites x.methods

abbrev of_constants : ElementTree → List Site
of_constants x = declared_sites x.constants ++ of_main x

abbrev of_internals : ElementTree → List Site
of_internals x = declared_sites x.internals ++ of_constants x

abbrev of_outputs : ElementTree → List Site
of_outputs x = declared_sites x.outputs ++ of_internals x

behind_inputs : (x : ElementTree) (f : PlanFault) (is : List Declaration) → AreDeclarations x.inputs is → TellsFault (of_outputs x) f → TellsFault (sites_of x) f
behind_inputs x f is h k = later (declared_sites x.inputs) (of_outputs x) f (declared_readable x.inputs is h) k

pub outputs_fail : (x : ElementTree) (f : PlanFault) (is : List Declaration) → AreDeclarations x.inputs is → TellsFault (declared_sites x.outputs) f → TellsFault (sites_of x) f
outputs_fail x f is h k = behind_inputs x f is h (earlier (declared_sites x.outputs) (of_internals x) f k)

behind_outputs : (x : ElementTree) (f : PlanFault) (is os : List Declaration) → AreDeclarations x.inputs is → AreDeclarations x.outputs os → TellsFault (of_internals x) f → TellsFault (sites_of x) f
behind_outputs x f is os hi ho k = behind_inputs x f is hi (later (declared_sites x.outputs) (of_internals x) f (declared_readable x.outputs os ho) k)

pub internals_fail : (x : ElementTree) (f : PlanFault) (is os : List Declaration) → AreDeclarations x.inputs is → AreDeclarations x.outputs os → TellsFault (declared_sites x.internals) f → TellsFault (sites_of x) f
internals_fail x f is os hi ho k = behind_outputs x f is os hi ho (earlier (declared_sites x.internals) (of_constants x) f k)

behind_internals : (x : ElementTree) (f : PlanFault) (is os ns : List Declaration) → AreDeclarations x.inputs is → AreDeclarations x.outputs os → AreDeclarations x.internals ns → TellsFault (of_constants x) f → TellsFault (sites_of x) f
behind_internals x f is os ns hi ho hn k = behind_outputs x f is os hi ho (later (declared_sites x.internals) (of_constants x) f (declared_readable x.internals ns hn) k)

pub constants_fail : (x : ElementTree) (f : PlanFault) (is os ns : List Declaration) → AreDeclarations x.inputs is → AreDeclarations x.outputs os → AreDeclarations x.internals ns → TellsFault (declared_sites x.constants) f → TellsFault (sites_of x) f
constants_fail x f is os ns hi ho hn k = behind_internals x f is os ns hi ho hn (earlier (declared_sites x.constants) (of_main x) f k)

behind_constants : (x : ElementTree) (f : PlanFault) (is os ns cs : List Declaration) → AreDeclarations x.inputs is → AreDeclarations x.outputs os → AreDeclarations x.internals ns → AreDeclarations x.constants cs → TellsFault (of_main x) f → TellsFault (sites_of x) f
behind_constants x f is os ns cs hi ho hn hc k = behind_internals x f is os ns hi ho hn (later (declared_sites x.constants) (of_main x) f (declared_readable x.constants cs hc) k)

pub main_fails : (x : ElementTree) (f : PlanFault) (is os ns cs : List Declaration) → AreDeclarations x.inputs is → AreDeclarations x.outputs os → AreDeclarations x.internals ns → AreDeclarations x.constants cs
    → TellsFault (body_sites main_name 0 x.main) f → TellsFault (sites_of x) f
main_fails x f is os ns cs hi ho hn hc k = behind_constants x f is os ns cs hi ho hn hc (earlier (body_sites main_name 0 x.main) (routine_sites x.methods) f k)

pub methods_fail : (x : ElementTree) (f : PlanFault) (is os ns cs : List Declaration) (main : Body) → AreDeclarations x.inputs is → AreDeclarations x.outputs os → AreDeclarations x.internals ns → AreDeclarations x.constants cs → IsBody x.main main
    → TellsFault (routine_sites x.methods) f → TellsFault (sites_of x) f
methods_fail x f is os ns cs main hi ho hn hc hm k = behind_constants x f is os ns cs hi ho hn hc (later (body_sites main_name 0 x.main) (routine_sites x.methods) f (body_readable main_name 0 x.main main hm) k)
