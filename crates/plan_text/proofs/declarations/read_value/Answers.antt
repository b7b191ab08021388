use Rattle.std.proofs.Common.{sym, subst}
use Rattle.pap_reader.specs.Trees.{raw_declaration_of}
use Rattle.plan_text.specs.Sites.{literal_sites}
use Rattle.plan_text.specs.private.Views.{TellsFault}
use Rattle.plan_text.proofs.DeclarationLemmas.{value_fails}
use Rattle.plan_text.proofs.declarations.read_value.Goals as goal

pub returns-in-Err : goal.returns-in-Err
returns-in-Err c =
    subst (TellsFault (literal_sites (raw_declaration_of c.args.raw.now))) (sym c.expr_fault.ensures)
    (value_fails c.args.raw.now c.in-Some.text c.deref.result.now c.in-Err.fault c.in-Some.is c.deref.ensures.value c.in-Err.ensures.fault)
