use Rattle.std.proofs.Common.{rules, ◌≢◌, ℕ, List, refl}
use Rattle.pap_reader.specs.declared.fault.ReadFault.{ReadFault}
use Rattle.pap_reader.specs.declared.fault.ReadFault.TheVariants as reads
use Rattle.pap_reader.specs.Elements.{IsFault, IsFaultOrMemory}
use Rattle.pap_reader.proofs.Laws.{never_both}
use Rattle.plain_words.proofs.sites.parts_of.Goals as goal

-- a fault that isn't want of memory
is_fault : (bytes : List ℕ) (f : ReadFault) → f ≢ reads.Memory → IsFaultOrMemory bytes f → IsFault bytes f
is_fault bytes (reads.Text at) other h = h
is_fault bytes (reads.Element at) other h = h
is_fault bytes (reads.Attribute at) other h = h
is_fault bytes (reads.Many which) other h = h
is_fault bytes reads.Memory other h = absurd (other refl)

pub returns-in-Err : goal.returns-in-Err
returns-in-Err c =
    let fault = c.in-Err.field-0 in
    let other : fault ≢ reads.Memory = search rules in
    let bytes = c.args.file.now in
    record {
      read = tt;
      unread = λ tree is. never_both bytes tree fault is (is_fault bytes fault other c.in-Err.ensures.refused);
    }
