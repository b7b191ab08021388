use Rattle.payroll_records.proofs.ReaderLemmas.{reads}
use Rattle.payroll_records.proofs.rows.next_row.Goals as goal

pub returns : goal.returns
returns g c =
    reads g.R.Read.remaining c.args.reader.now c.read_byte_record.new.self c.in-Ok.found _ c.requires
    (c.in-Ok.ensures.ready c.requires.trim) (c.in-Ok.ensures.reads c.requires.trim c.requires.ready)
