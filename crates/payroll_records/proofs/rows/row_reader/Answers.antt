use Rattle.std.proofs.Common.{◌∙◌, inr, refl}
use Rattle.payroll_records.proofs.rows.row_reader.Goals as goal

pub returns-clause-reader : goal.returns-clause-reader
returns-clause-reader c =
    let fr = c.from_reader.ensures in
    let e = c.has_headers.ensures in
    let f = c.flexible.ensures in
    record {
      trim = rw (f, e) at fr.trim ∙ c.new.ensures.trim;
      ready = inr (inr (rw (f, e) at fr.has_headers, fr.headers));
      config = rw (f, e) at fr.config ∙ c.new.ensures.config;
      known = rw fr.source refl;
      between = rw fr.state refl;
    }

pub returns-clause-rows : goal.returns-clause-rows
returns-clause-rows c =
    let fr = c.from_reader.ensures in
    rw (fr.source, fr.state) refl
