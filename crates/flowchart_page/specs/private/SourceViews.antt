-- What a page has beside its plan's elements, as its table shows it.
use Rattle.std.specs.Prelude.{option_map}
use Rattle.flowchart_methods.specs.declared.site.Site.{Site}
use Rattle.flowchart_page.specs.declared.chart.Source.{Source}
use Rattle.flowchart_page.specs.Declarations.{TableSource}
use Rattle.flowchart_page.specs.Judged.{finding_of}
use Rattle.flowchart_page.specs.Runs.{run_parts, run_internals}

abbrev pub table_source : Source → Site → TableSource
table_source source site = record {
  notes = source.notes.now;
  limits = source.limits.now;
  finding = finding_of source.verdict.now;
  internals = run_internals (option_map run_parts source.run);
  site = site;
}
