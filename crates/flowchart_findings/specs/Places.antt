-- Where the elements begin of which something is found.
use Rattle.std.specs.Prelude.{ℕ, List, ◌++◌, map, filter, drop, Option, slice_get}
use Rattle.std.specs.Option.{option_and_then}
use Rattle.pap_reader.specs.declared.element.Element.TheVariants as elements
use Rattle.plan_notes.specs.declared.tag.Mark.{Mark}
use Rattle.plan_notes.specs.declared.tag.Starts.{Starts}
use Rattle.plan_notes.specs.declared.tag.Starts.TheVariants.{Of, OfStatements}
use Rattle.plan_notes.specs.Walks.{is_start}
use Rattle.source_lines.specs.Lines.{starts_before}
use Rattle.flowchart_findings.specs.declared.finding.Group.{Group}
use Rattle.flowchart_findings.specs.declared.finding.Group.TheVariants.{Input, Output, Internal, Constant}
use Rattle.flowchart_findings.specs.declared.finding.DeclarationSite.{DeclarationSite}
use Rattle.flowchart_findings.specs.declared.finding.StatementSite.{StatementSite}
use Rattle.flowchart_findings.specs.declared.finding.Finding.{Finding}
use Rattle.flowchart_findings.specs.declared.finding.Finding.TheVariants.{Unread, Unassigned, DeadMethod, DeadStatement, UnusedValue, NeverTrue, NeverFalse, LongCarry}

-- the bytes at which the start tags that are looked for begin, in the order of the file
abbrev pub tag_bytes : Starts → List Mark → List ℕ
tag_bytes starts marks = map (λ m. m.at) (filter (is_start starts) marks)

-- the bytes at which the elements of a file begin; of each method, MAIN first, also how many statements of the file begin before it
pub record TagBytes : Type 0 where
  pub inputs : List ℕ
  pub outputs : List ℕ
  pub internals : List ℕ
  pub constants : List ℕ
  pub methods : List ℕ
  pub firsts : List ℕ
  pub statements : List ℕ

-- those of a file with these tags
abbrev pub tag_places : List Mark → TagBytes
tag_places marks = record {
  inputs = tag_bytes (Of elements.Input) marks;
  outputs = tag_bytes (Of elements.Output) marks;
  internals = tag_bytes (Of elements.Internal) marks;
  constants = tag_bytes (Of elements.Constant) marks;
  methods = tag_bytes (Of elements.Main) marks ++ tag_bytes (Of elements.Method) marks;
  firsts = starts_before elements.Main 0 marks ++ starts_before elements.Method 0 marks;
  statements = tag_bytes OfStatements marks;
}

-- those of the declarations of a group
abbrev pub group_bytes : TagBytes → Group → List ℕ
group_bytes places Input = places.inputs
group_bytes places Output = places.outputs
group_bytes places Internal = places.internals
group_bytes places Constant = places.constants

-- the byte at which a declaration begins
abbrev pub declaration_byte : TagBytes → DeclarationSite → Option ℕ
declaration_byte places site = slice_get (group_bytes places site.group) site.number

-- the byte at which a statement begins
abbrev pub statement_byte : TagBytes → StatementSite → Option ℕ
statement_byte places site =
    option_and_then (λ first. slice_get (drop first places.statements) site.statement)
    (slice_get places.firsts site.method_number)

-- the byte at which that begins of which something is found
abbrev pub finding_byte : TagBytes → Finding → Option ℕ
finding_byte places (Unread site) = declaration_byte places site
finding_byte places (Unassigned site) = declaration_byte places site
finding_byte places (DeadMethod method number) = slice_get places.methods number
finding_byte places (DeadStatement site) = statement_byte places site
finding_byte places (UnusedValue site x) = statement_byte places site
finding_byte places (NeverTrue site first) = statement_byte places site
finding_byte places (NeverFalse site first) = statement_byte places site
finding_byte places (LongCarry site input most takes) = declaration_byte places site
