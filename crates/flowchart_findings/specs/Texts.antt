-- The text of findings: a line for each.
use Rattle.std.specs.Prelude.{ℕ, List, [], ◌++◌, codes, Option, Some, None}
use Rattle.std.specs.Fmt.{decimal}
use Rattle.std.specs.List.{flat_map}
use Rattle.plan_notes.specs.declared.tag.Mark.{Mark}
use Rattle.plain_words.specs.Places.{NamedText, place_text}
use Rattle.flowchart_findings.specs.declared.finding.Group.{Group}
use Rattle.flowchart_findings.specs.declared.finding.Group.TheVariants.{Input, Output, Internal, Constant}
use Rattle.flowchart_findings.specs.declared.finding.Finding.{Finding}
use Rattle.flowchart_findings.specs.declared.finding.Finding.TheVariants.{Unread, Unassigned, DeadMethod, DeadStatement, UnusedValue, NeverTrue, NeverFalse, LongCarry}
use Rattle.flowchart_findings.specs.Places.{TagBytes, tag_places, finding_byte}

-- what a declaration of a group is
abbrev pub group_word : Group → List ℕ
group_word Input = codes "input"
group_word Output = codes "output"
group_word Internal = codes "internal name"
group_word Constant = codes "constant"

-- what follows from a test that never holds, where its THEN has a first statement
abbrev pub then_words : Option ℕ → List ℕ
then_words (Some first) = codes ", so no run executes its THEN"
then_words None = []

-- what follows from a test that always holds, where its ELSE has a first statement
abbrev pub else_words : Option ℕ → List ℕ
else_words (Some first) = codes ", so no run executes its ELSE"
else_words None = []

-- by how much an output has more places than the limit of an input that carries it over, and what comes of it
abbrev pub carry_cause : List ℕ → ℕ → ℕ → List ℕ
carry_cause input places takes =
    decimal places ++ (codes " where the range file lets " ++ (input ++ (codes " have " ++ (decimal takes
    ++ codes ", so the next run of the year may have no inputs"))))

-- what helps
abbrev pub carry_remedy : List ℕ → ℕ → ℕ → List ℕ
carry_remedy input places takes =
    codes "end its value with setScale(" ++ (decimal takes ++ (codes ", BigDecimal.ROUND_..), or write places = "
    ++ (decimal places ++ (codes " in [input." ++ (input ++ codes "] where that is a BigDecimal")))))

-- The word of a finding and, behind a colon, its sentence, which says from what it follows: the text alone, or the ranges of the inputs.
abbrev pub finding_words : Finding → List ℕ
finding_words (Unread site) =
    codes "unread: by the text alone, no expression names the " ++ (group_word site.group ++ (codes " " ++ site.name))
finding_words (Unassigned site) =
    codes "unassigned: by the text alone, no EVAL assigns the " ++ (group_word site.group ++ (codes " " ++ (site.name
    ++ codes ", so it keeps the value that it begins with")))
finding_words (DeadMethod method number) =
    codes "dead-method: by the ranges of the inputs, no run executes the method " ++ method
finding_words (DeadStatement site) =
    codes "dead: by the ranges of the inputs, no run executes this statement of " ++ site.method
finding_words (UnusedValue site x) =
    codes "unused: by the text alone, no expression names " ++ (x ++ codes ", so the value of this EVAL is never read")
finding_words (NeverTrue site first) =
    codes "never-true: by the ranges of the inputs, the test of this IF never holds" ++ then_words first
finding_words (NeverFalse site first) =
    codes "never-false: by the ranges of the inputs, the test of this IF always holds" ++ else_words first
finding_words (LongCarry site input places takes) =
    codes "long-carry: by the ranges of the inputs, the output "
    ++ (site.name
    ++ (codes " may have more places than the input that carries it over, " ++ (carry_cause input places takes
    ++ (codes "; " ++ carry_remedy input places takes))))

-- these words behind a place, and the end of the line
abbrev pub words_line : Finding → List ℕ
words_line d = codes ": " ++ (finding_words d ++ codes "\n")

-- the line of a finding: NAME:LINE:COLUMN, its word and its sentence, with colons between them
abbrev pub finding_line : NamedText → TagBytes → Finding → List ℕ
finding_line file places d = place_text file (finding_byte places d) ++ words_line d

-- a line for each finding in the flowchart of a file with these tags
abbrev pub finding_lines : NamedText → List Mark → List Finding → List ℕ
finding_lines file marks found = flat_map (finding_line file (tag_places marks)) found
