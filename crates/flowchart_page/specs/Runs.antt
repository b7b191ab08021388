-- What a page shows of a run, or of all runs.
use Rattle.std.specs.Prelude.{ℕ, List, [], ◌∷◌, ◌++◌, codes, map, Option, Some, None}
use Rattle.std.specs.Fmt.{decimal}
use Rattle.flowchart_methods.specs.Marks.{Marked}
use Rattle.flowchart_page.specs.declared.chart.RunShown.{RunShown}
use Rattle.flowchart_page.specs.declared.subject.Subject.{Subject}
use Rattle.flowchart_page.specs.declared.subject.Subject.TheVariants.{Flowchart as OfFlowchart}

-- what the page shows, the part of it that tells of the run, what is known of the statements of each method, and the ranges of internals
pub record RunParts : Type 0 where
  pub subject : Subject
  pub part : List ℕ
  pub marks : List (List Marked)
  pub internals : List (List ℕ)

-- what the code hands over
abbrev pub run_parts : RunShown → RunParts
run_parts r = record {
  subject = r.subject;
  part = r.part.now;
  marks = r.marks.now;
  internals = map (λ t. t.items) r.internals.now;
}

-- what is known of all runs: no part of the page tells of one
abbrev pub all_runs : List (List Marked) → List (List ℕ) → RunParts
all_runs marks internals = record { subject = OfFlowchart; part = []; marks = marks; internals = internals }

-- the sentence that says at which statement the walk over the ranges stops, by its method and its number there
abbrev pub stop_text : List ℕ → ℕ → List ℕ
stop_text method number =
    codes "<p class=\"blocked\">The walk over the ranges stops at <a href=\"#"
    ++ (method ++ (codes ":" ++ (decimal number
    ++ (codes "\">"
    ++ (method ++ (codes ":" ++ (decimal number
    ++ codes "</a>. What stands behind it was not walked.</p>\n")))))))

-- what is known of all runs where the walk over the ranges stops at a statement: the ranges of internals aren't known then
abbrev pub stopped_runs : List ℕ × ℕ → List (List Marked) → RunParts
stopped_runs stop marks = record {
  subject = OfFlowchart;
  part = stop_text stop.0 stop.1;
  marks = marks;
  internals = [];
}

-- what the page shows: the flowchart alone where there is no run
abbrev pub run_subject : Option RunParts → Subject
run_subject (Some run) = run.subject
run_subject None = OfFlowchart

-- the part of the page, where there is a run
abbrev pub run_texts : Option RunParts → List (List ℕ)
run_texts (Some run) = run.part ∷ []
run_texts None = []

-- what is known of the statements of each method: nothing where there is no run
abbrev pub run_marks : Option RunParts → List (List Marked)
run_marks (Some run) = run.marks
run_marks None = []

-- the ranges of the internals: nothing where there is no run
abbrev pub run_internals : Option RunParts → List (List ℕ)
run_internals (Some run) = run.internals
run_internals None = []
