-- The coverage items of a flowchart, each with how many runs came there.
use Rattle.std.specs.Prelude.{ℕ, ◌+◌, Bool, true, false, if◌then◌else◌, List, [], ◌∷◌, ◌++◌, codes, Option, Some, None}
use Rattle.std.specs.BTreeSet.{BTreeSet, contains}
use Rattle.std.specs.Fmt.{decimal as number}
use Rattle.pap_tree.specs.Names.{main_name}
use Rattle.pap_tree.specs.Flowchart.{Flowchart}
use Rattle.pap_types.specs.Routines.{method_names}
use Rattle.interval_analysis.specs.Surveys.{StatementPlace, place_cmp}
use Rattle.statement_list.specs.Statements.{Listed, listed_methods}
use Rattle.statement_list.specs.declared.statement.Form.{Form}
use Rattle.statement_list.specs.declared.statement.Form.TheVariants.{Set, Test, Enter}
use Rattle.source_lines.specs.Lines.{FileLines, line_at}
use Rattle.run_trace.specs.StepLines.{line_words, answer_words}
use Rattle.run_coverage.specs.declared.runs.StatementRuns.{StatementRuns}
use Rattle.coverage_text.specs.declared.item.ExitRuns.{ExitRuns}
use Rattle.coverage_text.specs.declared.sites.Known.{Known}
use Rattle.coverage_text.specs.CoverageItems.{CoverageItem, CoveredMethod}

-- ---- places

-- what is known of a flowchart's places: the lines of its file, and the statements to which a run within the ranges may come
pub record KnownPlaces : Type 0 where
  pub lines : FileLines
  pub reached : BTreeSet StatementPlace

-- the same as the code has it
abbrev pub known_in : Known → KnownPlaces
known_in k = record { lines = k.lines.now; reached = k.reached.now }

-- a statement: its method, its number in it, the line of the file on which it begins, and whether a run may come there
pub record StatementSite : Type 0 where
  pub method : List ℕ
  pub statement : ℕ
  pub line : Option ℕ
  pub is_reachable : Bool

-- the statement of a number of a method, which has a number too: MAIN is method 0, the others are counted from 1
abbrev pub site_at : KnownPlaces → ℕ → List ℕ → ℕ → StatementSite
site_at known k m n = record {
  method = m;
  statement = n;
  line = line_at known.lines k n;
  is_reachable = contains place_cmp known.reached (m, n);
}

-- ---- words

-- METHOD:N and the line of the file
abbrev pub site_words : StatementSite → List ℕ
site_words at = at.method ++ (codes ":" ++ (number at.statement ++ (codes "  " ++ line_words at.line)))

-- what stands before the expression: set NAME by, nothing before a test; execute METHOD has no expression
abbrev pub form_words : Form → List ℕ
form_words (Set x) = codes "set " ++ (x ++ codes " by ")
form_words Test = []
form_words (Enter m) = codes "execute " ++ m

-- a statement at its place, with what is told behind it
abbrev pub statement_words : StatementSite → Listed → List ℕ → List ℕ
statement_words at s behind = site_words at ++ (form_words s.form ++ (s.text ++ behind))

-- ---- items

-- how many of a statement's runs took its exits: only a test has some, and none where no run may come there
abbrev pub exit_runs : Form → StatementSite → StatementRuns → Option ExitRuns
exit_runs (Set x) at r = None
exit_runs Test at r = if at.is_reachable then Some (record { yes = r.yes; no = r.no }) else None
exit_runs (Enter m) at r = None

-- the item of a statement, to which so many runs came, and of whose exits so many took each
abbrev pub statement_item : StatementSite → Listed → ℕ → Option ExitRuns → CoverageItem
statement_item at s runs exits = record {
  statement = at.statement;
  words = statement_words at s [];
  is_exit = false;
  is_reachable = at.is_reachable;
  runs = runs;
  exits = exits;
}

-- the item of an exit of a test
abbrev pub exit_item : StatementSite → Listed → Bool → ℕ → CoverageItem
exit_item at s holds runs = record {
  statement = at.statement;
  words = statement_words at s (answer_words holds);
  is_exit = true;
  is_reachable = true;
  runs = runs;
  exits = None;
}

-- the items of the exits of a test, yes and no
abbrev pub exit_items : StatementSite → Listed → Option ExitRuns → List CoverageItem
exit_items at s (Some exits) = exit_item at s true exits.yes ∷ exit_item at s false exits.no ∷ []
exit_items at s None = []

-- the items of a statement of whose exits so many runs took each: itself, and its exits
abbrev pub counted_site : StatementSite → Listed → ℕ → Option ExitRuns → List CoverageItem
counted_site at s runs exits = statement_item at s runs exits ∷ exit_items at s exits

-- the items of a statement: itself, and its exits
abbrev pub site_items : StatementSite → Listed → StatementRuns → List CoverageItem
site_items at s r = counted_site at s r.runs (exit_runs s.form at r)

-- the items of a method's statements, which are numbered from n on
abbrev pub body_items : (ℕ → StatementSite) → ℕ → List Listed → List StatementRuns → List CoverageItem
body_items at n [] rs = []
body_items at n (s ∷ ss) [] = []
body_items at n (s ∷ ss) (r ∷ rs) = site_items (at n) s r ++ body_items at (n + 1) ss rs

-- a method with the items of its statements
abbrev pub covered_method : KnownPlaces → ℕ → List ℕ → List Listed → List StatementRuns → CoveredMethod
covered_method known k m ss rs = record { name = m; items = body_items (site_at known k m) 0 ss rs }

-- methods with the items of their statements, which are numbered from k on
abbrev pub covered_methods : KnownPlaces → ℕ → List (List ℕ) → List (List Listed) → List (List StatementRuns)
    → List CoveredMethod
covered_methods known k [] sss rss = []
covered_methods known k (m ∷ ms) [] rss = []
covered_methods known k (m ∷ ms) (ss ∷ sss) [] = []
covered_methods known k (m ∷ ms) (ss ∷ sss) (rs ∷ rss) =
    covered_method known k m ss rs ∷ covered_methods known (k + 1) ms sss rss

-- the names of a flowchart's methods, MAIN first
abbrev pub all_names : Flowchart → List (List ℕ)
all_names f = main_name ∷ method_names f.methods

-- the methods of a flowchart with the items of their statements, given how many runs came to each statement and took each exit
abbrev pub flowchart_items : Flowchart → KnownPlaces → List (List StatementRuns) → List CoveredMethod
flowchart_items f known runs = covered_methods known 0 (all_names f) (listed_methods f) runs
