-- Places as the code has them.
use Rattle.std.specs.Prelude.{ℕ, List, [], ◌∷◌, Option, Some, None}
use Rattle.statement_list.specs.Statements.{Listed}
use Rattle.run_coverage.specs.declared.runs.StatementRuns.{StatementRuns}
use Rattle.coverage_text.specs.declared.sites.MethodSites.{MethodSites}
use Rattle.coverage_text.specs.declared.sites.Site.{Site}
use Rattle.coverage_text.specs.CoverageItems.{CoverageItem, CoveredMethod}
use Rattle.coverage_text.specs.FlowchartItems.{KnownPlaces, StatementSite, site_at, site_items, covered_method}

-- a statement
abbrev pub site_of : Site → StatementSite
site_of s = record { method = s.method; statement = s.statement; line = s.line; is_reachable = s.is_reachable }

-- what is known of the places of a method
abbrev pub known_of : MethodSites → KnownPlaces
known_of m = record { lines = m.lines.now; reached = m.reached.now }

-- the statement of a number of a method of this name
abbrev pub sites_of : MethodSites → List ℕ → ℕ → StatementSite
sites_of m name n = site_at (known_of m) m.number name n

-- the items of a statement; none where its runs aren't known
abbrev pub counted_items : StatementSite → Listed → Option StatementRuns → List CoverageItem
counted_items at s None = []
counted_items at s (Some r) = site_items at s r

-- a method with the items of its statements; none where they or their runs aren't known
abbrev pub counted_method : KnownPlaces → ℕ → List ℕ → Option (List Listed) → Option (List StatementRuns) → List CoveredMethod
counted_method known k m None rs = []
counted_method known k m (Some ss) None = []
counted_method known k m (Some ss) (Some rs) = covered_method known k m ss rs ∷ []
