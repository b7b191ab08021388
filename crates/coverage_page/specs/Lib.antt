pub mod CoverageMarks
pub mod CoverageParts
pub mod private
