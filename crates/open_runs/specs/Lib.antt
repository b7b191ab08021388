pub mod OpenRuns
pub mod private
