pub mod Coverage
pub mod CoveredRuns
pub mod private
