pub mod CoverageItems
pub mod CoverageTexts
pub mod FlowchartItems
pub mod Shares
pub mod private
