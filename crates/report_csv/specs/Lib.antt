pub mod Reports
pub mod ReportTexts
pub mod TableParts
pub mod ReportLaws
pub mod private
