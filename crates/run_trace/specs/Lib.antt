pub mod VariableValues
pub mod StepLines
pub mod RunTexts
pub mod RunPages
pub mod RunMarks
pub mod ShownRuns
pub mod private
