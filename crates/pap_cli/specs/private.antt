pub mod AnswerViews
pub mod ReasonViews
pub mod RunViews
pub mod SampleViews
pub mod SaveViews
pub mod WordViews
