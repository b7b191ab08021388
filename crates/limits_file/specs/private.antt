pub mod AnswerViews
pub mod BindingViews
