mod ExpressionLemmas
pub mod RunLemmas
pub mod AnswerLemmas
pub mod UnsafeLemmas
pub mod FitLemmas
pub mod OperationLemmas
pub mod EndLemmas
