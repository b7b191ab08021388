mod OperationLemmas
mod ExpressionLemmas
mod MethodLemmas
mod RunLemmas
pub mod ThereLemmas
mod ReplayLemmas
pub mod OutputLemmas
mod BookLemmas
pub mod Laws
pub mod AnswerLemmas
