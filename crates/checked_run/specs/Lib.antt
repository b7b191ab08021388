pub mod FailureTexts
pub mod OperationFailures
pub mod RunEnds
pub mod RunFailures
pub mod private
