pub mod LineLaws
pub mod KeepingLaws
pub mod ToldLaws
pub mod Laws
pub mod StepLaws
pub mod TurnLaws
pub mod DeliverLaws
pub mod MemoryLaws
pub mod SampleLaws
pub mod ThereLaws
mod AnswerLaws
